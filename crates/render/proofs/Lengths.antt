-- How long the lines of a plan's text are.
use Prim.Native.Nat.{ℕ, zero, suc, ◌+◌, ◌<◌}
use mathlib.Core.Path.{◌≡◌, refl, ap, ◌∙◌}
use mathlib.Core.Bool.{Bool, true, false}
use mathlib.Core.List.{List, ◌++◌}
use native.Mathlib.Omega.{arith}
use lib.IntN.{ℤ}
use lib.ListN.{length, length-append}
use Rattle.operators.specs.Operators.{name_of}
use Rattle.lines.specs.Form.{ending, value_key, out_key}
use Rattle.text.specs.Grammar.{plan_line, streams_key, op_key, first_key, second_key}
use Rattle.decimal.specs.Decimal.{decimal, value_text}
use Rattle.render.specs.Render.{bit_text, line, stream_text, opening}

pub line_length : (key value : List ℕ) → length (line key value) ≡ length key + (length value + 1)
line_length key value = length-append key (value ++ ending) ∙ ap (λ (n : ℕ). length key + n) (length-append value ending)

pub bit_length : (b : Bool) → length (bit_text b) ≡ 1
bit_length true = refl
bit_length false = refl

-- the five lines: the keys, the ends and out have 19 bytes
pub stream_length : (op a b : ℕ) (k : ℤ) (out : Bool) → length (stream_text op a b k out) ≡ 19 + length (name_of op) + length (decimal a) + length (decimal b) + length (value_text k)
unfolding stream_text
stream_length op a b k out =
    let o = line out_key (bit_text out) in
    let v = line value_key (value_text k) in
    let y = line second_key (decimal b) in
    let x = line first_key (decimal a) in
    let w = line op_key (name_of op) in
    rw (length-append w (x ++ (y ++ (v ++ o))), length-append x (y ++ (v ++ o)), length-append y (v ++ o), length-append v o)
    (omega (arith, line_length op_key (name_of op), line_length first_key (decimal a), line_length second_key (decimal b), line_length value_key (value_text k), line_length out_key (bit_text out), bit_length out))

-- the first two lines, of a plan that has streams
pub opening_some : (n : ℕ) → 0 < n → opening n ≡ plan_line ++ line streams_key (decimal n)
opening_some zero h = absurd (omega arith)
opening_some (suc n) h = refl

pub opening_length : (n : ℕ) → 0 < n → length (opening n) ≡ 16 + length (decimal n)
opening_length n h = ap length (opening_some n h) ∙ length-append plan_line (line streams_key (decimal n)) ∙ ap (λ (m : ℕ). 7 + m) (line_length streams_key (decimal n)) ∙ close (length (decimal n))
  where
    close : (m : ℕ) → 7 + (8 + (m + 1)) ≡ 16 + m
    close m = omega arith
