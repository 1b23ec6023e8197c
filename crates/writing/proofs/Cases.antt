-- What the call answers, case by case, and that a refusal leaves the buffer.
use Prim.Native.Nat.{ℕ, ◌+◌, ◌<◌, ◌≤◌}
use mathlib.Core.Path.{◌≡◌, refl, ap, ◌∙◌}
use mathlib.Core.Bool.{Bool, true, false, cond}
use mathlib.Core.List.{List, ◌++◌}
use native.Mathlib.Omega.{arith}
use lib.Dec.{ltb}
use lib.ListN.{length, drop, length-append}
use lib.Seq.{sets, sets-eq}
use borrow.Author.Tests.{lt-ltb, le-ltb}
use Rattle.valid.specs.Valid.{valid}
use Rattle.writing.specs.Text.{TextReply, no_text, text_there, given, text_in, plan_text}

module _ (w b : List ℕ) where
  pub given_short : length b < length w → given w b ≡ no_text 19 b
  unfolding given
  given_short h = rw (lt-ltb (length b) (length w) h)

  pub given_there : length w ≤ length b → given w b ≡ text_there w b
  unfolding given
  given_there h = rw (le-ltb (length b) (length w) h)

  -- put at the start
  pub there_put : length w ≤ length b → sets b 0 w ≡ (text_there w b).buffer
  there_put h = let z : 0 + length w ≡ length w = omega arith in sets-eq w b 0 (omega arith) ∙ ap (λ (j : ℕ). w ++ drop j b) z

pub text_state : (s b : List ℕ) → valid s ≡ true → plan_text s b ≡ given (text_in s) b
unfolding plan_text
text_state s b e = rw e

pub text_none : (s b : List ℕ) → valid s ≡ false → plan_text s b ≡ no_text 15 b
unfolding plan_text
text_none s b e = rw e

-- ---- a refusal leaves the buffer

abbrev Leaves : TextReply → List ℕ → Type 0
Leaves r b = (r.number ≡ 0 → ⊥) → (r.length ≡ 0) × (r.buffer ≡ b)

given_leaves : (w b : List ℕ) → Leaves (given w b) b
unfolding given
given_leaves w b = go (ltb (length b) (length w))
  where
    go : (x : Bool) → Leaves (cond x (no_text 19 b) (text_there w b)) b
    go true h = (refl, refl)
    go false h = absurd (h refl)

pub text_refused : (s b : List ℕ) → ((plan_text s b).number ≡ 0 → ⊥) → ((plan_text s b).length ≡ 0) × ((plan_text s b).buffer ≡ b)
unfolding plan_text
text_refused s b = go (valid s)
  where
    go : (x : Bool) → Leaves (cond x (given (text_in s) b) (no_text 15 b)) b
    go true h = given_leaves (text_in s) b h
    go false h = (refl, refl)

-- ---- a text that was written

-- 0 is said of a state whose text the buffer has room for
pub text_written : (s b : List ℕ) → (plan_text s b).number ≡ 0 → (valid s ≡ true) × (plan_text s b ≡ text_there (text_in s) b)
unfolding plan_text given
text_written s b = go (valid s) refl
  where
    fits : (x : Bool) → (cond x (no_text 19 b) (text_there (text_in s) b)).number ≡ 0 → cond x (no_text 19 b) (text_there (text_in s) b) ≡ text_there (text_in s) b
    fits true e = absurd (omega arith)
    fits false e = refl

    go : (x : Bool) → valid s ≡ x → (cond x (given (text_in s) b) (no_text 15 b)).number ≡ 0 → (x ≡ true) × (cond x (given (text_in s) b) (no_text 15 b) ≡ text_there (text_in s) b)
    go true v e = (refl, fits (ltb (length b) (length (text_in s))) e)
    go false v e = absurd (omega arith)

-- the length is never above that of the buffer that is left
pub text_within : (s b t : List ℕ) (n : ℕ) → n ≡ (plan_text s b).length → t ≡ (plan_text s b).buffer → n ≤ length t
unfolding plan_text given
text_within s b t n e f = rw (e, f) (go (valid s))
  where
    fits : (x : Bool) → (cond x (no_text 19 b) (text_there (text_in s) b)).length ≤ length (cond x (no_text 19 b) (text_there (text_in s) b)).buffer
    fits true = omega arith
    fits false = rw (length-append (text_in s) (drop (length (text_in s)) b)) (omega arith)

    go : (x : Bool) → (cond x (given (text_in s) b) (no_text 15 b)).length ≤ length (cond x (given (text_in s) b) (no_text 15 b)).buffer
    go true = fits (ltb (length b) (length (text_in s)))
    go false = omega arith
