-- A text that has a whole line from a position on, or all that is left of a trace, reads the trace's line there.
use Prim.Native.Nat.{ℕ, ◌+◌, ◌-◌, ◌<◌, ◌≤◌}
use mathlib.Core.Path.{◌≡◌, refl, sym, ap, ◌∙◌}
use mathlib.Core.Logic.{inl, inr}
use mathlib.Core.List.{List, [], ◌++◌}
use native.Mathlib.Omega.{arith}
use native.Mathlib.Decide.{dec_lt}
use native.Mathlib.Nat.{zero-add}
use lib.Dec.{ltb}
use lib.ListN.{length, get_or, drop, length-append, length-drop, get_or-append, get_or-eq_default}
use lib.Seq.{get_or-drop}
use borrow.Author.Tests.{lt-ltb, le-ltb}
use Rattle.trace.specs.declared.Record.{Record}
use Rattle.std.specs.Prelude.{Option, Some, None}
use Rattle.trace.specs.Trace.{line}
use Rattle.trace.proofs.Bounds.{same_first, same_second}
use Rattle.trace.proofs.Ends.{line_ends}
use Rattle.chunks.specs.Window.{Same, Alike, read, bad, Enough}
use Rattle.chunks.proofs.Alike.{line_alike}

-- the trace is the text from the position on, and what follows it
module _ (text : List ℕ) (at : ℕ) (more : List ℕ) (inside : at ≤ length text) (enough : Enough text at more) where
  size : length (drop at text ++ more) ≡ (length text - at) + length more
  size = length-append (drop at text) more ∙ ap (λ k. k + length more) (length-drop at text)

  same : Same text at (drop at text ++ more) 0 42
  same i h = go (dec_lt i (length text - at)) enough
    where
      go : Dec (i < length text - at) → Enough text at more
          → (ltb (at + i) (length text) ≡ ltb (0 + i) (length (drop at text ++ more))) × (get_or text (at + i) 0 ≡ get_or (drop at text ++ more) (0 + i) 0)
      go (yes l) e = (
        lt-ltb (at + i) (length text) (omega arith) ∙ sym (lt-ltb (0 + i) (length (drop at text ++ more)) (omega (arith, size))),
        rw (zero-add i) (sym (get_or-drop at text i 0) ∙ sym (get_or-append (drop at text) more 0 i (omega (arith, length-drop at text)))),
      )
      go (no l) (inl e) = absurd (omega (arith, l))
      go (no l) (inr e) =
          let z = size ∙ ap (λ (m : List ℕ). (length text - at) + length m) e in (
            le-ltb (at + i) (length text) (omega (arith, l)) ∙ sym (le-ltb (0 + i) (length (drop at text ++ more)) (omega (arith, z, l))),
            get_or-eq_default text 0 {n = at + i} (omega (arith, l)) ∙ sym (get_or-eq_default (drop at text ++ more) 0 {n = 0 + i} (omega (arith, z, l))),
          )

  pub window_line : Alike at 0 (line text at) (line (drop at text ++ more) 0)
  window_line = line_alike text at (drop at text ++ more) 0 42 same (omega arith)

  alike_read : {x y : Option (Record × ℕ)} → Alike at 0 x y → (r : Record) (next : ℕ) → x ≡ Some (r, next) → (k : ℕ) × (next ≡ at + k) × (y ≡ Some (r, k))
  alike_read (read q k) r next e =
      let a : q ≡ r = same_first e in
      let b : at + k ≡ next = same_second e in
      (k, sym b, rw (zero-add k) (ap (λ (q : Record). Some (q, k)) a))
  alike_read bad r next e = let z : ◌≡◌ {A = ℕ} 0 1 = cc in absurd (omega arith)

  alike_bad : {x y : Option (Record × ℕ)} → Alike at 0 x y → x ≡ None → y ≡ None
  alike_bad (read q k) e = let z : ◌≡◌ {A = ℕ} 0 1 = cc in absurd (omega arith)
  alike_bad bad e = refl

  -- the same record, as many bytes on
  pub window_read : (r : Record) (next : ℕ) → line text at ≡ Some (r, next) → (k : ℕ) × (next ≡ at + k) × (line (drop at text ++ more) 0 ≡ Some (r, k))
  window_read r next e = alike_read window_line r next e

  pub window_bad : line text at ≡ None → line (drop at text ++ more) 0 ≡ None
  window_bad e = alike_bad window_line e

-- a line that was read ends within the text, past its start
pub window_next : (text : List ℕ) (at : ℕ) → at ≤ length text → (r : Record) (next : ℕ) → line text at ≡ Some (r, next) → (at < next) × (next ≤ length text)
window_next text at inside r next e =
    let x = window_read text at [] inside (inr refl) r next e in
    let p = x.1 in
    (omega (arith, (line_ends (drop at text ++ []) 0 r x.0 x.2).some), (line_ends text at r next e).inside)
