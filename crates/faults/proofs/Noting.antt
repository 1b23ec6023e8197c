-- The graph of the streams of a text that was read, noted stream by stream.
use Prim.Native.Nat.{ℕ, ◌+◌, ◌*◌, ◌-◌, ◌<◌, ◌≤◌}
use mathlib.Core.Path.{◌≡◌, sym, ap, ◌∙◌, subst}
use mathlib.Core.Bool.{true}
use mathlib.Core.List.{List}
use native.Mathlib.Omega.{arith}
use lib.Dec.{lit<}
use lib.Seq.{sets}
use Rattle.operators.specs.Operators.{uses_a, uses_b}
use Rattle.operators.proofs.Tests.{left, right}
use Rattle.operators.proofs.Rules.{arg_small, first_ok, second_ok}
use Rattle.cycle.specs.Graph.{entry_of}
use Rattle.text.specs.declared.Fields.{Fields}
use Rattle.std.specs.Prelude.{Result, Ok, Err}
use Rattle.refusal.specs.declared.Refusal.{Refusal}
use Rattle.text.specs.Grammar.{stream}
use Rattle.plan.specs.Rules.{keeps, all_keep, Form, refused, formed, put, others, streams}
use Rattle.plan.specs.Pass.{noted_all}
use Rattle.plan.proofs.Pass.{turn_streams, noted_kept}
use Rattle.faults.specs.Search.{Kept, noted_form}

-- arguments of a stream that keeps rule 5 fit a byte
module _ (n : ℕ) (f : Fields) (h : n ≤ 256) (e : keeps n f ≡ true) where
  pub first_small : f.a < 256
  first_small = arg_small (uses_a f.op) n f.a (first_ok n f.op f.a f.b f.k f.out e) 256 (lit< tt) h

  pub second_small : f.b < 256
  second_small = arg_small (uses_b f.op) n f.b (second_ok n f.op f.a f.b f.k f.out e) 256 (lit< tt) h

put_kept : (n : ℕ) (f : Fields) (x : Form) → Kept n (put f x) → (keeps n f ≡ true) × Kept n x
unfolding all_keep
put_kept n f (refused r) h = absurd h
put_kept n f (formed fs end) h = (left (keeps n f) (all_keep n fs) h, right (keeps n f) (all_keep n fs) h)

put_noted : (n i : ℕ) (f : Fields) (g : List ℕ) (x : Form) → Kept n (put f x) → noted_form n (i + 1) x (sets g (3 * i) (entry_of f.op f.a f.b)) ≡ noted_form n i (put f x) g
unfolding noted_all
put_noted n i f g (refused r) h = absurd h
put_noted n i f g (formed fs end) h = ap (λ (l : List ℕ). noted_all n (i + 1) fs l) (noted_kept n i f g (put_kept n f (formed fs end) h).0)

module _ (s : List ℕ) (n i p : ℕ) where
  opened : i < n → (l : Result Fields Refusal) → stream s p ≡ l → streams s p (n - i) ≡ others l (λ f. streams s f.next (n - (i + 1)))
  opened h l e =
      let m : n - i - 1 ≡ n - (i + 1) = omega arith in
      turn_streams s (n - i) p (omega arith) ∙ rw (m, e)

  module _ (h : i < n) (k : Kept n (streams s p (n - i))) where
    pub kept_stream : (r : Refusal) → stream s p ≡ Err r → ⊥
    kept_stream r e = rw (opened h (Err r) e) at k

    module _ (f : Fields) (e : stream s p ≡ Ok f) where
      kept_put : Kept n (put f (streams s f.next (n - (i + 1))))
      kept_put = subst (Kept n) (opened h (Ok f) e) k

      pub kept_here : keeps n f ≡ true
      kept_here = (put_kept n f (streams s f.next (n - (i + 1))) kept_put).0

      pub kept_next : Kept n (streams s f.next (n - (i + 1)))
      kept_next = (put_kept n f (streams s f.next (n - (i + 1))) kept_put).1

      pub noted_next : (g g₁ : List ℕ) → g₁ ≡ sets g (3 * i) (entry_of f.op f.a f.b) → noted_form n (i + 1) (streams s f.next (n - (i + 1))) g₁ ≡ noted_form n i (streams s p (n - i)) g
      noted_next g g₁ q =
          ap (noted_form n (i + 1) (streams s f.next (n - (i + 1)))) q ∙ put_noted n i f g (streams s f.next (n - (i + 1))) kept_put ∙ ap (λ (x : Form). noted_form n i x g) (sym (opened h (Ok f) e))

  pub noted_end : n ≤ i → (g : List ℕ) → g ≡ noted_form n i (streams s p (n - i)) g
  unfolding streams noted_all
  noted_end h g =
      let z : n - i ≡ 0 = omega arith in
      rw z
