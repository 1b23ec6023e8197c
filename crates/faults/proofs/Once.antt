-- A text has one fault at most.
use Prim.Native.Nat.{ℕ, ◌<◌}
use mathlib.Core.Path.{◌≡◌, refl, sym, ap, ◌∙◌}
use mathlib.Core.Bool.{Bool, true, false, cond}
use mathlib.Core.List.{List}
use native.Mathlib.Omega.{arith}
use native.Mathlib.Decide.{dec_lt}
use lib.Dec.{eqb, ltb}
use lib.ListN.{length}
use borrow.Author.Tests.{eqb-true, eqb-false}
use Rattle.meaning.specs.Plan.{Plan}
use Rattle.meaning.specs.CycleTest.{acyclic}
use Rattle.operators.specs.Limits.{text_limit}
use Rattle.std.specs.Prelude.{Result, Ok, Err}
use Rattle.refusal.specs.declared.Refusal.{Refusal}
use Rattle.text.specs.Grammar.{head}
use Rattle.faults.specs.declared.Fault.{Fault}
use Rattle.faults.specs.Faults.{fault, none, in_stream, or_next, form_fault, rule_fault, window_fault, Lowest, cycle_fault, plan_of, fault_of_head, fault_with, Found}
use Rattle.faults.proofs.Number.{found_number}

-- the lowest stream that leads to itself is one
lowest_once : (plan : Plan) (x y : ℕ) → Lowest plan x → Lowest plan y → x ≡ y
lowest_once plan x y g h = by (dec_lt x y) (dec_lt y x)
  where
    by : Dec (x < y) → Dec (y < x) → x ≡ y
    by (yes l) d = absurd (h.below x l g.itself)
    by (no l) (yes m) = absurd (g.below y m h.itself)
    by (no l) (no m) = omega arith

-- the stream of a cycle is asked for by 6 alone
or_elsewhere : (f g h : Fault) → ((g.number ≡ 6 → ⊥) → g ≡ h) → ((or_next f g).number ≡ 6 → ⊥) → or_next f g ≡ or_next f h
or_elsewhere f g h k = by (eqb f.line 0)
  where
    by : (b : Bool) → ((cond b g f).number ≡ 6 → ⊥) → cond b g f ≡ cond b h f
    by true z = k z
    by false z = refl

module _ (cap : ℕ) (s : List ℕ) (c d : ℕ) where
  abbrev cycles : ℕ → Fault
  cycles x = cycle_fault cap (plan_of cap s) x

  cycle_elsewhere : ((cycles c).number ≡ 6 → ⊥) → cycles c ≡ cycles d
  cycle_elsewhere = by (acyclic cap (plan_of cap s))
    where
      by : (b : Bool) → ((cond b none (in_stream 6 c 0)).number ≡ 6 → ⊥) → cond b none (in_stream 6 c 0) ≡ cond b none (in_stream 6 d 0)
      by true h = refl
      by false h = absurd (h refl)

  elsewhere_head : (x : Result (ℕ × ℕ) Refusal) → ((fault_of_head cap s c x).number ≡ 6 → ⊥) → fault_of_head cap s c x ≡ fault_of_head cap s d x
  elsewhere_head (Err r) h = refl
  elsewhere_head (Ok (n, at)) h = or_elsewhere (form_fault s 0 at n) (rules c) (rules d) (or_elsewhere (rule_fault s n at) (windows c) (windows d) (or_elsewhere (window_fault s n at) (cycles c) (cycles d) cycle_elsewhere)) h
    where
      windows : ℕ → Fault
      windows x = or_next (window_fault s n at) (cycles x)

      rules : ℕ → Fault
      rules x = or_next (rule_fault s n at) (windows x)

  elsewhere : ((fault_with cap s c).number ≡ 6 → ⊥) → fault_with cap s c ≡ fault_with cap s d
  unfolding fault_with
  elsewhere h = by (ltb text_limit (length s)) h
    where
      by : (b : Bool) → ((cond b (fault 1 0 0) (fault_of_head cap s c (head cap s))).number ≡ 6 → ⊥) → cond b (fault 1 0 0) (fault_of_head cap s c (head cap s)) ≡ cond b (fault 1 0 0) (fault_of_head cap s d (head cap s))
      by true h = refl
      by false h = elsewhere_head (head cap s) h

pub found_once : (cap : ℕ) (s : List ℕ) (f g : Fault) → Found cap s f → Found cap s g → f ≡ g
found_once cap s f g h w = by (eqb f.number 6) refl
  where
    numbers : f.number ≡ g.number
    numbers = found_number cap s f h ∙ sym (found_number cap s g w)

    by : (b : Bool) → eqb f.number 6 ≡ b → f ≡ g
    by true e =
        let q = eqb-true f.number 6 e in
        h.place ∙ ap (fault_with cap s) (lowest_once (plan_of cap s) f.stream g.stream (h.lowest q) (w.lowest (sym numbers ∙ q))) ∙ sym w.place
    by false e = h.place ∙ elsewhere cap s f.stream g.stream (λ z. eqb-false f.number 6 e (ap (λ (x : Fault). x.number) h.place ∙ z)) ∙ sym w.place
