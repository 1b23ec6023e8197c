-- The walks over the streams' lines, one stream after the other, as the code takes them.
use Prim.Native.Nat.{ℕ, zero, suc, ◌+◌, ◌*◌, ◌-◌, ◌<◌, ◌≤◌}
use mathlib.Core.Path.{◌≡◌, sym, ap, ◌∙◌}
use mathlib.Core.Bool.{true, false, cond}
use mathlib.Core.List.{List}
use native.Mathlib.Omega.{arith}
use lib.ListN.{length}
use borrow.Author.Tests.{eq-eqb, ne_eqb, lt-ltb, le-ltb}
use Rattle.operators.specs.Operators.{group_of, is_window}
use Rattle.operators.specs.Limits.{window_limit}
use Rattle.text.specs.declared.Fields.{Fields}
use Rattle.std.specs.Prelude.{Some, None, Result, Ok, Err}
use Rattle.std.specs.Result.{result_ok}
use Rattle.refusal.specs.declared.Refusal.{Refusal}
use Rattle.refusal.specs.Numbers.{number_of}
use Rattle.text.specs.Grammar.{stream}
use Rattle.faults.specs.Faults.{fault, none, in_stream, stream_line, stream_or, form_fault, Rule, first_broken, ninth_rule}

-- a stream as `.ok()?` reads it
pub stream_ok : {x y : Result Fields Refusal} {f : Fields} → x ≡ y → Some f ≡ result_ok x → y ≡ Ok f
stream_ok {x = Ok g} e h = sym e ∙ cc
stream_ok {x = Err r} e h = absurd cc

-- ## The first faulty line

module _ (s : List ℕ) where
  form_turn : (i p m : ℕ) → 0 < m → form_fault s i p m ≡ stream_or (stream s p) (λ r. in_stream r i (stream_line s p)) (λ f. form_fault s (i + 1) f.next (m - 1))
  unfolding form_fault
  form_turn i p zero h = absurd (omega arith)
  form_turn i p (suc m) h =
      let e : suc m - 1 ≡ m = omega arith in
      rw e

  form_none : (i p m : ℕ) → m ≡ 0 → form_fault s i p m ≡ form_fault s i p 0
  form_none i p m e = rw e

  module _ (n i p : ℕ) where
    pub form_go : i < n → (f : Fields) → stream s p ≡ Ok f → form_fault s (i + 1) f.next (n - (i + 1)) ≡ form_fault s i p (n - i)
    form_go h f e =
        let m : n - (i + 1) ≡ n - i - 1 = omega arith in
        rw (m, form_turn i p (n - i) (omega arith), e)

    pub form_halt : i < n → (r : Refusal) → stream s p ≡ Err r → in_stream (number_of r) i (stream_line s p) ≡ form_fault s i p (n - i)
    form_halt h r e = rw (form_turn i p (n - i) (omega arith), e)

    pub form_right : n ≤ i → p ≡ length s → none ≡ form_fault s i p (n - i)
    unfolding form_fault
    form_right h e = rw (form_none i p (n - i) (omega arith), eq-eqb p (length s) e)

    pub form_left_over : n ≤ i → (p ≡ length s → ⊥) → fault 2 (3 + 5 * i) 0 ≡ form_fault s i p (n - i)
    unfolding form_fault
    form_left_over h e = rw (form_none i p (n - i) (omega arith), ne_eqb p (length s) e)

-- ## The first stream that breaks a rule

module _ (r : Rule) (s : List ℕ) where
  first_turn : (w i p m : ℕ) → 0 < m → first_broken r s w i p m ≡ stream_or (stream s p) (λ q. none) (λ f. cond (r.kept w f) (first_broken r s (r.count w f) (i + 1) f.next (m - 1)) (in_stream r.number i (r.line f)))
  unfolding first_broken
  first_turn w i p zero h = absurd (omega arith)
  first_turn w i p (suc m) h =
      let e : suc m - 1 ≡ m = omega arith in
      rw e

  first_none : (w i p m : ℕ) → m ≡ 0 → first_broken r s w i p m ≡ first_broken r s w i p 0
  first_none w i p m e = rw e

  module _ (n w i p : ℕ) where
    pub first_go : i < n → (f : Fields) → stream s p ≡ Ok f → r.kept w f ≡ true → first_broken r s (r.count w f) (i + 1) f.next (n - (i + 1)) ≡ first_broken r s w i p (n - i)
    first_go h f e k =
        let m : n - (i + 1) ≡ n - i - 1 = omega arith in
        rw (m, first_turn w i p (n - i) (omega arith), e, k)

    pub first_broken_lem : i < n → (f : Fields) → stream s p ≡ Ok f → r.kept w f ≡ false → in_stream r.number i (r.line f) ≡ first_broken r s w i p (n - i)
    first_broken_lem h f e k = rw (first_turn w i p (n - i) (omega arith), e, k)

    pub first_halt : i < n → {x : Result Fields Refusal} → x ≡ stream s p → None ≡ result_ok x → none ≡ first_broken r s w i p (n - i)
    first_halt h {x = Ok f} e k = absurd cc
    first_halt h {x = Err q} e k = rw (first_turn w i p (n - i) (omega arith), sym e)

    pub first_end : n ≤ i → none ≡ first_broken r s w i p (n - i)
    unfolding first_broken
    first_end h = rw (first_none w i p (n - i) (omega arith))

-- ## The ninth window

module _ (s : List ℕ) (n w i p : ℕ) (h : i < n) (f : Fields) (e : stream s p ≡ Ok f) where
  pub ninth_window : is_window (group_of f.op) ≡ true → w < window_limit → first_broken ninth_rule s (w + 1) (i + 1) f.next (n - (i + 1)) ≡ first_broken ninth_rule s w i p (n - i)
  ninth_window q l =
      let a : w + 1 ≡ suc w = omega arith in
      let c : w + 1 ≡ ninth_rule.count w f = rw q a in
      rw c (first_go ninth_rule s n w i p h f e (rw (q, lt-ltb w window_limit l)))

  pub ninth_other : is_window (group_of f.op) ≡ false → first_broken ninth_rule s w (i + 1) f.next (n - (i + 1)) ≡ first_broken ninth_rule s w i p (n - i)
  ninth_other q =
      let c : w ≡ ninth_rule.count w f = rw q in
      ap (λ v. first_broken ninth_rule s v (i + 1) f.next (n - (i + 1))) c ∙ first_go ninth_rule s n w i p h f e (rw q)

  pub ninth_broken : is_window (group_of f.op) ≡ true → window_limit ≤ w → in_stream 18 i 0 ≡ first_broken ninth_rule s w i p (n - i)
  ninth_broken q l = first_broken_lem ninth_rule s n w i p h f e (rw (q, le-ltb w window_limit l))
