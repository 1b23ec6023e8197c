-- What each leaf makes of a record: the cases of each definition.
use Prim.Native.Nat.{ℕ, zero, suc, ◌+◌, ◌^◌, ◌<◌, ◌≤◌, min}
use mathlib.Core.Path.{◌≡◌, refl, ◌∙◌}
use mathlib.Core.List.{map}
use mathlib.Core.Bool.{Bool, true, false, cond, ◌||◌}
use native.Mathlib.Omega.{arith}
use lib.Dec.{lit<, leb, ltb, eqb}
use lib.ListN.{get_or}
use borrow.Author.Tests.{lt-ltb, le-ltb, lt-leb, le-leb, eq-eqb, ne_eqb}
use Rattle.meaning.specs.Arguments.{Argument}
use Rattle.machine.specs.Step.{any_of}
use Rattle.operators.specs.Operators.{group_of, is_last, is_delay, takes_first, takes_second, arguments_of}
use Rattle.operators.specs.declared.Group.{Group}
use Rattle.operators.specs.declared.Group.TheVariants.{Absent, Input, Plain, One, Two, Last, Delay, Signal, Window}
use Rattle.layout.specs.Record.{Raw, head_widths, num, with_num, op_f, a_f, b_f, out_f, flag_f, prior_flag_f, bound_f, next_f, kept_f, value_f, prior_f}
use Rattle.layout.proofs.Laws.{RawOk, num_ok, num_small}
use Rattle.layout.proofs.Stores.{cond_ok, stored_ok}
use Rattle.readers.specs.Step.{reads_row, told_last, told_at, told_value, told_prior, set_point, told_since, told_delay, told_row, lowered, waiting_row}

-- ---- the cases of each definition

module _ (s : ℕ) (r : Raw) where
  -- argument after argument
  reads_is : reads_row s r ≡ cond (takes_first (group_of (num op_f r))) (cond (eqb (num a_f r) s) true (cond (takes_second (group_of (num op_f r))) (eqb (num b_f r) s) false)) false
  unfolding reads_row
  reads_is = go (group_of (num op_f r))
    where
      first : (x : Bool) → x ≡ cond x true false
      first true = refl
      first false = refl

      both : (x y : Bool) → (x || y) ≡ cond x true y
      both true y = refl
      both false y = refl

      go : (g : Group) → any_of s (map (λ (x : Argument). x.stream) (arguments_of g (num a_f r) (num b_f r))) ≡ cond (takes_first g) (cond (eqb (num a_f r) s) true (cond (takes_second g) (eqb (num b_f r) s) false)) false
      go Absent = refl
      go Input = refl
      go Plain = refl
      go One = first (eqb (num a_f r) s)
      go Two = both (eqb (num a_f r) s) (eqb (num b_f r) s)
      go Last = both (eqb (num a_f r) s) (eqb (num b_f r) s)
      go Delay = both (eqb (num a_f r) s) (eqb (num b_f r) s)
      go Signal = both (eqb (num a_f r) s) (eqb (num b_f r) s)
      go Window = first (eqb (num a_f r) s)

  -- s stands in neither place, in the first, in the second alone
  pub reads_neither : (num a_f r ≡ s → ⊥) → (num b_f r ≡ s → ⊥) → reads_row s r ≡ false
  reads_neither h k = reads_is ∙ rw (ne_eqb _ _ h, ne_eqb _ _ k) (go (takes_first (group_of (num op_f r))) (takes_second (group_of (num op_f r))))
    where
      go : (x y : Bool) → cond x (cond y false false) false ≡ false
      go true true = refl
      go true false = refl
      go false y = refl

  pub reads_first : num a_f r ≡ s → reads_row s r ≡ takes_first (group_of (num op_f r))
  reads_first h = reads_is ∙ rw (eq-eqb _ _ h) (go (takes_first (group_of (num op_f r))))
    where
      go : (x : Bool) → cond x true false ≡ x
      go true = refl
      go false = refl

  -- an operator with a second argument has a first
  pub reads_second : (num a_f r ≡ s → ⊥) → num b_f r ≡ s → reads_row s r ≡ takes_second (group_of (num op_f r))
  reads_second h k = reads_is ∙ rw (ne_eqb _ _ h, eq-eqb _ _ k) (go (group_of (num op_f r)))
    where
      go : (g : Group) → cond (takes_first g) (cond (takes_second g) true false) false ≡ takes_second g
      go Absent = refl
      go Input = refl
      go Plain = refl
      go One = refl
      go Two = refl
      go Last = refl
      go Delay = refl
      go Signal = refl
      go Window = refl

  pub last_no : (v : ℕ) → (num a_f r ≡ s → ⊥) → told_last s v r ≡ r
  unfolding told_last
  last_no v h = simp (ne_eqb _ _ h)

  pub last_yes : (v : ℕ) → num a_f r ≡ s → told_last s v r ≡ with_num kept_f v (with_num flag_f 1 r)
  unfolding told_last
  last_yes v h = simp (eq-eqb _ _ h)

  module _ (t v : ℕ) where
    module _ (d f j : ℕ) where
      pub kept_no : (num a_f r ≡ s → ⊥) → told_at d f j s t v r ≡ r
      unfolding told_at
      kept_no h = simp (ne_eqb _ _ h)

      pub kept_else : num a_f r ≡ s → (num d r ≡ t + 1 → ⊥) → told_at d f j s t v r ≡ r
      unfolding told_at
      kept_else e h = simp (eq-eqb _ _ e, ne_eqb _ _ h)

      pub kept_yes : num a_f r ≡ s → num d r ≡ t + 1 → told_at d f j s t v r ≡ with_num j v (with_num f 1 r)
      unfolding told_at
      kept_yes e h = simp (eq-eqb _ _ e, eq-eqb _ _ h)

    pub told_behind : num bound_f r ≤ t → told_row s t v r ≡ r
    unfolding told_row
    told_behind h = simp (le-ltb _ _ h)

    pub told_last_lem : is_last (group_of (num op_f r)) ≡ true → t < num bound_f r → told_row s t v r ≡ told_last s v r
    unfolding told_row
    told_last_lem l h = rw (lt-ltb _ _ h, l)

    pub told_delay_lem : is_last (group_of (num op_f r)) ≡ false → is_delay (group_of (num op_f r)) ≡ true → t < num bound_f r → told_row s t v r ≡ told_delay s t v r
    unfolding told_row
    told_delay_lem l d h = rw (lt-ltb _ _ h, l, d)

    pub told_other : is_last (group_of (num op_f r)) ≡ false → is_delay (group_of (num op_f r)) ≡ false → told_row s t v r ≡ r
    unfolding told_row
    told_other l d = rw (l, d) (cond_same (ltb t (num bound_f r)))
      where
        cond_same : (b : Bool) → cond b r r ≡ r
        cond_same true = refl
        cond_same false = refl

    pub delay_is : told_delay s t v r ≡ told_since s t (told_prior s t v (told_value s t v r))
    unfolding told_delay
    delay_is = refl

  module _ (t : ℕ) where
    pub since_no : (num b_f r ≡ s → ⊥) → told_since s t r ≡ r
    unfolding told_since
    since_no h = simp (ne_eqb _ _ h)

    pub since_early : num b_f r ≡ s → t < num kept_f r → told_since s t r ≡ r
    unfolding told_since
    since_early e h = simp (eq-eqb _ _ e, lt-leb _ _ h)

    pub since_low : num b_f r ≡ s → num kept_f r ≤ t → (num bound_f r ≡ t + 1 → ⊥) → told_since s t r ≡ set_point t 0 0 r
    unfolding told_since
    since_low e h k = simp (eq-eqb _ _ e, le-leb _ _ h, ne_eqb _ _ k)

    -- h and v were read before the stores
    pub since_edge : (h v : ℕ) → num b_f r ≡ s → num kept_f r ≤ t → num bound_f r ≡ t + 1 → h ≡ num prior_flag_f r → v ≡ num prior_f r → told_since s t r ≡ set_point t h v r
    unfolding told_since
    since_edge h v e l k eh ev = rw (eh, ev) (simp (eq-eqb _ _ e, le-leb _ _ l, eq-eqb _ _ k))

  module _ (acc : ℕ) where
    pub lower_no : reads_row s r ≡ false → lowered s r acc ≡ acc
    unfolding lowered
    lower_no e = rw e

    pub lower_le : reads_row s r ≡ true → lowered s r acc ≤ num bound_f r
    unfolding lowered
    lower_le e = rw e (omega arith)

    pub lower_yes : reads_row s r ≡ true → lowered s r acc ≡ min (num bound_f r) acc
    unfolding lowered
    lower_yes e = rw e

    pub lowered_le : lowered s r acc ≤ acc
    unfolding lowered
    lowered_le = go (reads_row s r)
      where
        go : (b : Bool) → cond b (min (num bound_f r) acc) acc ≤ acc
        go true = omega arith
        go false = omega arith

module _ (least : ℕ) (r : Raw) where
  pub waiting_in : num out_f r ≡ 0 → waiting_row least r ≡ least
  unfolding waiting_row
  waiting_in h = simp (eq-eqb _ _ h)

  pub waiting_le : waiting_row least r ≤ least
  unfolding waiting_row
  waiting_le = go (eqb (num out_f r) 0)
    where
      go : (b : Bool) → cond b least (min (num next_f r) least) ≤ least
      go true = omega arith
      go false = omega arith

  pub waiting_out : (num out_f r ≡ 0 → ⊥) → waiting_row least r ≡ min (num next_f r) least
  unfolding waiting_row
  waiting_out h = rw (ne_eqb _ _ h)

-- ---- every leaf keeps the numbers within their widths

-- a flag fits in any byte
pub flag_wide : (f h : ℕ) → f < 8 → h ≤ 1 → h < 256 ^ get_or head_widths f 0
flag_wide zero h l k = omega arith
flag_wide (suc zero) h l k = omega arith
flag_wide (suc (suc zero)) h l k = omega arith
flag_wide (suc (suc (suc zero))) h l k = omega arith
flag_wide (suc (suc (suc (suc zero)))) h l k = omega arith
flag_wide (suc (suc (suc (suc (suc zero))))) h l k = omega arith
flag_wide (suc (suc (suc (suc (suc (suc zero)))))) h l k = omega arith
flag_wide (suc (suc (suc (suc (suc (suc (suc zero))))))) h l k = omega arith
flag_wide (suc (suc (suc (suc (suc (suc (suc (suc f)))))))) h l k = absurd (omega arith)

module _ (v : ℕ) (hv : v < 2 ^ 64) where
  last_ok : (s : ℕ) (r : Raw) → RawOk r → RawOk (told_last s v r)
  unfolding told_last
  last_ok s r ok = cond_ok (eqb (num a_f r) s) (with_num kept_f v (with_num flag_f 1 r)) r (stored_ok kept_f flag_f v 1 r (lit< tt) hv ok) ok

  kept_ok_lem : (d f j s t : ℕ) → 1 < 256 ^ get_or head_widths f 0 → v < 256 ^ get_or head_widths j 0 → (r : Raw) → RawOk r → RawOk (told_at d f j s t v r)
  unfolding told_at
  kept_ok_lem d f j s t hf hj r ok =
      let x = with_num j v (with_num f 1 r) in
      cond_ok (eqb (num a_f r) s) (cond (eqb (num d r) (t + 1)) x r) r (cond_ok (eqb (num d r) (t + 1)) x r (stored_ok j f v 1 r hf hj ok) ok) ok

  pub value_ok_lem : (s t : ℕ) (r : Raw) → RawOk r → RawOk (told_value s t v r)
  value_ok_lem s t r ok = kept_ok_lem kept_f flag_f value_f s t (lit< tt) hv r ok

  pub prior_ok : (s t : ℕ) (r : Raw) → RawOk r → RawOk (told_prior s t v r)
  prior_ok s t r ok = kept_ok_lem bound_f prior_flag_f prior_f s t (lit< tt) hv r ok

  point_ok : (t h w : ℕ) → t < 2 ^ 32 → h < 256 → w < 2 ^ 64 → (r : Raw) → RawOk r → RawOk (set_point t h w r)
  point_ok t h w ht hh hw r ok = num_ok (with_num value_f w (with_num flag_f h r)) kept_f (t + 1) (stored_ok value_f flag_f w h r hh hw ok) (omega arith)

  since_ok : (s t : ℕ) → t < 2 ^ 32 → (r : Raw) → RawOk r → RawOk (told_since s t r)
  unfolding told_since
  since_ok s t ht r ok =
      let x = set_point t (num prior_flag_f r) (num prior_f r) r in
      let y = set_point t 0 0 r in
      let z = cond (eqb (num bound_f r) (t + 1)) x y in
      cond_ok (eqb (num b_f r) s) (cond (leb (num kept_f r) t) z r) r
      (cond_ok (leb (num kept_f r) t) z r
      (cond_ok (eqb (num bound_f r) (t + 1)) x y
      (point_ok t (num prior_flag_f r) (num prior_f r) ht (num_small r prior_flag_f ok (lit< tt)) (num_small r prior_f ok (lit< tt)) r ok)
      (point_ok t 0 0 ht (lit< tt) (lit< tt) r ok)) ok) ok

  pub told_ok : (s t : ℕ) → t < 2 ^ 32 → (r : Raw) → RawOk r → RawOk (told_row s t v r)
  unfolding told_row told_delay
  told_ok s t ht r ok =
      let a = told_value s t v r in
      let b = told_prior s t v a in
      let d = cond (is_delay (group_of (num op_f r))) (told_since s t b) r in
      let e = cond (is_last (group_of (num op_f r))) (told_last s v r) d in
      cond_ok (ltb t (num bound_f r)) e r
      (cond_ok (is_last (group_of (num op_f r))) (told_last s v r) d (last_ok s r ok)
      (cond_ok (is_delay (group_of (num op_f r))) (told_since s t b) r (since_ok s t ht b (prior_ok s t a (value_ok_lem s t r ok))) ok)) ok
