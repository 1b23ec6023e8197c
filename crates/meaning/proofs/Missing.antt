-- What is said at a stamp: its value is the row, it depends on the arguments up to the stamp, and counts go on from where they stand.
use mathlib.Core.Path.{◌≡◌, refl, sym, ◌∙◌, ap, subst}
use mathlib.Core.Bool.{Bool, true, false, cond, ◌&&◌, ◌||◌}
use Rattle.std.specs.Prelude.{Option, None, Some, Ok, Err}
use mathlib.Core.List.{List}
use Prim.Native.Nat.{ℕ, zero, suc, ◌+◌, ◌≤◌, ◌<◌, min}
use native.Mathlib.Nat.{lt-suc_self, add-zero}
use native.Mathlib.Omega.{arith}
use native.Mathlib.Decide.{dec_le}
use lib.Dec.{leb, leb→le, le→leb, not_T}
use lib.IntN.{ℤ}
use lib.Signed.{le_z, lt_z}
use Rattle.meaning.specs.Plan.{Unary, time, neg, set, plus, Calc, add, sub, mul, div, rem, lt, le, eq, Binary, calc, keep, merge, Fold, wsum, wmin, wmax, Eqn, input, nil, unit, one, two, last, delay, signal, window}
use Rattle.meaning.specs.Events.{Streams, events, has}
use Rattle.meaning.specs.Table.{value_of, calculated, folded, one_at, two_at, unit_at, last_at, delay_at, fires, signal_at, window_at_lem, latest, latest_of, values, width, at}
use Rattle.num.specs.Arithmetic.{same, truth, less, at_most, equal}
use Rattle.meaning.specs.Missing.{lacks, unary_lacks, calc_lacks, binary_lacks, fold_lacks, can_lack, Said, valued, one_says, calc_says, two_says, signal_says, window_says, says, shown, Reason, said_for, tally, count_limit, count_below}
use Rattle.meaning.proofs.Options.{none_some}
use Rattle.meaning.proofs.Causal.{SameBelow, latest_cong, events_cong, fires_cong}
use Rattle.meaning.proofs.Tests.{Is, yes!, no!, look, true_is, false_is}

-- ---- the row is the value of what is said

pub valued_shown : (o : Option ℤ) → shown (valued o) ≡ o
unfolding value_of
valued_shown None = refl
valued_shown (Some v) = refl

true_false : true ≡ false → ⊥
true_false e = let z : ◌≡◌ {A = ℕ} 0 1 = cc in omega arith

pub one_row : (f : Unary) (t : ℕ) (x : Option ℤ) → shown (one_says f t x) ≡ one_at f t x
unfolding one_at one_says value_of
one_row time t None = refl
one_row neg t None = refl
one_row (set k) t None = refl
one_row (plus k) t None = refl
one_row time t (Some x) = refl
one_row neg t (Some x) = refl
one_row (set k) t (Some x) = refl
one_row (plus k) t (Some x) = refl

pub calc_row_lem : (c : Calc) (x y : Option ℤ) → shown (calc_says c x y) ≡ two_at (calc c) x y
unfolding two_at calc_says
calc_row_lem c None y = refl
calc_row_lem c (Some x) None = refl
calc_row_lem c (Some x) (Some y) = refl

pub two_row : (g : Binary) (x y : Option ℤ) → shown (two_says g x y) ≡ two_at g x y
unfolding two_says
two_row (calc c) x y = calc_row_lem c x y
two_row keep x y = valued_shown (two_at keep x y)
two_row merge x y = valued_shown (two_at merge x y)

pub signal_row_lem : (c : Calc) (a b x y : Option ℤ) → shown (signal_says c a b x y) ≡ signal_at c a b x y
unfolding signal_at signal_says
signal_row_lem c a b x y = go (has a || has b)
  where
    go : (p : Bool) → shown (cond p (calc_says c x y) None) ≡ cond p (two_at (calc c) x y) None
    go true = calc_row_lem c x y
    go false = refl

pub window_row_lem : (f : Fold) (o : Option ℤ) (xs : List ℤ) → shown (window_says f o xs) ≡ window_at_lem f o xs
unfolding window_at_lem window_says
window_row_lem wsum None xs = refl
window_row_lem wmin None xs = refl
window_row_lem wmax None xs = refl
window_row_lem wsum (Some x) xs = refl
window_row_lem wmin (Some x) xs = valued_shown _
window_row_lem wmax (Some x) xs = valued_shown _

pub row_said : (e : Eqn) (rd S : Streams) (s t : ℕ) → at e rd S s t ≡ shown (says e rd S s t)
unfolding at says
row_said input rd S s t = rw (valued_shown (rd s t))
row_said nil rd S s t = refl
row_said unit rd S s t = rw (valued_shown (unit_at t))
row_said (one f a) rd S s t = rw (one_row f t (S a t))
row_said (two g a b) rd S s t = rw (two_row g (S a t) (S b t))
row_said (last a b) rd S s t = rw (valued_shown (last_at (S b t) (latest (S a) t)))
row_said (delay a b) rd S s t = rw (valued_shown (delay_at (fires (S a) (S b) (S s) t)))
row_said (signal c a b) rd S s t = rw (signal_row_lem c (S a t) (S b t) (latest (S a) (suc t)) (latest (S b) (suc t)))
row_said (window f k a) rd S s t = rw (window_row_lem f (S a t) (latest_of (width k) (values (events (S a) (suc t)))))

-- ---- where there is a value, none is missing

pub valued_lacks : (q : Reason) (o : Option ℤ) → said_for q (valued o) ≡ false
valued_lacks q None = refl
valued_lacks q (Some v) = refl

pub shown_lacks : (q : Reason) (r : Said) (v : ℤ) → shown r ≡ Some v → said_for q r ≡ false
unfolding value_of
shown_lacks q None v e = refl
shown_lacks q (Some (Ok w)) v e = refl
shown_lacks q (Some (Err r)) v e = none_some e

-- a comparison is always 1 or 0
truth_lacks : (q : Reason) (b : Bool) → lacks q (truth b) ≡ false
unfolding truth
truth_lacks q true = refl
truth_lacks q false = refl

pub one_lacks : (f : Unary) → unary_lacks f ≡ false → (q : Reason) (t : ℕ) (x : Option ℤ) → said_for q (one_says f t x) ≡ false
unfolding one_says
one_lacks time h q t None = refl
one_lacks (set k) h q t None = refl
one_lacks time h q t (Some x) = refl
one_lacks (set k) h q t (Some x) = refl
one_lacks neg h q t x = absurd (true_false h)
one_lacks (plus k) h q t x = absurd (true_false h)

pub calc_lacks_lem : (c : Calc) → calc_lacks c ≡ false → (q : Reason) (x y : Option ℤ) → said_for q (calc_says c x y) ≡ false
unfolding calc_says calculated less at_most equal
calc_lacks_lem c h q None y = refl
calc_lacks_lem c h q (Some x) None = refl
calc_lacks_lem add h q (Some x) (Some y) = absurd (true_false h)
calc_lacks_lem sub h q (Some x) (Some y) = absurd (true_false h)
calc_lacks_lem mul h q (Some x) (Some y) = absurd (true_false h)
calc_lacks_lem div h q (Some x) (Some y) = absurd (true_false h)
calc_lacks_lem rem h q (Some x) (Some y) = absurd (true_false h)
calc_lacks_lem lt h q (Some x) (Some y) = truth_lacks q (lt_z x y)
calc_lacks_lem le h q (Some x) (Some y) = truth_lacks q (le_z x y)
calc_lacks_lem eq h q (Some x) (Some y) = truth_lacks q (same x y)

pub two_lacks : (g : Binary) → binary_lacks g ≡ false → (q : Reason) (x y : Option ℤ) → said_for q (two_says g x y) ≡ false
unfolding two_says
two_lacks (calc c) h q x y = calc_lacks_lem c h q x y
two_lacks keep h q x y = valued_lacks q (two_at keep x y)
two_lacks merge h q x y = valued_lacks q (two_at merge x y)

pub signal_lacks : (c : Calc) → calc_lacks c ≡ false → (q : Reason) (a b x y : Option ℤ) → said_for q (signal_says c a b x y) ≡ false
unfolding signal_says
signal_lacks c h q a b x y = go (has a || has b)
  where
    go : (p : Bool) → said_for q (cond p (calc_says c x y) None) ≡ false
    go true = calc_lacks_lem c h q x y
    go false = refl

pub window_lacks : (f : Fold) → fold_lacks f ≡ false → (q : Reason) (o : Option ℤ) (xs : List ℤ) → said_for q (window_says f o xs) ≡ false
unfolding window_says
window_lacks wsum h q o xs = absurd (true_false h)
window_lacks wmin h q None xs = refl
window_lacks wmax h q None xs = refl
window_lacks wmin h q (Some x) xs = valued_lacks q (value_of (folded wmin xs))
window_lacks wmax h q (Some x) xs = valued_lacks q (value_of (folded wmax xs))

-- lt, le, eq, their signal forms, wmin, wmax and all that does not calculate: no stamp is counted
pub never_lacks : (e : Eqn) → can_lack e ≡ false → (q : Reason) (rd S : Streams) (s t : ℕ) → said_for q (says e rd S s t) ≡ false
unfolding says
never_lacks input h q rd S s t = valued_lacks q (rd s t)
never_lacks nil h q rd S s t = refl
never_lacks unit h q rd S s t = valued_lacks q (unit_at t)
never_lacks (one f a) h q rd S s t = one_lacks f h q t (S a t)
never_lacks (two g a b) h q rd S s t = two_lacks g h q (S a t) (S b t)
never_lacks (last a b) h q rd S s t = valued_lacks q (last_at (S b t) (latest (S a) t))
never_lacks (delay a b) h q rd S s t = valued_lacks q (delay_at (fires (S a) (S b) (S s) t))
never_lacks (signal c a b) h q rd S s t = signal_lacks c h q (S a t) (S b t) (latest (S a) (suc t)) (latest (S b) (suc t))
never_lacks (window f k a) h q rd S s t = window_lacks f h q (S a t) (latest_of (width k) (values (events (S a) (suc t))))

-- ---- what is said depends on the streams up to the stamp

pub says_cong : (e : Eqn) (rd S S' : Streams) (s t : ℕ) → ((a : ℕ) → SameBelow (suc t) (S a) (S' a)) → says e rd S s t ≡ says e rd S' s t
unfolding says
says_cong input rd S S' s t h = refl
says_cong nil rd S S' s t h = refl
says_cong unit rd S S' s t h = refl
says_cong (one f a) rd S S' s t h = rw (h a t (lt-suc_self t))
says_cong (two g a b) rd S S' s t h = rw (h a t (lt-suc_self t), h b t (lt-suc_self t))
says_cong (last a b) rd S S' s t h = rw (h b t (lt-suc_self t), latest_cong (S a) (S' a) t (λ p l. h a p (omega arith)))
says_cong (delay a b) rd S S' s t h =
    ap (λ z. valued (delay_at z)) (fires_cong (S a) (S b) (S s) (S' a) (S' b) (S' s) t (λ p l. h a p (omega arith)) (λ p l. h b p (omega arith)) (λ p l. h s p (omega arith)))
says_cong (signal c a b) rd S S' s t h =
    rw (h a t (lt-suc_self t), h b t (lt-suc_self t), latest_cong (S a) (S' a) t (λ p l. h a p (omega arith)), latest_cong (S b) (S' b) t (λ p l. h b p (omega arith)))
says_cong (window f k a) rd S S' s t h = rw (h a t (lt-suc_self t), events_cong (S a) (S' a) t (λ p l. h a p (omega arith)))

-- ---- counting

pub tally_cong : (f g : ℕ → Bool) (t : ℕ) → ((p : ℕ) → p < t → f p ≡ g p) → tally f t ≡ tally g t
unfolding tally
tally_cong f g zero h = refl
tally_cong f g (suc t) h = rw (h t (lt-suc_self t), tally_cong f g t (λ p l. h p (omega arith)))

-- nothing passes, nothing is counted
pub tally_zero : (f : ℕ → Bool) (t : ℕ) → ((p : ℕ) → p < t → f p ≡ false) → tally f t ≡ 0
unfolding tally
tally_zero f zero h = refl
tally_zero f (suc t) h = rw (h t (lt-suc_self t), tally_zero f t (λ p l. h p (omega arith)))

pub tally_none : (f : ℕ → Bool) (y t : ℕ) → t ≤ y → tally (λ p. leb y p && f p) t ≡ 0
unfolding tally
tally_none f y zero l = refl
tally_none f y (suc t) l = rw (false_is (leb y t) (not_T (leb y t) (λ h. let k = leb→le y t h in absurd (omega arith))), tally_none f y t (omega arith))

-- those below x are those below y and those from y on
pub tally_seam : (f : ℕ → Bool) (y x : ℕ) → y ≤ x → tally f x ≡ tally f y + tally (λ p. leb y p && f p) x
unfolding tally
tally_seam f y zero l = let e : y ≡ 0 = omega arith in rw e
tally_seam f y (suc x) l = go (dec_le y x) (λ m. tally_seam f y x m)
  where
    more : (b : Bool) (m n k : ℕ) → m ≡ n + k → cond b (suc m) m ≡ n + cond b (suc k) k
    more true m n k e = omega arith
    more false m n k e = e

    go : Dec (y ≤ x) → (y ≤ x → tally f x ≡ tally f y + tally (λ p. leb y p && f p) x) → tally f (suc x) ≡ tally f y + tally (λ p. leb y p && f p) (suc x)
    go (yes m) ih = rw (tally, true_is (leb y x) (le→leb y x m)) (more (f x) (tally f x) (tally f y) (tally (λ p. leb y p && f p) x) (ih m))
    go (no m) ih = let e : y ≡ suc x = omega arith in let z = tally_none f (suc x) (suc x) (omega arith) in subst (λ (k : ℕ). tally f (suc x) ≡ tally f k + tally (λ p. leb k p && f p) (suc x)) (sym e) (sym (add-zero (tally f (suc x))) ∙ ap (λ (k : ℕ). tally f (suc x) + k) (sym z))

-- a count depends on the streams below the bound
pub count_cong : (q : Reason) (e : Eqn) (rd S S' : Streams) (s y : ℕ) → ((a : ℕ) → SameBelow y (S a) (S' a)) → count_below q e rd S s y ≡ count_below q e rd S' s y
unfolding count_below
count_cong q e rd S S' s y h = ap (min count_limit) (tally_cong _ _ y (λ t l. ap (said_for q) (says_cong e rd S S' s t (λ a p m. h a p (omega arith)))))

-- a count that is kept below y, with the stamps from y on and below x
pub count_seam : (q : Reason) (e : Eqn) (rd S : Streams) (s : ℕ) (f : ℕ → Said) (y x : ℕ) → y ≤ x → ((t : ℕ) → y ≤ t → t < x → said_for q (f t) ≡ said_for q (says e rd S s t))
    → min count_limit (count_below q e rd S s y + tally (λ t. leb y t && said_for q (f t)) x) ≡ count_below q e rd S s x
unfolding count_below
count_seam q e rd S s f y x l h =
    let a = tally_seam (λ t. said_for q (says e rd S s t)) y x l in
    let b = tally_cong (λ t. leb y t && said_for q (f t)) (λ t. leb y t && said_for q (says e rd S s t)) x (λ p m. go p m (look (leb y p))) in
    omega arith
  where
    go : (p : ℕ) → p < x → Is (leb y p) → (leb y p && said_for q (f p)) ≡ (leb y p && said_for q (says e rd S s p))
    go p m (yes! j k) = rw (h p (leb→le y p k) m)
    go p m (no! j k) = rw j

-- who never lacks a value counts nothing
pub never_count : (e : Eqn) → can_lack e ≡ false → (q : Reason) (rd S : Streams) (s y : ℕ) → count_below q e rd S s y ≡ 0
unfolding count_below
never_count e h q rd S s y = rw (tally_zero (λ t. said_for q (says e rd S s t)) y (λ p l. never_lacks e h q rd S s p))

-- nothing counted depends on the readings: only an input looks at them, and it never lacks a value
pub count_readings : (e : Eqn) (q : Reason) (rd R S : Streams) (s y : ℕ) → count_below q e rd S s y ≡ count_below q e R S s y
unfolding count_below says
count_readings input q rd R S s y = never_count input refl q rd S s y ∙ sym (never_count input refl q R S s y)
count_readings nil q rd R S s y = refl
count_readings unit q rd R S s y = refl
count_readings (one f a) q rd R S s y = refl
count_readings (two g a b) q rd R S s y = refl
count_readings (last a b) q rd R S s y = refl
count_readings (delay a b) q rd R S s y = refl
count_readings (signal c a b) q rd R S s y = refl
count_readings (window f k a) q rd R S s y = refl
