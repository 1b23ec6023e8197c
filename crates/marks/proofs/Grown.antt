-- Marking a stream: what is new leaves fewer to mark.
use Prim.Native.Nat.{ℕ, zero, suc, ◌+◌, ◌*◌, ◌-◌, ◌<◌, ◌≤◌}
use mathlib.Core.Path.{◌≡◌, refl, sym, ap, ◌∙◌, subst}
use mathlib.Core.Bool.{Bool, true, false, not, cond, ◌||◌, true≢false}
use mathlib.Core.List.{List, [], ◌∷◌}
use native.Mathlib.Omega.{arith}
use lib.Dec.{eqb}
use lib.ListN.{length, get_or, set, get_or-eq_default}
use lib.Seq.{set_out}
use borrow.Author.Tests.{eq-eqb, ne_eqb, not-true, not-false}
use Rattle.marks.specs.Marks.{marked, args_marked, turned, passed, unmarked, Grown, Passes, pass, Spread}

-- ## One stream

pub marked_out : (x : ℕ) (m : List ℕ) → length m ≤ x → m ≡ marked x m
unfolding marked
marked_out x m h = sym (rw (eq-eqb (get_or m x 0) 0 (get_or-eq_default m 0 {n = x} h)) (set_out m x 1 h))

pub marked_seen : (x : ℕ) (m : List ℕ) → (get_or m x 0 ≡ 0 → ⊥) → m ≡ marked x m
unfolding marked
marked_seen x m h = sym (rw (ne_eqb (get_or m x 0) 0 h))

pub marked_new : (x : ℕ) (m : List ℕ) → get_or m x 0 ≡ 0 → set m x 1 ≡ marked x m
unfolding marked
marked_new x m h = sym (rw (eq-eqb (get_or m x 0) 0 h))

-- ## New or the same

pub grown_none : (m : List ℕ) → Grown m m false
grown_none m = record { fewer = λ e. absurd (true≢false (sym e)); same = λ e. refl }

set_fewer : (x : ℕ) (m : List ℕ) → x < length m → get_or m x 0 ≡ 0 → unmarked (set m x 1) < unmarked m
unfolding unmarked
set_fewer x [] h e = absurd (omega arith)
set_fewer zero (b ∷ m) h e = rw (eq-eqb b 0 e) (omega arith)
set_fewer (suc x) (b ∷ m) h e = by (eqb b 0) (set_fewer x m (omega arith) e)
  where
    by : (t : Bool) → unmarked (set m x 1) < unmarked m → cond t (suc (unmarked (set m x 1))) (unmarked (set m x 1)) < cond t (suc (unmarked m)) (unmarked m)
    by true l = omega arith
    by false l = l

pub grown_new : (x : ℕ) (m : List ℕ) → x < length m → get_or m x 0 ≡ 0 → Grown m (set m x 1) true
grown_new x m h e = record { fewer = λ t. set_fewer x m h e; same = λ t. absurd (true≢false t) }

pub grown_both : {m k j : List ℕ} (a b : Bool) → Grown m k a → Grown k j b → Grown m j (a || b)
grown_both true true g h = record { fewer = λ e. let x = g.fewer refl in let y = h.fewer refl in omega arith; same = λ e. absurd (true≢false e) }
grown_both {m} {k} {j} true false g h = record { fewer = λ e. subst (λ (l : List ℕ). unmarked l < unmarked m) (sym (h.same refl)) (g.fewer refl); same = λ e. absurd (true≢false e) }
grown_both {m} {k} {j} false true g h = record { fewer = λ e. subst (λ (l : List ℕ). unmarked j < unmarked l) (g.same refl) (h.fewer refl); same = λ e. absurd (true≢false e) }
grown_both false false g h = record { fewer = λ e. absurd (true≢false (sym e)); same = λ e. h.same refl ∙ g.same refl }

-- ## A stream's arguments

module _ (g : List ℕ) (i : ℕ) (m : List ℕ) where
  pub args_none : get_or g (3 * i) 0 ≡ 2 → m ≡ args_marked g i m
  unfolding args_marked
  args_none e = sym (rw e)

  pub args_both : (get_or g (3 * i) 0 ≡ 2 → ⊥) → marked (get_or g (3 * i + 2) 0) (marked (get_or g (3 * i + 1) 0) m) ≡ args_marked g i m
  unfolding args_marked
  args_both e = sym (rw (ne_eqb (get_or g (3 * i) 0) 2 e))

  pub turned_none : get_or m i 0 ≡ 0 → m ≡ turned g i m
  unfolding turned
  turned_none e = sym (rw e)

  pub turned_on : (get_or m i 0 ≡ 0 → ⊥) → args_marked g i m ≡ turned g i m
  unfolding turned
  turned_on e = sym (rw (ne_eqb (get_or m i 0) 0 e))

-- ## A pass

passed_turn : (g : List ℕ) (i k : ℕ) (m : List ℕ) → 0 < k → passed g (i + 1) (k - 1) (turned g i m) ≡ passed g i k m
unfolding passed
passed_turn g i zero m h = absurd (omega arith)
passed_turn g i (suc k) m h =
    let e : suc k - 1 ≡ k = omega arith in
    rw e

module _ (g : List ℕ) (n i : ℕ) (m : List ℕ) where
  pub passed_go : i < n → (k : List ℕ) → k ≡ turned g i m → passed g (i + 1) (n - (i + 1)) k ≡ passed g i (n - i) m
  passed_go h k e =
      let z : n - (i + 1) ≡ n - i - 1 = omega arith in
      rw (z, e) (passed_turn g i (n - i) m (omega arith))

  pub passed_end : n ≤ i → m ≡ passed g i (n - i) m
  unfolding passed
  passed_end h =
      let z : n - i ≡ 0 = omega arith in
      rw z

-- ## Passes until nothing is new

module _ (g : List ℕ) (n : ℕ) (m₀ m k : List ℕ) (from : Passes g n m₀ m) (e : k ≡ passed g 0 n m) where
  pub spread_more : Passes g n m₀ k
  spread_more = subst (Passes g n m₀) (sym e) (pass from)

  pub spread_still : (b : Bool) → Grown m k b → not b ≡ true → Spread g n m₀ k
  spread_still b h f =
      let q : k ≡ m = h.same (not-true b f) in
      record { from = spread_more; still = ap (passed g 0 n) q ∙ sym e }

  pub spread_fewer : (b : Bool) → Grown m k b → not b ≡ false → unmarked k < unmarked m
  spread_fewer b h f = h.fewer (not-false b f)
