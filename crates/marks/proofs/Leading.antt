-- The marks of a search say which streams undelayed arguments lead to.
--
-- From stream s the first marks are its arguments, and a turn marks only arguments of a marked stream: so s leads to every
-- marked one. When a pass changes nothing, the arguments of every marked stream are marked: so every stream on a way from s
-- is marked, by induction on the way. How long a way is does not matter, nor how many passes there were; that they end is
-- shown apart, since a pass that marks something leaves fewer to mark.
use Prim.Native.Nat.{ℕ, zero, suc, ◌+◌, ◌*◌, ◌<◌, ◌≤◌}
use mathlib.Core.Path.{◌≡◌, refl, sym, ap, ◌∙◌, subst}
use mathlib.Core.Logic.{◌⊎◌, inl, inr, ⊎_elim}
use mathlib.Core.Bool.{Bool, true, false, cond}
use mathlib.Core.List.{List, [], ◌∷◌, Memᴰ}
use native.Mathlib.Omega.{arith}
use native.Mathlib.Decide.{dec_lt}
use lib.Dec.{eqb, lit<}
use lib.ListN.{length, get_or, set, replicate, length-set, length-replicate}
use lib.Seq.{get_or-set_same, get_or-set_other}
use borrow.Author.Tests.{eqb-true, eqb-false, ltb-true, ltb-false}
use Rattle.meaning.specs.Plan.{Plan}
use Rattle.meaning.specs.Cycle.{Leads, step, then}
use Rattle.meaning.proofs.Ways.{leads_on}
use Rattle.meaning.proofs.Within.{Within}
use Rattle.operators.specs.Limits.{most_streams}
use Rattle.cycle.proofs.Tied.{how_of, Args, args_at, Tied}
use Rattle.marks.specs.Marks.{marked, args_marked, turned, passed, Passes, start, pass, Spread, Back, LowestBack, LowestTo}
use Rattle.marks.proofs.Grown.{args_none, args_both}

-- stream z is marked
abbrev pub On : List ℕ → ℕ → Type 0
On m z = 0 < get_or m z 0

zeros_off : (n z : ℕ) → On (replicate n 0) z → ⊥
zeros_off zero z h = omega arith
zeros_off (suc n) zero h = omega arith
zeros_off (suc n) (suc z) h = zeros_off n z h

-- ## One mark

module _ (x : ℕ) (m : List ℕ) where
  pub marked_length : length (marked x m) ≡ length m
  unfolding marked
  marked_length = by (eqb (get_or m x 0) 0)
    where
      by : (b : Bool) → length (cond b (set m x 1) m) ≡ length m
      by true = length-set m x 1
      by false = refl

  marked_cases : (z : ℕ) → On (marked x m) z → (z ≡ x) ⊎ On m z
  unfolding marked
  marked_cases z h = by (eqb z x) (eqb (get_or m x 0) 0) refl h
    where
      by : (t b : Bool) → eqb z x ≡ t → On (cond b (set m x 1) m) z → (z ≡ x) ⊎ On m z
      by true b e h = inl (eqb-true z x e)
      by false true e h = inr (rw (get_or-set_other m x z 1 0 (eqb-false z x e)) at h)
      by false false e h = inr h

  marked_keeps : (z : ℕ) → On m z → On (marked x m) z
  unfolding marked
  marked_keeps z h = by (eqb z x) (eqb (get_or m x 0) 0) refl refl
    where
      by : (t b : Bool) → eqb z x ≡ t → eqb (get_or m x 0) 0 ≡ b → On (cond b (set m x 1) m) z
      by t false e f = h
      by false true e f = rw (get_or-set_other m x z 1 0 (eqb-false z x e)) h
      by true true e f =
          let q : get_or m z 0 ≡ 0 = ap (λ (y : ℕ). get_or m y 0) (eqb-true z x e) ∙ eqb-true (get_or m x 0) 0 f in
          absurd (omega arith)

  marked_self : x < length m → On (marked x m) x
  unfolding marked
  marked_self h = by (eqb (get_or m x 0) 0) refl
    where
      by : (b : Bool) → eqb (get_or m x 0) 0 ≡ b → On (cond b (set m x 1) m) x
      by true e = rw (get_or-set_same m x 1 0 h) (lit< tt)
      by false e = let k = eqb-false (get_or m x 0) 0 e in omega arith

-- ## The marks of a graph that is tied to a plan

module _ (plan : Plan) (g : List ℕ) (tied : Tied plan g (λ s. false)) (within : Within plan) where
  abbrev n : ℕ
  n = length plan

  -- the arguments of one stream
  module _ (i : ℕ) (m : List ℕ) where
    abbrev x : ℕ
    x = get_or g (3 * i + 1) 0

    abbrev y : ℕ
    y = get_or g (3 * i + 2) 0

    args_length : length (args_marked g i m) ≡ length m
    unfolding args_marked
    args_length = by (eqb (get_or g (3 * i) 0) 2)
      where
        by : (b : Bool) → length (cond b m (marked y (marked x m))) ≡ length m
        by true = refl
        by false = marked_length y (marked x m) ∙ marked_length x m

    args_keeps : (z : ℕ) → On m z → On (args_marked g i m) z
    unfolding args_marked
    args_keeps z h = by (eqb (get_or g (3 * i) 0) 2)
      where
        by : (b : Bool) → On (cond b m (marked y (marked x m))) z
        by true = h
        by false = marked_keeps y (marked x m) z (marked_keeps x m z h)

    args_cases : i < n → (z : ℕ) → On (args_marked g i m) z → Memᴰ z (args_at plan i) ⊎ On m z
    args_cases l z h = by (args_at plan i) (tied.how i l) (tied.args i l)
      where
        two : (a b : ℕ) → get_or g (3 * i) 0 ≡ 0 → x ≡ a → y ≡ b → (z ≡ a) ⊎ ((z ≡ b) ⊎ On m z)
        two a b e p q =
            ⊎_elim (λ w. inr (inl (w ∙ q))) (λ w. ⊎_elim (λ v. inl (v ∙ p)) (λ v. inr (inr v)) (marked_cases x m z w))
            (marked_cases y (marked x m) z (subst (λ (k : List ℕ). On k z) (sym (args_both g i m (λ d. omega arith))) h))

        by : (es : List ℕ) → get_or g (3 * i) 0 ≡ how_of false es → Args es x y → Memᴰ z es ⊎ On m z
        by [] e a = inr (subst (λ (k : List ℕ). On k z) (sym (args_none g i m e)) h)
        by (a ∷ []) e t = ⊎_elim (λ w. inl (Memᴰ.head w)) (λ w. ⊎_elim (λ v. inl (Memᴰ.head v)) (λ v. inr v) w) (two a a e t.0 t.1)
        by (a ∷ b ∷ []) e t = ⊎_elim (λ w. inl (Memᴰ.head w)) (λ w. ⊎_elim (λ v. inl (Memᴰ.tail (Memᴰ.head v))) (λ v. inr v) w) (two a b e t.0 t.1)
        by (a ∷ b ∷ c ∷ es) e t = absurd t

    args_all : i < n → n ≤ length m → (z : ℕ) → Memᴰ z (args_at plan i) → On (args_marked g i m) z
    args_all l k z h = by (args_at plan i) (tied.how i l) (tied.args i l) h
      where
        first : get_or g (3 * i) 0 ≡ 0 → z ≡ x → On (args_marked g i m) z
        first e q =
            let w = within i z h in
            let v : x < length m = omega arith in
            subst (λ (k : List ℕ). On k z) (args_both g i m (λ d. omega arith)) (marked_keeps y (marked x m) z (subst (On (marked x m)) (sym q) (marked_self x m v)))

        second : get_or g (3 * i) 0 ≡ 0 → z ≡ y → On (args_marked g i m) z
        second e q =
            let w = within i z h in
            let v : y < length (marked x m) = omega (arith, marked_length x m) in
            subst (λ (k : List ℕ). On k z) (args_both g i m (λ d. omega arith)) (subst (On (marked y (marked x m))) (sym q) (marked_self y (marked x m) v))

        by : (es : List ℕ) → get_or g (3 * i) 0 ≡ how_of false es → Args es x y → Memᴰ z es → On (args_marked g i m) z
        by [] e t h = elim h [ ]
        by (a ∷ []) e t (Memᴰ.head q) = first e (q ∙ sym t.0)
        by (a ∷ []) e t (Memᴰ.tail x) = elim x [ ]
        by (a ∷ b ∷ []) e t (Memᴰ.head q) = first e (q ∙ sym t.0)
        by (a ∷ b ∷ []) e t (Memᴰ.tail (Memᴰ.head q)) = second e (q ∙ sym t.1)
        by (a ∷ b ∷ []) e t (Memᴰ.tail (Memᴰ.tail x)) = elim x [ ]
        by (a ∷ b ∷ c ∷ es) e t h = absurd t

    -- one turn
    turn_length : length (turned g i m) ≡ length m
    unfolding turned
    turn_length = by (eqb (get_or m i 0) 0)
      where
        by : (b : Bool) → length (cond b m (args_marked g i m)) ≡ length m
        by true = refl
        by false = args_length

    turn_keeps : (z : ℕ) → On m z → On (turned g i m) z
    unfolding turned
    turn_keeps z h = by (eqb (get_or m i 0) 0)
      where
        by : (b : Bool) → On (cond b m (args_marked g i m)) z
        by true = h
        by false = args_keeps z h

    turn_cases : i < n → (z : ℕ) → On (turned g i m) z → (On m i × Memᴰ z (args_at plan i)) ⊎ On m z
    unfolding turned
    turn_cases l z h = by (eqb (get_or m i 0) 0) refl h
      where
        by : (b : Bool) → eqb (get_or m i 0) 0 ≡ b → On (cond b m (args_marked g i m)) z → (On m i × Memᴰ z (args_at plan i)) ⊎ On m z
        by true e h = inr h
        by false e h =
            let k = eqb-false (get_or m i 0) 0 e in
            ⊎_elim (λ w. inl (omega arith, w)) (λ w. inr w) (args_cases l z h)

    turn_all : i < n → n ≤ length m → On m i → (z : ℕ) → Memᴰ z (args_at plan i) → On (turned g i m) z
    unfolding turned
    turn_all l k o z h = by (eqb (get_or m i 0) 0) refl
      where
        by : (b : Bool) → eqb (get_or m i 0) 0 ≡ b → On (cond b m (args_marked g i m)) z
        by true e = let q = eqb-true (get_or m i 0) 0 e in absurd (omega arith)
        by false e = args_all l k z h

  -- one pass
  pass_length : (k i : ℕ) (m : List ℕ) → length (passed g i k m) ≡ length m
  unfolding passed
  pass_length zero i m = refl
  pass_length (suc k) i m = pass_length k (i + 1) (turned g i m) ∙ turn_length i m

  pass_keeps : (k i : ℕ) (m : List ℕ) (z : ℕ) → On m z → On (passed g i k m) z
  unfolding passed
  pass_keeps zero i m z h = h
  pass_keeps (suc k) i m z h = pass_keeps k (i + 1) (turned g i m) z (turn_keeps i m z h)

  -- stream s leads to every marked stream
  Sound : ℕ → List ℕ → Type 0
  Sound s m = (z : ℕ) → On m z → Leads plan s z

  turn_sound : (s i : ℕ) (m : List ℕ) → i < n → Sound s m → Sound s (turned g i m)
  unfolding Sound
  turn_sound s i m l h z o = ⊎_elim (λ w. leads_on (h i w.0) w.1) (h z) (turn_cases i m l z o)

  pass_sound : (s k i : ℕ) (m : List ℕ) → i + k ≤ n → Sound s m → Sound s (passed g i k m)
  unfolding passed
  pass_sound s zero i m l h = h
  pass_sound s (suc k) i m l h = pass_sound s k (i + 1) (turned g i m) (omega arith) (turn_sound s i m (omega arith) h)

  -- the arguments of a marked stream are marked
  pass_all : (k i : ℕ) (m : List ℕ) → i + k ≤ n → n ≤ length m → (j z : ℕ) → i ≤ j → j < i + k → On m j → Memᴰ z (args_at plan j) → On (passed g i k m) z
  unfolding passed
  pass_all zero i m l r j z a b o h = absurd (omega arith)
  pass_all (suc k) i m l r j z a b o h = by (dec_lt i j) (λ c. pass_all k (i + 1) (turned g i m) (omega arith) (rw (turn_length i m) r) j z (omega arith) (omega arith) (turn_keeps i m j o) h)
    where
      by : Dec (i < j) → (i < j → On (passed g (i + 1) k (turned g i m)) z) → On (passed g (i + 1) k (turned g i m)) z
      by (yes c) later = later c
      by (no c) later =
          let q : j ≡ i = omega arith in
          pass_keeps k (i + 1) (turned g i m) z (turn_all i m (omega arith) r (subst (On m) q o) z (subst (λ (v : ℕ). Memᴰ z (args_at plan v)) q h))

  -- passes
  passes_length : {m k : List ℕ} → Passes g n m k → length k ≡ length m
  passes_length start = refl
  passes_length (pass {k} p) = pass_length n 0 k ∙ passes_length p

  passes_keep : {m k : List ℕ} → Passes g n m k → (z : ℕ) → On m z → On k z
  passes_keep start z h = h
  passes_keep (pass {k} p) z h = pass_keeps n 0 k z (passes_keep p z h)

  passes_sound : (s : ℕ) {m k : List ℕ} → Passes g n m k → Sound s m → Sound s k
  passes_sound s start h = h
  passes_sound s (pass {k} p) h = pass_sound s n 0 k (omega arith) (passes_sound s p h)

  -- ## From stream s on

  module _ (few : n ≤ most_streams) (s : ℕ) (l : s < n) (m : List ℕ) (sp : Spread g n (args_marked g s (replicate most_streams 0)) m) where
    empty : List ℕ
    empty = replicate most_streams 0

    first_sound : Sound s (args_marked g s empty)
    unfolding Sound empty
    first_sound z o = ⊎_elim (λ w. step w) (λ w. absurd (zeros_off most_streams z w)) (args_cases s empty l z o)

    pub marked_leads : (z : ℕ) → On m z → Leads plan s z
    unfolding Sound empty
    marked_leads = passes_sound s sp.from first_sound

    long : n ≤ length m
    unfolding empty
    long = omega (arith, passes_length sp.from, args_length s empty, length-replicate {A = ℕ} most_streams 0)

    closed : (a z : ℕ) → On m a → a < n → Memᴰ z (args_at plan a) → On m z
    closed a z o k h = subst (λ (v : List ℕ). On v z) sp.still (pass_all n 0 m (omega arith) long a z (omega arith) (omega arith) o h)

    onward : {a z : ℕ} → On m a → a < n → Leads plan a z → On m z
    onward {a} {z} o k (step h) = closed a z o k h
    onward {a} {z} o k (then {a = b} h w) = onward (closed a b o k h) (within a b h) w

    first_on : (z : ℕ) → Memᴰ z (args_at plan s) → On m z
    unfolding empty
    first_on z h = passes_keep sp.from z (args_all s empty l (rw (length-replicate {A = ℕ} most_streams 0) few) z h)

    pub leads_marked : {z : ℕ} → Leads plan s z → On m z
    leads_marked {z} (step h) = first_on z h
    leads_marked {z} (then {a = b} h w) = onward (first_on b h) (within s b h) w

  -- a search that comes back to the stream it began at, and one that does not
  module _ (few : n ≤ most_streams) (s : ℕ) (l : s < n) where
    back_leads : Back g n s true → Leads plan s s
    back_leads b = marked_leads few s l b.marks b.spread s (ltb-true 0 (get_or b.marks s 0) (sym b.told))

    back_none : Back g n s false → Leads plan s s → ⊥
    back_none b w =
        let o = leads_marked few s l b.marks b.spread w in
        let k = ltb-false 0 (get_or b.marks s 0) (sym b.told) in
        omega arith

  -- the lowest stream that a search comes back to is the lowest that leads to itself
  pub lowest_leads : n ≤ most_streams → (m : ℕ) → n ≡ m → (r : ℕ) → LowestBack g m r → LowestTo m plan r
  lowest_leads few m q r b = record {
    few = b.few;
    itself = λ l. back_leads few r (omega arith) (subst (λ (x : ℕ). Back g x r true) (sym q) (b.itself l));
    below = λ x l. let w = b.few in back_none few x (omega arith) (subst (λ (y : ℕ). Back g y x false) (sym q) (b.below x l));
  }
