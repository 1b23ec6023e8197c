-- The tests one after the other: a test that fails decides, one that passes leaves the rest to decide.
use Prim.Native.Nat.{ℕ, zero, suc, ◌+◌, ◌*◌, ◌-◌, ◌<◌, ◌≤◌}
use mathlib.Core.Path.{◌≡◌, refl, sym, ap, ap₂, ◌∙◌}
use mathlib.Core.List.{List, ◌∷◌}
use mathlib.Core.Bool.{Bool, true, false, not, cond, ◌&&◌}
use native.Mathlib.Omega.{arith}
use native.Mathlib.Nat.{add-zero}
use lib.Dec.{eqb, ltb, leb}
use lib.ListN.{length, get_or, take, drop}
use lib.Seq.{drop-cons, drop-drop, get_or-drop}
use borrow.Author.Tests.{eq-eqb, ne_eqb, le-leb, lt-leb, not-true, not-false, leb-true}
use Rattle.le.specs.Bytes.{part}
use Rattle.operators.specs.Operators.{lacks_at}
use Rattle.layout.specs.Record.{Slot, Raw, no_slot, num, slot_at, op_f, count_f, bound_f, out_f, next_f, small_f, counts_f}
use Rattle.machine.specs.State.{room}
use Rattle.meaning.specs.Events.{horizon}
use Rattle.valid.specs.Valid.{next_ok, counts_ok, sizes_ok, risen, own_ok, all_rows, streams_in}

-- ---- a test p that the code has as b

pub stop : (p b x : Bool) → b ≡ p → not b ≡ true → false ≡ (p && x)
stop p b x e n =
    let f : p ≡ false = sym e ∙ not-true b n in
    rw f

pub pass : (p b x y : Bool) → b ≡ p → not b ≡ false → y ≡ x → y ≡ (p && x)
pass p b x y e n q =
    let f : p ≡ true = sym e ∙ not-false b n in
    rw f q

-- what both sides of a conjunction say
pub left : (p x : Bool) → (p && x) ≡ true → p ≡ true
left true x e = refl
left false x e = e

pub right : (p x : Bool) → (p && x) ≡ true → x ≡ true
right true x e = e
right false x e = absurd (never e)
  where
    never : false ≡ true → ⊥
    never e = let z : ◌≡◌ {A = ℕ} 0 1 = ap (λ (b : Bool). cond b 1 0) e in omega arith

-- ---- the counts of missing events

-- others only a stream with a bound above 0, whose operator counts
pub counts_fresh : (r : Raw) → (num counts_f r ≡ 0 → ⊥) → num bound_f r ≡ 0 → false ≡ counts_ok r
unfolding counts_ok
counts_fresh r h e = rw (ne_eqb (num counts_f r) 0 h, e) (go (lacks_at (num op_f r)))
  where
    go : (b : Bool) → false ≡ cond b false false
    go true = refl
    go false = refl

-- ---- rising stamps

risen_more : (top low n : ℕ) (e : Slot) (l : List Slot) → risen top low (suc n) (e ∷ l) ≡ (leb low e.stamp && risen top (e.stamp + 1) n l)
unfolding risen
risen_more top low n e l = refl

pub risen_none : (top low n : ℕ) (l : List Slot) → n ≡ 0 → risen top low n l ≡ leb low top
unfolding risen
risen_none top low zero l e = refl
risen_none top low (suc n) l e = absurd (omega arith)

pub risen_turn : (top low n i : ℕ) (l : List Slot) → i < n → n ≤ length l
    → risen top low (n - i) (drop i l) ≡ (leb low (get_or l i no_slot).stamp && risen top ((get_or l i no_slot).stamp + 1) (n - (i + 1)) (drop (i + 1) l))
risen_turn top low n i l h k =
    let e : n - i ≡ suc (n - (i + 1)) = omega arith in
    let f : i + 1 ≡ suc i = omega arith in
    ap₂ (risen top low) e (drop-cons l i no_slot (omega arith)) ∙ risen_more top low (n - (i + 1)) (get_or l i no_slot) (drop (suc i) l)
    ∙ ap (λ (j : ℕ). leb low (get_or l i no_slot).stamp && risen top ((get_or l i no_slot).stamp + 1) (n - (i + 1)) (drop j l)) (sym f)

-- ---- the newest held event

-- ---- rows

rows_more : (f : List ℕ → Bool) (m : ℕ) (s : List ℕ) → all_rows f (suc m) s ≡ (f (take 256 s) && all_rows f m (drop 256 s))
unfolding all_rows
rows_more f m s = refl

pub rows_none : (f : List ℕ → Bool) (m : ℕ) (s : List ℕ) → m ≡ 0 → all_rows f m s ≡ true
unfolding all_rows
rows_none f zero s e = refl
rows_none f (suc m) s e = absurd (omega arith)

pub rows_turn : (f : List ℕ → Bool) (n i : ℕ) (s : List ℕ) → i < n
    → all_rows f (n - i) (drop (i * 256) s) ≡ (f (part s (i * 256) 256) && all_rows f (n - (i + 1)) (drop ((i + 1) * 256) s))
rows_turn f n i s h =
    let e : n - i ≡ suc (n - (i + 1)) = omega arith in
    let m : i * 256 + 256 ≡ (i + 1) * 256 = omega arith in
    ap (λ (j : ℕ). all_rows f j (drop (i * 256) s)) e ∙ rows_more f (n - (i + 1)) (drop (i * 256) s)
    ∙ ap (λ (l : List ℕ). f (take 256 (drop (i * 256) s)) && all_rows f (n - (i + 1)) l) (drop-drop 256 (i * 256) s ∙ ap (λ (j : ℕ). drop j s) m)

-- ---- how many records have an operator

in_more : (m : ℕ) (s : List ℕ) → streams_in (suc m) s ≡ cond (eqb (get_or s 0 0) 0) 0 (suc (streams_in m (drop 256 s)))
unfolding streams_in
in_more m s = refl

in_none : (s : List ℕ) → streams_in 0 s ≡ 0
unfolding streams_in
in_none s = refl

module _ (m i : ℕ) (s : List ℕ) where
  in_turn : i < m → streams_in (m - i) (drop (i * 256) s) ≡ cond (eqb (get_or s (i * 256) 0) 0) 0 (suc (streams_in (m - (i + 1)) (drop ((i + 1) * 256) s)))
  in_turn h =
      let e : m - i ≡ suc (m - (i + 1)) = omega arith in
      let f : i * 256 + 256 ≡ (i + 1) * 256 = omega arith in
      ap (λ (j : ℕ). streams_in j (drop (i * 256) s)) e ∙ in_more (m - (i + 1)) (drop (i * 256) s)
      ∙ ap₂ (λ (x : ℕ) (l : List ℕ). cond (eqb x 0) 0 (suc (streams_in (m - (i + 1)) l))) (get_or-drop (i * 256) s 0 0 ∙ ap (λ (j : ℕ). get_or s j 0) (add-zero (i * 256))) (drop-drop 256 (i * 256) s ∙ ap (λ (j : ℕ). drop j s) f)

  module _ (inv : i + streams_in (m - i) (drop (i * 256) s) ≡ streams_in m s) where
    pub in_stop : i < m → get_or s (i * 256) 0 ≡ 0 → i ≡ streams_in m s
    in_stop h z =
        let q : streams_in (m - i) (drop (i * 256) s) ≡ 0 = in_turn h ∙ rw (eq-eqb (get_or s (i * 256) 0) 0 z) in
        omega arith

    pub in_go : i < m → (get_or s (i * 256) 0 ≡ 0 → ⊥) → (i + 1) + streams_in (m - (i + 1)) (drop ((i + 1) * 256) s) ≡ streams_in m s
    in_go h z =
        let q : streams_in (m - i) (drop (i * 256) s) ≡ suc (streams_in (m - (i + 1)) (drop ((i + 1) * 256) s)) = in_turn h ∙ rw (ne_eqb (get_or s (i * 256) 0) 0 z) in
        omega arith

    pub in_end : i ≡ m → m ≡ streams_in m s
    in_end h =
        let d : m - i ≡ 0 = omega arith in
        let q : streams_in (m - i) (drop (i * 256) s) ≡ 0 = ap (λ (j : ℕ). streams_in j (drop (i * 256) s)) d ∙ in_none (drop (i * 256) s) in
        omega arith

pub in_few : (m : ℕ) (s : List ℕ) → streams_in m s ≤ m
unfolding streams_in
in_few zero s = omega arith
in_few (suc m) s = go (eqb (get_or s 0 0) 0) (in_few m (drop 256 s))
  where
    go : (b : Bool) → streams_in m (drop 256 s) ≤ m → cond b 0 (suc (streams_in m (drop 256 s))) ≤ suc m
    go true h = omega arith
    go false h = omega arith
