-- Sums of values by the halves of the raised ones, and which of them are values.
use Prim.Native.Nat.{ℕ, zero, suc, ◌+◌, ◌-◌, ◌*◌, ◌/◌, ◌%◌, ◌^◌, ◌<◌, ◌≤◌}
use mathlib.Core.Path.{◌≡◌, refl, sym, ap, ap₂, ◌∙◌}
use mathlib.Core.Bool.{true}
use mathlib.Core.List.{List, [], ◌∷◌, ◌++◌, map, map-append}
use Rattle.std.specs.Prelude.{None, Some, Ok}
use native.Mathlib.Omega.{arith}
use native.Mathlib.Decide.{dec_lt}
use lib.IntN.{ℤ, pos, negsuc, neg_ℤ, ◌+ℤ◌, ◌-ℤ◌, +ℤ_assoc, +ℤ_comm, +ℤ_idr, +ℤ_invr, neg_ℤ-+ℤ}
use lib.ListN.{length, get_or, length-append}
use lib.Seq.{slice_empty}
use mir.Syntax.{w64}
use mir.Val.{to_z}
use mir.Facts.{to_z_pos}
use borrow.Author.Tests.{lt-ltb}
use Rattle.num.specs.Arithmetic.{fit}
use Rattle.num.proofs.Arith.{less, fit_pos, fit_neg, too_big, too_big_plain}
use Rattle.num.proofs.Signed.{to_z_high}
use Rattle.meaning.specs.Plan.{wsum}
use Rattle.meaning.specs.Table.{total, folded, value_of}
use Rattle.windows.specs.declared.Halves.{Halves}
use Rattle.windows.specs.Window.{raised, heights, lows, highs, total_of}
use Rattle.windows.proofs.Heights.{Words, words_append, raised_small, raised_back, value_is, heights_more}

-- ---- differences

-- of two differences the sum
sub_add : (a b c d : ℕ) → (pos a -ℤ pos b) +ℤ (pos c -ℤ pos d) ≡ pos (a + c) -ℤ pos (b + d)
sub_add a b c d =
    let x = neg_ℤ (pos b) in
    let y = neg_ℤ (pos d) in
    +ℤ_assoc (pos a) x (pos c +ℤ y)
    ∙ ap (λ (z : ℤ). pos a +ℤ z) (sym (+ℤ_assoc x (pos c) y) ∙ ap (λ (z : ℤ). z +ℤ y) (+ℤ_comm x (pos c)) ∙ +ℤ_assoc (pos c) x y)
    ∙ sym (+ℤ_assoc (pos a) (pos c) (x +ℤ y))
    ∙ ap (λ (z : ℤ). pos (a + c) +ℤ z) (sym (neg_ℤ-+ℤ (pos b) (pos d)))

-- both sides as much more
sub_same : (a b m : ℕ) → pos (a + m) -ℤ pos (b + m) ≡ pos a -ℤ pos b
sub_same a b m = sym (sub_add a b m m) ∙ ap (λ (z : ℤ). (pos a -ℤ pos b) +ℤ z) (+ℤ_invr (pos m)) ∙ +ℤ_idr (pos a -ℤ pos b)

-- below 0
sub_neg : (a b : ℕ) → a < b → pos a -ℤ pos b ≡ negsuc (b - suc a)
sub_neg a zero h = absurd (omega arith)
sub_neg a (suc b) h = rw (lt-ltb a (suc b) h)

-- ---- a sum of values

lows_append : (xs ys : List ℕ) → lows (xs ++ ys) ≡ lows xs + lows ys
unfolding lows
lows_append [] ys = omega arith
lows_append (x ∷ xs) ys = rw (lows_append xs ys) (omega arith)

highs_append : (xs ys : List ℕ) → highs (xs ++ ys) ≡ highs xs + highs ys
unfolding highs
highs_append [] ys = omega arith
highs_append (x ∷ xs) ys = rw (highs_append xs ys) (omega arith)

total_is : (ws : List ℕ) → Words ws → total (map (to_z w64) ws) ≡ total_of (length ws) (lows (map raised ws)) (highs (map raised ws))
unfolding lows highs
total_is [] a = refl
total_is (w ∷ ws) a =
    let u = raised w in
    let us = map raised ws in
    let e : u + (highs us * 2 ^ 32 + lows us) ≡ (u / 2 ^ 32 + highs us) * 2 ^ 32 + (u % 2 ^ 32 + lows us) = omega arith in
    let f : 2 ^ 63 + length ws * 2 ^ 63 ≡ suc (length ws) * 2 ^ 63 = omega arith in
    ap₂ ◌+ℤ◌ (value_is w a.0) (total_is ws a.1)
    ∙ sub_add u (2 ^ 63) (highs us * 2 ^ 32 + lows us) (length ws * 2 ^ 63)
    ∙ ap₂ (λ (x y : ℕ). pos x -ℤ pos y) e f

-- ---- the loops

-- h, with the halves of the words from j on, of the first n, is h₀ with those from i on
pub record Summed (ws : List ℕ) (i j n : ℕ) (h₀ h : Halves) : Type 0 where
  pub low : h.low + lows (heights j n ws) ≡ h₀.low + lows (heights i n ws)
  pub high : h.high + highs (heights j n ws) ≡ h₀.high + highs (heights i n ws)
  pub low_small : h.low ≤ h₀.low + (j - i) * 2 ^ 32
  pub high_small : h.high ≤ h₀.high + (j - i) * 2 ^ 32

pub summed_none : (ws : List ℕ) (i n : ℕ) (h : Halves) → Summed ws i i n h h
summed_none ws i n h = record { low = refl; high = refl; low_small = omega arith; high_small = omega arith }

-- one word more
pub summed_more : (ws : List ℕ) (i j n u : ℕ) (h₀ h h' : Halves) → i ≤ j → j < n → n ≤ length ws → u < 2 ^ 64 → u ≡ raised (get_or ws j 0)
    → Summed ws i j n h₀ h → h'.low ≡ h.low + u % 2 ^ 32 → h'.high ≡ h.high + u / 2 ^ 32 → Summed ws i (j + 1) n h₀ h'
unfolding lows highs
summed_more ws i j n u h₀ h h' p q l s e a low high =
    let more = heights_more ws j n u q l e in
    let m : j + 1 - i ≡ suc (j - i) = omega arith in
    record {
      low = omega (arith, rw more at a.low);
      high = omega (arith, rw more at a.high);
      low_small = rw m (omega (arith, a.low_small));
      high_small = rw m (omega (arith, a.high_small));
    }

-- all of them
pub summed_all : (ws : List ℕ) (i n : ℕ) (h₀ h : Halves) → Summed ws i n n h₀ h
    → (h.low ≡ h₀.low + lows (heights i n ws)) × (h.high ≡ h₀.high + highs (heights i n ws)) × (h.low ≤ h₀.low + (n - i) * 2 ^ 32) × (h.high ≤ h₀.high + (n - i) * 2 ^ 32)
unfolding lows highs
summed_all ws i n h₀ h a =
    let l : h.low + 0 ≡ h₀.low + lows (heights i n ws) = rw slice_empty at a.low in
    let k : h.high + 0 ≡ h₀.high + highs (heights i n ws) = rw slice_empty at a.high in
    (omega arith, omega arith, a.low_small, a.high_small)

-- ---- the one test of a sum of n values

-- every word stands for a value
fit_word : (b : ℕ) → b < 2 ^ 64 → fit (to_z w64 b) ≡ Ok (to_z w64 b)
fit_word b h = go (dec_lt b (2 ^ 63))
  where
    go : Dec (b < 2 ^ 63) → fit (to_z w64 b) ≡ Ok (to_z w64 b)
    go (yes l) = rw (to_z_pos w64 l) (fit_pos b l)
    go (no l) = rw (to_z_high b (omega arith)) (fit_neg (2 ^ 64 - suc b) (omega arith))

module _ (n low high : ℕ) (p : 1 ≤ n) where
  -- below the range, above it, and in it
  pub total_under : high + low / 2 ^ 32 < (n - 1) * 2 ^ 31 → None ≡ value_of (fit (total_of n low high))
  unfolding value_of
  total_under h =
      let s : ℕ = high * 2 ^ 32 + low in
      rw (sub_neg s (n * 2 ^ 63) (omega arith), too_big true (suc (n * 2 ^ 63 - suc s)) (omega arith))

  pub total_over : (n - 1) * 2 ^ 31 + 2 ^ 32 ≤ high + low / 2 ^ 32 → None ≡ value_of (fit (total_of n low high))
  unfolding value_of
  total_over h =
      let s : ℕ = high * 2 ^ 32 + low in
      rw (less s (n * 2 ^ 63) (omega arith), too_big_plain (s - n * 2 ^ 63) (omega arith))

  pub total_in : (top : ℕ) → top ≡ high + low / 2 ^ 32 - (n - 1) * 2 ^ 31 → (n - 1) * 2 ^ 31 ≤ high + low / 2 ^ 32 → top < 2 ^ 32
      → Some (to_z w64 (raised (top * 2 ^ 32 + low % 2 ^ 32))) ≡ value_of (fit (total_of n low high))
  unfolding value_of
  total_in top e h k =
      let v : ℕ = top * 2 ^ 32 + low % 2 ^ 32 in
      let m : ℕ = (n - 1) * 2 ^ 63 in
      let small : v < 2 ^ 64 = omega arith in
      let s : v + m ≡ high * 2 ^ 32 + low = omega arith in
      let t : 2 ^ 63 + m ≡ n * 2 ^ 63 = omega arith in
      let z : to_z w64 (raised v) ≡ total_of n low high =
      value_is (raised v) (raised_small v small) ∙ ap (λ (x : ℕ). pos x -ℤ pos (2 ^ 63)) (raised_back v small) ∙ sym (sub_same v (2 ^ 63) m) ∙ ap₂ (λ (x y : ℕ). pos x -ℤ pos y) s t in
      sym (ap (λ (x : ℤ). value_of (fit x)) (sym z) ∙ ap value_of (fit_word (raised v) (raised_small v small)))

-- ---- the words of two lists

pub sum_fold : (xs ys : List ℕ) → Words xs → Words ys → (n low high : ℕ) → n ≡ length xs + length ys
    → low ≡ lows (map raised xs) + lows (map raised ys) → high ≡ highs (map raised xs) + highs (map raised ys)
    → value_of (fit (total_of n low high)) ≡ value_of (folded wsum (map (to_z w64) xs ++ map (to_z w64) ys))
unfolding folded
sum_fold xs ys a b n low high en el eh =
    let ws = xs ++ ys in
    let us = map raised ws in
    let cut : us ≡ map raised xs ++ map raised ys = map-append raised xs ys in
    let n-is : n ≡ length ws = en ∙ sym (length-append xs ys) in
    let low-is : low ≡ lows us = el ∙ sym (lows_append (map raised xs) (map raised ys)) ∙ ap lows (sym cut) in
    let high_is : high ≡ highs us = eh ∙ sym (highs_append (map raised xs) (map raised ys)) ∙ ap highs (sym cut) in
    ap (λ (z : ℤ). value_of (fit z))
    (ap₂ (λ (m l : ℕ). total_of m l high) n-is low-is ∙ ap (total_of (length ws) (lows us)) high_is
    ∙ sym (total_is ws (words_append xs ys a b)) ∙ ap total (map-append (to_z w64) xs ys))
