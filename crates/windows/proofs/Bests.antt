-- The least and the greatest of values by the raised ones: one law for both, by the Bool of the code (true: the greatest).
use Prim.Native.Nat.{ℕ, ◌+◌, ◌-◌, ◌^◌, ◌<◌, ◌≤◌}
use mathlib.Core.Path.{◌≡◌, refl, sym, ap, ◌∙◌}
use mathlib.Core.Bool.{Bool, true, false, cond}
use mathlib.Core.List.{List, [], ◌∷◌, ◌++◌, map, map-append}
use Rattle.std.specs.Prelude.{Some}
use native.Mathlib.Omega.{arith}
use native.Mathlib.Decide.{dec_le}
use lib.IntN.{ℤ}
use lib.Signed.{le_z}
use lib.Dec.{leb}
use lib.ListN.{length, get_or, length-append}
use lib.Seq.{slice_empty}
use mir.Syntax.{w64}
use mir.Val.{to_z}
use borrow.Author.Tests.{le-leb, lt-leb}
use Rattle.meaning.specs.Plan.{Fold, wmin, wmax}
use Rattle.meaning.specs.Table.{least_of, greatest_of, folded, value_of}
use Rattle.windows.specs.Window.{raised, heights, better, best_of}
use Rattle.windows.proofs.Heights.{Words, words_append, raised_small, raised_back, order, heights_more}

-- what the Bool stands for, and with what the code begins
abbrev pub fold_by : Bool → Fold
fold_by true = wmax
fold_by false = wmin

abbrev extreme : Bool → ℤ → List ℤ → ℤ
extreme true x xs = greatest_of x xs
extreme false x xs = least_of x xs

abbrev start : Bool → ℕ
start true = 0
start false = 2 ^ 64 - 1

-- ---- the loops

best_append : (g : Bool) (b : ℕ) (us vs : List ℕ) → best_of g (best_of g b us) vs ≡ best_of g b (us ++ vs)
unfolding best_of
best_append g b [] vs = refl
best_append g b (u ∷ us) vs = best_append g (better g b u) us vs

pub best_turn : (g : Bool) (ws : List ℕ) (j n b u : ℕ) → j < n → n ≤ length ws → u ≡ raised (get_or ws j 0)
    → best_of g (better g b u) (heights (j + 1) n ws) ≡ best_of g b (heights j n ws)
unfolding best_of
best_turn g ws j n b u h k e = rw (heights_more ws j n u h k e)

pub best_end : (g : Bool) (ws : List ℕ) (n b : ℕ) → best_of g b (heights n n ws) ≡ b
unfolding best_of
best_end g ws n b = rw slice_empty

-- ---- the best of raised values is the best of the values, raised

-- of two, by which is raised to the lesser
abbrev chosen : (g first : Bool) → ℕ → ℕ → ℕ
chosen true true b w = w
chosen true false b w = b
chosen false true b w = b
chosen false false b w = w

better_is : (g : Bool) (u v : ℕ) → better g u v ≡ chosen g (leb u v) u v
better_is g u v = go g (dec_le u v)
  where
    go : (g : Bool) → Dec (u ≤ v) → better g u v ≡ chosen g (leb u v) u v
    go true (yes l) = rw (le-leb u v l) (omega arith)
    go true (no l) = rw (lt-leb u v (omega arith)) (omega arith)
    go false (yes l) = rw (le-leb u v l) (omega arith)
    go false (no l) = rw (lt-leb u v (omega arith)) (omega arith)

best_is : (g : Bool) (b : ℕ) (ws : List ℕ) → b < 2 ^ 64 → Words ws → to_z w64 (raised (best_of g (raised b) (map raised ws))) ≡ extreme g (to_z w64 b) (map (to_z w64) ws)
unfolding best_of
best_is true b [] h a = rw (raised_back b h)
best_is false b [] h a = rw (raised_back b h)
best_is g b (w ∷ ws) h a =
    ap (λ (m : ℕ). to_z w64 (raised (best_of g m (map raised ws)))) (better_is g (raised b) (raised w))
    ∙ go g (leb (raised b) (raised w)) (order b w h a.0) (best_is g b ws h a.1) (best_is g w ws a.0 a.1)
  where
    go : (g c : Bool) → le_z (to_z w64 b) (to_z w64 w) ≡ c
        → to_z w64 (raised (best_of g (raised b) (map raised ws))) ≡ extreme g (to_z w64 b) (map (to_z w64) ws)
        → to_z w64 (raised (best_of g (raised w) (map raised ws))) ≡ extreme g (to_z w64 w) (map (to_z w64) ws)
        → to_z w64 (raised (best_of g (chosen g c (raised b) (raised w)) (map raised ws))) ≡ extreme g (to_z w64 b) (map (to_z w64) (w ∷ ws))
    go true true e old new = new ∙ ap (λ (c : Bool). greatest_of (cond c (to_z w64 w) (to_z w64 b)) (map (to_z w64) ws)) (sym e)
    go true false e old new = old ∙ ap (λ (c : Bool). greatest_of (cond c (to_z w64 w) (to_z w64 b)) (map (to_z w64) ws)) (sym e)
    go false true e old new = old ∙ ap (λ (c : Bool). least_of (cond c (to_z w64 b) (to_z w64 w)) (map (to_z w64) ws)) (sym e)
    go false false e old new = new ∙ ap (λ (c : Bool). least_of (cond c (to_z w64 b) (to_z w64 w)) (map (to_z w64) ws)) (sym e)

better_start : (g : Bool) (u : ℕ) → u < 2 ^ 64 → better g (start g) u ≡ u
better_start true u h = omega arith
better_start false u h = omega arith

best_folded : (g : Bool) (x : ℤ) (xs : List ℤ) → Some (extreme g x xs) ≡ value_of (folded (fold_by g) (x ∷ xs))
unfolding folded value_of
best_folded true x xs = refl
best_folded false x xs = refl

best_all : (g : Bool) (ws : List ℕ) → 0 < length ws → Words ws → Some (to_z w64 (raised (best_of g (start g) (map raised ws)))) ≡ value_of (folded (fold_by g) (map (to_z w64) ws))
unfolding best_of
best_all g [] h a = absurd (omega arith)
best_all g (w ∷ ws) h a =
    ap (λ (b : ℕ). Some (to_z w64 (raised (best_of g b (map raised ws))))) (better_start g (raised w) (raised_small w a.0))
    ∙ ap Some (best_is g w ws a.0 a.1) ∙ best_folded g (to_z w64 w) (map (to_z w64) ws)

-- ---- the words of two lists

pub best_fold : (g : Bool) (xs ys : List ℕ) → Words xs → Words ys → 0 < length ys → (b r : ℕ) → b ≡ best_of g (start g) (map raised xs) → r ≡ best_of g b (map raised ys)
    → Some (to_z w64 (raised r)) ≡ value_of (folded (fold_by g) (map (to_z w64) xs ++ map (to_z w64) ys))
best_fold g xs ys a b l m r em er =
    let all : r ≡ best_of g (start g) (map raised (xs ++ ys)) =
    er ∙ ap (λ (z : ℕ). best_of g z (map raised ys)) em ∙ best_append g (start g) (map raised xs) (map raised ys) ∙ ap (best_of g (start g)) (sym (map-append raised xs ys)) in
    let some_more : 0 < length (xs ++ ys) = rw (length-append xs ys) (omega arith) in
    ap (λ (z : ℕ). Some (to_z w64 (raised z))) all ∙ best_all g (xs ++ ys) some_more (words_append xs ys a b)
    ∙ ap (λ (z : List ℤ). value_of (folded (fold_by g) z)) (map-append (to_z w64) xs ys)
