-- The rule for widths, of fields and of the equation that they make.
use Prim.Native.Nat.{ℕ, ◌+◌, ◌-◌, ◌≤◌}
use mathlib.Core.Path.{◌≡◌, refl, sym, ap, ◌∙◌, subst}
use mathlib.Core.Bool.{Bool, true, false, cond, ◌&&◌, true≢false}
use native.Mathlib.Omega.{arith}
use borrow.Author.Tests.{leb-true, le-leb}
use lib.Dec.{leb}
use lib.IntN.{ℤ, pos, negsuc}
use lib.ListN.{get_or}
use mir.Syntax.{w64}
use mir.Val.{to_z, of_z}
use mir.Facts.{to_z_pos}
use Rattle.meaning.specs.Plan.{wsum, Eqn, input, nil, unit, one, two, last, delay, signal, window}
use Rattle.meaning.specs.Table.{width}
use Rattle.operators.specs.Operators.{group_of, is_window, folds, eqn_of, number_of, value_of, eqn_group}
use Rattle.operators.specs.Limits.{width_limit}
use Rattle.operators.specs.Windows.{width_ok, IsWidth, is_window_eqn}
use Rattle.operators.proofs.Tests.{left, right}
use Rattle.operators.proofs.Laws.{group_of_lem, window_range, window_row_lem, window_by_number}

-- an equation that is no window has no width
pub no_width : (e : Eqn) → is_window_eqn e ≡ false → IsWidth e
no_width input h = tt
no_width nil h = tt
no_width unit h = tt
no_width (one f a) h = tt
no_width (two g a b) h = tt
no_width (last a b) h = tt
no_width (delay a b) h = tt
no_width (signal c a b) h = tt
no_width (window f k a) h = absurd (true≢false h)

-- the width of a window's bits
pub bits_width : (k : ℕ) → k ≤ width_limit → width (to_z w64 k) ≡ k
bits_width k h = rw (to_z_pos w64 {n = k} (omega arith))

pub width_bits : (k : ℤ) → 1 ≤ width k → width k ≤ width_limit → of_z w64 k ≡ width k
width_bits (pos k) l h = refl
width_bits (negsuc k) l h = absurd (omega arith)

pub width_is : (op a b k : ℕ) → width_ok op k ≡ true → IsWidth (eqn_of op a b (to_z w64 k))
unfolding width_ok
width_is op a b k e = go (is_window (group_of op)) refl
  where
    go : (w : Bool) → is_window (group_of op) ≡ w → IsWidth (eqn_of op a b (to_z w64 k))
    go false q = no_width (eqn_of op a b (to_z w64 k)) (window_by_number a b (to_z w64 k) op ∙ q)
    go true q =
        let r = sym (window_range op) ∙ q in
        let lo = leb-true 28 op (left (leb 28 op) (leb op 30) r) in
        let hi = leb-true op 30 (right (leb 28 op) (leb op 30) r) in
        let t : (leb 1 k && leb k width_limit) ≡ true = rw q at e in
        let l = leb-true 1 k (left (leb 1 k) (leb k width_limit) t) in
        let h = leb-true k width_limit (right (leb 1 k) (leb k width_limit) t) in
        let p = op - 28 in
        let m : op ≡ 28 + p = omega arith in
        let row : eqn_of op a b (to_z w64 k) ≡ window (get_or folds p wsum) (to_z w64 k) a = ap (λ n. eqn_of n a b (to_z w64 k)) m ∙ window_row_lem a b (to_z w64 k) p (omega arith) in
        subst IsWidth (sym row) (rw (bits_width k h) (l, h))

pub width_pass : (e : Eqn) → IsWidth e → width_ok (number_of e) (of_z w64 (value_of e)) ≡ true
unfolding width_ok
width_pass e h = rw (group_of_lem e) (go e h)
  where
    go : (e : Eqn) → IsWidth e → cond (is_window (eqn_group e)) (leb 1 (of_z w64 (value_of e)) && leb (of_z w64 (value_of e)) width_limit) true ≡ true
    go input h = refl
    go nil h = refl
    go unit h = refl
    go (one f a) h = refl
    go (two g a b) h = refl
    go (last a b) h = refl
    go (delay a b) h = refl
    go (signal c a b) h = refl
    go (window f k a) h = unfold value_of in rw (width_bits k h.0 h.1, le-leb 1 (width k) h.0, le-leb (width k) width_limit h.1)
