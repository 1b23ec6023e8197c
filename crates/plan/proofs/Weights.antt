-- What the streams weigh together says whether they keep rule 18.
use Prim.Native.Nat.{ℕ, suc, ◌+◌, ◌<◌, ◌≤◌}
use mathlib.Core.Path.{◌≡◌, refl, sym, ap, ◌∙◌}
use mathlib.Core.Bool.{Bool, true, false, cond, ◌&&◌, true≢false}
use mathlib.Core.List.{List, [], ◌∷◌}
use native.Mathlib.Omega.{arith}
use lib.Dec.{leb}
use borrow.Author.Tests.{lt-leb}
use mir.Syntax.{w64}
use mir.Val.{to_z}
use Rattle.operators.specs.Limits.{width_limit, window_limit}
use Rattle.operators.specs.Operators.{group_of, is_window}
use Rattle.operators.specs.Windows.{width_ok, is_window_eqn, windows}
use Rattle.operators.proofs.Laws.{window_by_number}
use Rattle.operators.proofs.Tests.{left, right}
use Rattle.text.specs.declared.Fields.{Fields}
use Rattle.plan.specs.Rules.{eqn_from, plan_from, all_widths, windows_ok}
use Rattle.plan.specs.Pass.{weight_of, weights}

-- ## One stream

module _ (f : Fields) where
  pub weight_none : is_window (group_of f.op) ≡ false → weight_of f ≡ 0
  unfolding weight_of
  weight_none e = rw e

  pub weight_good : is_window (group_of f.op) ≡ true → width_ok f.op f.k ≡ true → weight_of f ≡ 1
  unfolding weight_of
  weight_good e w = rw (e, w)

  pub weight_bad : is_window (group_of f.op) ≡ true → width_ok f.op f.k ≡ false → weight_of f ≡ suc window_limit
  unfolding weight_of
  weight_bad e w = rw (e, w)

  -- a stream that is no window has no bad width
  bad_window : width_ok f.op f.k ≡ false → is_window (group_of f.op) ≡ true
  unfolding width_ok
  bad_window e = by (is_window (group_of f.op)) (leb 1 f.k && leb f.k width_limit) e
    where
      by : (b x : Bool) → cond b x true ≡ false → b ≡ true
      by true x e = refl
      by false x e = sym e

  pub weight_most : weight_of f ≤ suc window_limit
  unfolding weight_of
  weight_most = by (is_window (group_of f.op)) (width_ok f.op f.k)
    where
      by : (x y : Bool) → cond x (cond y 1 (suc window_limit)) 0 ≤ suc window_limit
      by true true = omega arith
      by true false = omega arith
      by false y = omega arith

  -- of a good width a stream weighs as much as it counts
  weight_counts : width_ok f.op f.k ≡ true → (n : ℕ) → weight_of f + n ≡ cond (is_window_eqn (eqn_from f)) (suc n) n
  unfolding weight_of
  weight_counts w n = rw (window_by_number f.a f.b (to_z w64 f.k) f.op, w) (by (is_window (group_of f.op)))
    where
      by : (b : Bool) → cond b 1 0 + n ≡ cond b (suc n) n
      by true = omega arith
      by false = omega arith

-- ## All streams

-- of good widths they weigh as much as there are windows
weights_good : (fs : List Fields) → all_widths fs ≡ true → weights fs ≡ windows (plan_from fs)
unfolding all_widths weights windows plan_from
weights_good [] e = refl
weights_good (f ∷ fs) e =
    let w = left (width_ok f.op f.k) (all_widths fs) e in
    let r = right (width_ok f.op f.k) (all_widths fs) e in
    ap (λ n. weight_of f + n) (weights_good fs r) ∙ weight_counts f w (windows (plan_from fs))

-- one bad width outweighs
weights_bad : (fs : List Fields) → all_widths fs ≡ false → window_limit < weights fs
unfolding all_widths weights
weights_bad [] e = absurd (true≢false e)
weights_bad (f ∷ fs) e = by (width_ok f.op f.k) refl e (weights_bad fs)
  where
    by : (b : Bool) → width_ok f.op f.k ≡ b → (b && all_widths fs) ≡ false → (all_widths fs ≡ false → window_limit < weights fs) → window_limit < weight_of f + weights fs
    by true q e ih = let h = ih e in omega arith
    by false q e ih = let h = weight_bad f (bad_window f q) q in omega arith

-- rule 18 is kept just if the streams weigh no more than the windows of a plan may
pub weights_rule : (fs : List Fields) → leb (weights fs) window_limit ≡ windows_ok fs
unfolding windows_ok
weights_rule fs = by (all_widths fs) refl
  where
    by : (b : Bool) → all_widths fs ≡ b → leb (weights fs) window_limit ≡ (b && leb (windows (plan_from fs)) window_limit)
    by true e = ap (λ n. leb n window_limit) (weights_good fs e)
    by false e = lt-leb (weights fs) window_limit (weights_bad fs e)
