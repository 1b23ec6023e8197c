use Prim.Native.Nat.{ℕ}
use mathlib.Core.Path.{◌≡◌, sym, ap, ◌∙◌}
use lib.IntN.{ℤ}
use mir.Syntax.{w64}
use mir.Val.{to_z}
use mir.Facts.{to_z-of_z}
use Rattle.meaning.specs.Plan.{set, plus, one}
use Rattle.operators.specs.Operators.{eqn_of}
use Rattle.layout.specs.Record.{dec_raw, num, k_f}
use native.Mathlib.Omega.{arith}
use Rattle.streams.proofs.unary_at.Goals as goal

pub returns-in-4 : goal.returns-in-4
unfolding eqn_of
returns-in-4 c = let k = to_z w64 (num k_f (dec_raw c.args.r.now)) in λ a b. ap (λ (m : ℕ). eqn_of m a b k) (sym c.in-4.is)

pub returns-in-5 : goal.returns-in-5
unfolding eqn_of
returns-in-5 c = let k = to_z w64 (num k_f (dec_raw c.args.r.now)) in λ a b. ap (λ (v : ℤ). one (set v) a) (to_z-of_z {w = w64} (record { sfits = c.of_bits-k.type_inv }) ∙ c.of_bits-k.ensures ∙ ap (to_z w64) c.word_at.ensures) ∙ ap (λ (m : ℕ). eqn_of m a b k) (sym c.in-5.is)

pub returns-in-6 : goal.returns-in-6
unfolding eqn_of
returns-in-6 c = let k = to_z w64 (num k_f (dec_raw c.args.r.now)) in λ a b. ap (λ (v : ℤ). one (plus v) a) (to_z-of_z {w = w64} (record { sfits = c.of_bits-k-in-6.type_inv }) ∙ c.of_bits-k-in-6.ensures ∙ ap (to_z w64) c.word_at-in-6.ensures) ∙ ap (λ (m : ℕ). eqn_of m a b k) (sym c.in-6.is)

pub returns-in_default : goal.returns-in_default
unfolding eqn_of
returns-in_default c = let k = to_z w64 (num k_f (dec_raw c.args.r.now)) in λ a b. let e : 7 ≡ c.args.n = omega arith in ap (λ (m : ℕ). eqn_of m a b k) e
