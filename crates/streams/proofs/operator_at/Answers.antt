-- `streams::operator_at` meets its contract.
use Prim.Native.Nat.{ℕ, ◌+◌, ◌-◌}
use mathlib.Core.Path.{◌≡◌, sym, ap, ◌∙◌}
use mir.Syntax.{w64}
use mir.Val.{to_z}
use mir.Facts.{to_z-of_z}
use lib.IntN.{ℤ}
use Rattle.apply.specs.Named.{folding}
use Rattle.meaning.specs.Plan.{signal, window}
use Rattle.operators.specs.Operators.{eqn_of}
use Rattle.operators.proofs.Laws.{signal_row_lem, window_row_lem}
use Rattle.layout.specs.Record.{dec_raw, num, a_f, b_f, k_f}
use native.Mathlib.Omega.{arith}
use Rattle.streams.proofs.Laws as law
use Rattle.streams.proofs.operator_at.Goals as goal

pub returns-in-1 : goal.returns-in-1
unfolding eqn_of
returns-in-1 c = let r = dec_raw c.args.r.now in let k = to_z w64 (num k_f r) in let n = c.byte_at-n.ensures.0 in ap (λ (m : ℕ). eqn_of m (num a_f r) (num b_f r) k) (sym c.in-1.is ∙ n) ∙ sym (law.look_eqn r)

pub returns-in-3 : goal.returns-in-3
unfolding eqn_of
returns-in-3 c = let r = dec_raw c.args.r.now in let k = to_z w64 (num k_f r) in let n = c.byte_at-n.ensures.0 in ap (λ (m : ℕ). eqn_of m (num a_f r) (num b_f r) k) (sym c.in-3.is ∙ n) ∙ sym (law.look_eqn r)

pub returns-in-18 : goal.returns-in-18
unfolding eqn_of
returns-in-18 c = let r = dec_raw c.args.r.now in let k = to_z w64 (num k_f r) in let n = c.byte_at-n.ensures.0 in ap (λ (m : ℕ). eqn_of m c.byte_at-a.result c.byte_at-b.result k) (sym c.in-18.is) ∙ (λ j. eqn_of (n j) (c.byte_at-a.ensures.0 j) (c.byte_at-b.ensures.0 j) k) ∙ sym (law.look_eqn r)

pub returns-in-19 : goal.returns-in-19
unfolding eqn_of
returns-in-19 c = let r = dec_raw c.args.r.now in let k = to_z w64 (num k_f r) in let n = c.byte_at-n.ensures.0 in ap (λ (m : ℕ). eqn_of m c.byte_at-a-in-19.result c.byte_at-b-in-19.result k) (sym c.in-19.is) ∙ (λ j. eqn_of (n j) (c.byte_at-a-in-19.ensures.0 j) (c.byte_at-b-in-19.ensures.0 j) k) ∙ sym (law.look_eqn r)

pub returns-in-4-to-7 : goal.returns-in-4-to-7
returns-in-4-to-7 c = let r = dec_raw c.args.r.now in let k = to_z w64 (num k_f r) in let n = c.byte_at-n.ensures.0 in c.unary_at-f.ensures c.byte_at-a-in-4-to-7.result (num b_f r) ∙ (λ j. eqn_of (n j) (c.byte_at-a-in-4-to-7.ensures.0 j) (num b_f r) k) ∙ sym (law.look_eqn r)

pub returns-in-8-to-17 : goal.returns-in-8-to-17
returns-in-8-to-17 c = let r = dec_raw c.args.r.now in let k = to_z w64 (num k_f r) in let n = c.byte_at-n.ensures.0 in c.binary_of-g.ensures c.byte_at-a-in-8-to-17.result c.byte_at-b-in-8-to-17.result k ∙ (λ j. eqn_of (n j) (c.byte_at-a-in-8-to-17.ensures.0 j) (c.byte_at-b-in-8-to-17.ensures.0 j) k) ∙ sym (law.look_eqn r)

pub returns-in-20-to-27 : goal.returns-in-20-to-27
returns-in-20-to-27 c = let r = dec_raw c.args.r.now in let k = to_z w64 (num k_f r) in let n = c.byte_at-n.ensures.0 in let m = c.byte_at-n.result in let a = c.byte_at-a-in-20-to-27.result in let b = c.byte_at-b-in-20-to-27.result in let e : 20 + (m - 20) ≡ m = omega arith in ap (λ g. signal g a b) c.calc_of-g.ensures ∙ sym (signal_row_lem a b k (m - 20) (omega arith)) ∙ ap (λ (x : ℕ). eqn_of x a b k) e ∙ (λ j. eqn_of (n j) (c.byte_at-a-in-20-to-27.ensures.0 j) (c.byte_at-b-in-20-to-27.ensures.0 j) k) ∙ sym (law.look_eqn r)

pub returns-in-28-to-30 : goal.returns-in-28-to-30
returns-in-28-to-30 c = let r = dec_raw c.args.r.now in let k = to_z w64 (num k_f r) in let n = c.byte_at-n.ensures.0 in let m = c.byte_at-n.result in let a = c.byte_at-a-in-28-to-30.result in let b = num b_f r in let q : 28 + (m - 28) ≡ m = omega arith in ap (λ (z : ℤ). window (folding c.fold_of-f.result) z a) (to_z-of_z {w = w64} (record { sfits = c.of_bits-k.type_inv })) ∙ ap (λ f. window f c.of_bits-k.result a) c.fold_of-f.ensures ∙ sym (window_row_lem a b c.of_bits-k.result (m - 28) (omega arith)) ∙ ap (λ (x : ℕ). eqn_of x a b c.of_bits-k.result) q ∙ (λ j. eqn_of (n j) (c.byte_at-a-in-28-to-30.ensures.0 j) b ((c.of_bits-k.ensures ∙ ap (to_z w64) c.word_at.ensures) j)) ∙ sym (law.look_eqn r)

pub returns-in_default : goal.returns-in_default
returns-in_default c = let r = dec_raw c.args.r.now in let k = to_z w64 (num k_f r) in let n = c.byte_at-n.ensures.0 in law.nil_low (num a_f r) (num b_f r) k c.byte_at-n.result (omega arith) c.in_default.in_default-own.rest.0.0.0.1 c.in_default.in_default-own.rest.0.0.1 ∙ ap (λ (m : ℕ). eqn_of m (num a_f r) (num b_f r) k) n ∙ sym (law.look_eqn r)

pub returns-in_default-2 : goal.returns-in_default-2
returns-in_default-2 c = let r = dec_raw c.args.r.now in let k = to_z w64 (num k_f r) in let n = c.byte_at-n.ensures.0 in law.nil_high (num a_f r) (num b_f r) k c.byte_at-n.result (omega arith) ∙ ap (λ (m : ℕ). eqn_of m (num a_f r) (num b_f r) k) n ∙ sym (law.look_eqn r)
