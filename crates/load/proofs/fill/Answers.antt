-- `load::fill` meets its contract.
use Prim.Native.Nat.{ℕ}
use mathlib.Core.Path.{◌≡◌, sym, ap, ◌∙◌}
use lib.ListN.{length, replicate, length-replicate}
use Rattle.layout.specs.Record.{encode, decode}
use Rattle.load.specs.Filled.{written, filled, filled_head}
use mathlib.Core.List.{List}
use Rattle.le.proofs.Fields.{sets_whole}
use Rattle.render.proofs.Heads.{head_fits}
use Rattle.std.specs.Prelude.{Result}
use Rattle.refusal.specs.declared.Refusal.{Refusal}
use native.Mathlib.Omega.{arith}
use Rattle.load.proofs.fill.Goals as goal

pub write-requires : goal.write-requires
write-requires c = let a = c.args in let n = c.in-Ok.n in let p = c.in-Ok.at in let h = sym c.in-Ok.ensures in let z : c.clear.new.s ≡ replicate (length a.state.now) 0 = c.clear.ensures ∙ sets_whole a.state.now (replicate (length a.state.now) 0) (sym (length-replicate {A = ℕ} (length a.state.now) 0)) in let f = head_fits a.most a.text.now n p h in let y : length c.clear.new.s ≡ length a.state.now = ap length z ∙ length-replicate {A = ℕ} (length a.state.now) 0 in omega (arith, f, y, c.requires)

pub returns : goal.returns
unfolding filled
returns c = let a = c.args in let n = c.in-Ok.n in let p = c.in-Ok.at in let h = sym c.in-Ok.ensures in let z : c.clear.new.s ≡ replicate (length a.state.now) 0 = c.clear.ensures ∙ sets_whole a.state.now (replicate (length a.state.now) 0) (sym (length-replicate {A = ℕ} (length a.state.now) 0)) in c.write.ensures ∙ ap (λ (l : List ℕ). encode n (written a.text.now p n 0 (decode n l))) z ∙ ap (λ (x : Result (ℕ × ℕ) Refusal). filled_head a.text.now x a.state.now) (sym h)

pub returns-in_default : goal.returns-in_default
unfolding filled
returns-in_default c = ap (λ (x : Result (ℕ × ℕ) Refusal). filled_head c.args.text.now x c.args.state.now) c.in_default.ensures
