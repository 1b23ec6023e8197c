-- `engine::tessla_load` meets its contract.
use mathlib.Core.Path.{refl, sym, ap, ◌∙◌}
use Rattle.calls.specs.Reply.{Reply}
use Rattle.engine.proofs.Loads.{load_15, load_number, load_stays, load_fills}
use Rattle.refusal.proofs.Laws.{refusal_some}
use native.Mathlib.Omega.{arith}
use lib.ListN.{length}
use Rattle.operators.proofs.Sizes.{capacity_fits, capacity_few}
use Rattle.engine.proofs.tessla_load.Goals as goal

pub returns-then-most-eq0 : goal.returns-then-most-eq0
returns-then-most-eq0 c = let a = c.args in let t = a.text.now in let s = a.state.now in let e = sym (load_15 t s c.capacity-most.result c.capacity-most.ensures c.if-most-eq0.true) in record { number = c.number.ensures.0 ∙ ap (λ (r : Reply). r.number) e; buffer = ap (λ (r : Reply). r.buffer) e }

pub check-requires : goal.check-requires
check-requires c = omega (arith, c.capacity-most.ensures, capacity_few (length c.args.state.now))

pub returns-in-Err : goal.returns-in-Err
returns-in-Err c = let a = c.args in let t = a.text.now in let s = a.state.now in let r = c.in-Err.r in record { number = c.number-in-Err.ensures.0 ∙ load_number t s c.capacity-most.result c.capacity-most.ensures (omega arith) _ c.in-Err.ensures; buffer = load_stays t s c.capacity-most.result c.capacity-most.ensures (omega arith) _ c.in-Err.ensures (λ q. omega (arith, refusal_some r)) }

pub fill-requires : goal.fill-requires
fill-requires c = omega (arith, c.capacity-most.ensures, capacity_fits (length c.args.state.now))

pub returns : goal.returns
returns c = let a = c.args in let t = a.text.now in let s = a.state.now in record { number = load_number t s c.capacity-most.result c.capacity-most.ensures (omega arith) 0 c.in_default.ensures; buffer = c.fill.ensures ∙ load_fills t s c.capacity-most.result c.capacity-most.ensures (omega arith) 0 c.in_default.ensures refl }
