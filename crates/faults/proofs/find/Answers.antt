-- `faults::find` meets its contract.
use Rattle.std.specs.Prelude.{unwrap_or}
use Rattle.refusal.specs.Numbers.{number_of}
use mathlib.Core.Path.{sym, ◌∙◌}
use Rattle.faults.specs.Faults.{fault, none}
use Rattle.render.proofs.Heads.{head_fits}
use Rattle.faults.proofs.Number.{found_number, found_long, found_head, found_after}
use Rattle.faults.proofs.find.Goals as goal

pub returns-then-text-gt-TEXT-clause-number_value : goal.returns-then-text-gt-TEXT-clause-number_value
returns-then-text-gt-TEXT-clause-number_value c = c.number.ensures.0 ∙ found_number c.args.most c.args.text.now (fault 1 0 0) (found_long c.args.most c.args.text.now c.if-text-gt-TEXT.true)

pub returns-then-text-gt-TEXT-clause-found : goal.returns-then-text-gt-TEXT-clause-found
returns-then-text-gt-TEXT-clause-found c = rw c.number.ensures.0 (found_long c.args.most c.args.text.now c.if-text-gt-TEXT.true)

pub plan_fault-requires : goal.plan_fault-requires
plan_fault-requires c = (c.requires, head_fits c.args.most c.args.text.now c.in-Ok.n c.in-Ok.at (sym c.in-Ok.ensures), sym c.in-Ok.ensures)

pub returns-in-Ok-clause-number_value : goal.returns-in-Ok-clause-number_value
returns-in-Ok-clause-number_value c = found_number c.args.most c.args.text.now (unwrap_or c.plan_fault.result none) (found_after c.args.most c.args.text.now c.if-text-gt-TEXT.false c.in-Ok.n c.in-Ok.at (sym c.in-Ok.ensures) (unwrap_or c.plan_fault.result none) c.plan_fault.ensures.0)

pub returns-in-Ok-clause-found : goal.returns-in-Ok-clause-found
returns-in-Ok-clause-found c = found_after c.args.most c.args.text.now c.if-text-gt-TEXT.false c.in-Ok.n c.in-Ok.at (sym c.in-Ok.ensures) (unwrap_or c.plan_fault.result none) c.plan_fault.ensures.0

pub returns-in-Err-clause-number_value : goal.returns-in-Err-clause-number_value
returns-in-Err-clause-number_value c = c.number-in-Err.ensures.0 ∙ found_number c.args.most c.args.text.now (fault (number_of c.in-Err.r) c.head_line.result 0) (found_head c.args.most c.args.text.now c.if-text-gt-TEXT.false c.in-Err.r (sym c.in-Err.ensures) c.head_line.result c.head_line.ensures)

pub returns-in-Err-clause-found : goal.returns-in-Err-clause-found
returns-in-Err-clause-found c = rw c.number-in-Err.ensures.0 (found_head c.args.most c.args.text.now c.if-text-gt-TEXT.false c.in-Err.r (sym c.in-Err.ensures) c.head_line.result c.head_line.ensures)
