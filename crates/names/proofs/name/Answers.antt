-- `names::name` meets its contract.
use mathlib.Core.Path.{sym, ap}
use native.Mathlib.Omega.{arith}
use Rattle.operators.specs.Operators.{Operator, name_of}
use Rattle.operators.proofs.Laws.{none_above}
use Rattle.names.proofs.name.Goals as goal

pub returns-in-31-to-18446744073709551615 : goal.returns-in-31-to-18446744073709551615
unfolding name_of
returns-in-31-to-18446744073709551615 c = sym (ap (λ (o : Operator). o.name) (none_above c.args.op (omega arith)))
