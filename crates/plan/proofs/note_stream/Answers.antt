-- `plan::note_stream` meets its contract.
use mathlib.Core.Path.{sym, ◌∙◌}
use Rattle.plan.proofs.Pass.{noted_kept, noted_broken}
use lib.Dec.{lit<}
use Rattle.operators.proofs.Rules.{arg_small, first_ok, second_ok}
use Rattle.operators.specs.Operators.{uses_a, uses_b}
use native.Mathlib.Omega.{arith}
use Rattle.plan.proofs.note_stream.Goals as goal

pub returns-then-not-keeps : goal.returns-then-not-keeps
returns-then-not-keeps c = record { value = sym (sym c.keeps.ensures ∙ c.if-not-keeps.true); graph_after = noted_broken c.args.n c.args.i c.args.f c.args.graph.now (sym c.keeps.ensures ∙ c.if-not-keeps.true) }

pub overflow_cast-f : goal.overflow_cast-f
overflow_cast-f c = omega (arith, arg_small (uses_a c.args.f.op) c.args.n c.args.f.a (first_ok c.args.n c.args.f.op c.args.f.a c.args.f.b c.args.f.k c.args.f.out (sym c.keeps.ensures ∙ c.if-not-keeps.false)) 256 (lit< tt) (omega arith))

pub overflow_cast-f-2 : goal.overflow_cast-f-2
overflow_cast-f-2 c = omega (arith, arg_small (uses_b c.args.f.op) c.args.n c.args.f.b (second_ok c.args.n c.args.f.op c.args.f.a c.args.f.b c.args.f.k c.args.f.out (sym c.keeps.ensures ∙ c.if-not-keeps.false)) 256 (lit< tt) (omega arith))

pub returns : goal.returns
returns c = record { value = sym (sym c.keeps.ensures ∙ c.if-not-keeps.false); graph_after = c.note.ensures ∙ noted_kept c.args.n c.args.i c.args.f c.args.graph.now (sym c.keeps.ensures ∙ c.if-not-keeps.false) }
