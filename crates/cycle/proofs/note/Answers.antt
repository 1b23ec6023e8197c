-- `cycle::note` meets its contract.
use mathlib.Core.Path.{sym, ap, ◌∙◌}
use Prim.Native.Nat.{◌*◌}
use lib.Seq.{sets}
use Rattle.meaning.specs.Arguments.{prompts}
use Rattle.operators.specs.Operators.{arguments_of}
use Rattle.operators.proofs.Arms.{bare_prompts, first_prompts, both_prompts, late_prompts}
use Rattle.cycle.specs.Graph.{entry_by, entry_of}
use Rattle.cycle.proofs.note.Goals as goal

pub returns-in-Absent : goal.returns-in-Absent
unfolding entry_of
returns-in-Absent c = c.store.ensures ∙ ap (λ l. sets c.args.graph.now (3 * c.args.i) (entry_by l)) (sym (bare_prompts c.group_of.result c.args.a c.args.b c.in-Absent.in-Absent-own.keys1) ∙ ap (λ x. prompts (arguments_of x c.args.a c.args.b)) c.group_of.ensures)

pub returns-in-One : goal.returns-in-One
unfolding entry_of
returns-in-One c = c.store-in-One.ensures ∙ ap (λ l. sets c.args.graph.now (3 * c.args.i) (entry_by l)) (sym (first_prompts c.group_of.result c.args.a c.args.b c.in-One.in-One-own.keys2) ∙ ap (λ x. prompts (arguments_of x c.args.a c.args.b)) c.group_of.ensures)

pub returns-in-Two : goal.returns-in-Two
unfolding entry_of
returns-in-Two c = c.store-in-Two.ensures ∙ ap (λ l. sets c.args.graph.now (3 * c.args.i) (entry_by l)) (sym (both_prompts c.group_of.result c.args.a c.args.b c.in-Two.in-Two-own.keys3) ∙ ap (λ x. prompts (arguments_of x c.args.a c.args.b)) c.group_of.ensures)

pub returns-in-Last : goal.returns-in-Last
unfolding entry_of
returns-in-Last c = c.store-in-Last.ensures ∙ ap (λ l. sets c.args.graph.now (3 * c.args.i) (entry_by l)) (sym (late_prompts c.group_of.result c.args.a c.args.b c.in-Last.in-Last-own.keys4) ∙ ap (λ x. prompts (arguments_of x c.args.a c.args.b)) c.group_of.ensures)
