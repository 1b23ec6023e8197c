use mathlib.Core.Path.{◌∙◌}
use Rattle.num.specs.Arithmetic.{added, subtracted, multiplied, divided, remainder, less, at_most, equal}
use Rattle.meaning.specs.Table.{calculated}
use Rattle.apply.proofs.Rows
use Rattle.apply.proofs.calculate.Goals as goal

pub returns-in-Add : goal.returns-in-Add
unfolding calculated
returns-in-Add c = let s = c in Rows.called added s.ranges.v s.ranges.w c.add.ensures ∙ Rows.calc_arm s.args.v s.args.w c.in-Add.is

pub returns-in-Sub : goal.returns-in-Sub
unfolding calculated
returns-in-Sub c = let s = c in Rows.called subtracted s.ranges.v s.ranges.w c.sub.ensures ∙ Rows.calc_arm s.args.v s.args.w c.in-Sub.is

pub returns-in-Mul : goal.returns-in-Mul
unfolding calculated
returns-in-Mul c = let s = c in Rows.called multiplied s.ranges.v s.ranges.w c.mul.ensures ∙ Rows.calc_arm s.args.v s.args.w c.in-Mul.is

pub returns-in-Div : goal.returns-in-Div
unfolding calculated
returns-in-Div c = let s = c in Rows.called divided s.ranges.v s.ranges.w c.div.ensures ∙ Rows.calc_arm s.args.v s.args.w c.in-Div.is

pub returns-in-Rem : goal.returns-in-Rem
unfolding calculated
returns-in-Rem c = let s = c in Rows.called remainder s.ranges.v s.ranges.w c.rem.ensures ∙ Rows.calc_arm s.args.v s.args.w c.in-Rem.is

pub returns-in-Lt : goal.returns-in-Lt
unfolding calculated
returns-in-Lt c = let s = c in Rows.called less s.ranges.v s.ranges.w c.lt.ensures ∙ Rows.calc_arm s.args.v s.args.w c.in-Lt.is

pub returns-in-Le : goal.returns-in-Le
unfolding calculated
returns-in-Le c = let s = c in Rows.called at_most s.ranges.v s.ranges.w c.le.ensures ∙ Rows.calc_arm s.args.v s.args.w c.in-Le.is

pub returns-in-Eq : goal.returns-in-Eq
unfolding calculated
returns-in-Eq c = let s = c in Rows.called equal s.ranges.v s.ranges.w c.eq.ensures ∙ Rows.calc_arm s.args.v s.args.w c.in-Eq.is
