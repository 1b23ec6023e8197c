-- `saved::length_of` meets its contract.
use mathlib.Core.Path.{sym, ◌∙◌}
use native.Mathlib.Omega.{arith}
use Rattle.operators.specs.Limits.{state_length}
use Rattle.saved.proofs.Cases as law
use Rattle.saved.proofs.length_of.Goals as goal

pub returns-then-is_short-clause-taken : goal.returns-then-is_short-clause-taken
returns-then-is_short-clause-taken c = let n = c.args.n in let s = c.args.room.now in (law.answered n s state_length (sym (law.as_short n s (sym c.is_short.ensures ∙ c.if-is_short.true))) (omega arith) (omega arith)).0

pub returns-then-is_short-clause-inside : goal.returns-then-is_short-clause-inside
returns-then-is_short-clause-inside c = let n = c.args.n in let s = c.args.room.now in (law.answered n s state_length (sym (law.as_short n s (sym c.is_short.ensures ∙ c.if-is_short.true))) (omega arith) (omega arith)).1

pub returns-clause-taken : goal.returns-clause-taken
returns-clause-taken c = let n = c.args.n in let s = c.args.room.now in let e = law.as_long n s (sym c.is_short.ensures ∙ c.if-is_short.false) in (law.answered n s _ (omega arith) (omega arith) (omega arith)).0

pub returns-clause-inside : goal.returns-clause-inside
returns-clause-inside c = let n = c.args.n in let s = c.args.room.now in let e = law.as_long n s (sym c.is_short.ensures ∙ c.if-is_short.false) in (law.answered n s _ (omega arith) (omega arith) (omega arith)).1
