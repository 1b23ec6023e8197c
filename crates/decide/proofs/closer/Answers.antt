use mathlib.Core.Path.{sym, ◌∙◌}
use Rattle.streams.specs.Look.{plain, own_of, arg_of}
use Rattle.decide.specs.Near.{test_in}
use native.Mathlib.Omega.{arith}
use Rattle.decide.proofs.Steps as step
use Rattle.decide.proofs.closer.Goals as goal

pub returns-then-c-l : goal.returns-then-c-l
returns-then-c-l c = let x = c.args in let l = x.l in let e = plain l.stream.op in let o = own_of l.stream in let A = x.a.now in let B = x.b.now in let a = arg_of l.abound A in let b = arg_of l.bbound B in step.near_low l.stream.bound x.c x.best (test_in x.give l A B x.c) (omega arith)

pub returns-then-best-c : goal.returns-then-best-c
returns-then-best-c c = let x = c.args in let l = x.l in let e = plain l.stream.op in let o = own_of l.stream in let A = x.a.now in let B = x.b.now in let a = arg_of l.abound A in let b = arg_of l.bbound B in step.near_high l.stream.bound x.c x.best (test_in x.give l A B x.c) (omega arith) (omega arith)

pub returns-then-passes : goal.returns-then-passes
returns-then-passes c = let x = c.args in let l = x.l in let e = plain l.stream.op in let o = own_of l.stream in let A = x.a.now in let B = x.b.now in let a = arg_of l.abound A in let b = arg_of l.bbound B in step.near_yes l.stream.bound x.c x.best (test_in x.give l A B x.c) (omega arith) (omega arith) (sym c.passes.ensures ∙ c.if-passes.true)

pub returns : goal.returns
returns c = let x = c.args in let l = x.l in let e = plain l.stream.op in let o = own_of l.stream in let A = x.a.now in let B = x.b.now in let a = arg_of l.abound A in let b = arg_of l.bbound B in step.near_no l.stream.bound x.c x.best (test_in x.give l A B x.c) (omega arith) (omega arith) (sym c.passes.ensures ∙ c.if-passes.false)
