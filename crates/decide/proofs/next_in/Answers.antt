use Rattle.std.specs.Prelude.{None, Some}
use mathlib.Core.Path.{ap, ◌∙◌}
use Rattle.apply.proofs.Rows.{back}
use Rattle.streams.specs.Look.{plain, own_of, arg_of}
use native.Mathlib.Omega.{arith}
use Rattle.machine.specs.Reach as machine
use Rattle.decide.proofs.Searches as law
use Rattle.decide.proofs.next_in.Goals as goal

pub returns-then-r-t : goal.returns-then-r-t
returns-then-r-t c = let x = c.args in let l = x.l in let e = plain l.stream.op in let o = own_of l.stream in let A = x.a.now in let B = x.b.now in let a = arg_of l.abound A in let b = arg_of l.bbound B in let t = c.first-t.result in let r = c.reach-r.result in (law.next_silent o a b e t r c.first-t.ensures c.reach-r.ensures.0 (omega arith), omega arith)

pub event_at-requires : goal.event_at-requires
event_at-requires c = let x = c.args in let l = x.l in let e = plain l.stream.op in let o = own_of l.stream in let A = x.a.now in let B = x.b.now in let a = arg_of l.abound A in let b = arg_of l.bbound B in let t = c.first-t.result in let r = c.reach-r.result in let k = law.first_from o a b e t c.first-t.ensures in let s = c.requires.0.since in (omega arith, omega arith, omega arith, omega arith)

pub returns-in-None : goal.returns-in-None
returns-in-None c = let x = c.args in let l = x.l in let e = plain l.stream.op in let o = own_of l.stream in let A = x.a.now in let B = x.b.now in let a = arg_of l.abound A in let b = arg_of l.bbound B in let t = c.first-t.result in let r = c.reach-r.result in (law.next_shown o a b e t r c.first-t.ensures c.reach-r.ensures.0 None (omega arith) c.in-None.ensures, omega arith)

pub returns-in-Some : goal.returns-in-Some
returns-in-Some c = let x = c.args in let l = x.l in let e = plain l.stream.op in let o = own_of l.stream in let A = x.a.now in let B = x.b.now in let a = arg_of l.abound A in let b = arg_of l.bbound B in let t = c.first-t.result in let r = c.reach-r.result in let v = c.in-Some.v in (ap (machine.event t) (back v (omega arith)) ∙ law.next_shown o a b e t r c.first-t.ensures c.reach-r.ensures.0 (Some v) (omega arith) c.in-Some.ensures, omega arith)
