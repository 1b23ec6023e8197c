use Prim.Native.Nat.{ℕ, ◌+◌}
use mathlib.Core.Path.{refl, sym, ap, ◌∙◌}
use Rattle.layout.specs.Record.{dec_raw}
use Rattle.layout.proofs.Slots.{slots_many}
use Rattle.queue.proofs.Turns.{left, left_all}
use Rattle.streams.specs.Look.{plain, own_of, arg_of}
use Rattle.decide.specs.Near.{search_in}
use native.Mathlib.Omega.{arith}
use Rattle.decide.proofs.Steps as step
use Rattle.decide.proofs.scan.Goals as goal

pub loop-i-init : goal.loop-i-init
loop-i-init c = (omega arith, refl)

pub candidate-c-requires : goal.candidate-c-requires
candidate-c-requires c = (c.requires.0, omega arith, omega arith)

pub closer-best-requires : goal.closer-best-requires
closer-best-requires c = (c.requires.0, omega arith, omega arith, omega arith)

pub loop-i-preserved : goal.loop-i-preserved
loop-i-preserved c = let x = c.args in let l = x.l in let e = plain l.stream.op in let o = own_of l.stream in let A = x.a.now in let B = x.b.now in let a = arg_of l.abound A in let b = arg_of l.bbound B in let g = x.give in let hi = x.hi in let sl = (dec_raw x.q.now).slots in let many = slots_many x.q.now in let n = c.count-n.result in let k = step.near_le g e o a b c.candidate-c.result c.loop-i.best c.closer-best.result c.closer-best.ensures in (omega arith, ap (λ (m : ℕ). search_in g l A B m (left sl (c.loop-i.i + 1) n)) c.closer-best.ensures ∙ step.scan_turn g e o a b sl c.loop-i.i n c.stamp_at-stamp.result c.candidate-c.result c.loop-i.best (omega arith) (omega arith) c.stamp_at-stamp.ensures.0 c.candidate-c.ensures ∙ c.loop-i.invariant.1)

pub returns : goal.returns
returns c = let x = c.args in let l = x.l in let e = plain l.stream.op in let o = own_of l.stream in let A = x.a.now in let B = x.b.now in let a = arg_of l.abound A in let b = arg_of l.bbound B in let g = x.give in let hi = x.hi in let sl = (dec_raw x.q.now).slots in let many = slots_many x.q.now in let n = c.count-n.result in (sym (step.scan_end g e o a b sl c.loop-i.i n c.loop-i.best (omega arith)) ∙ c.loop-i.invariant.1 ∙ ap (search_in g l A B hi) (left_all (dec_raw x.q.now) n c.count-n.ensures.0), omega arith)
