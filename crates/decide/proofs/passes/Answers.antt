use mathlib.Core.Path.{ap, ◌∙◌}
use Rattle.meaning.specs.Events.{has}
use Rattle.layout.specs.Record.{dec_raw}
use Rattle.encoding.specs.Back.{held_of}
use Rattle.streams.specs.Look.{plain, own_of, arg_of}
use Rattle.events.proofs.Laws.{is_some_has}
use Rattle.decide.proofs.Steps as step
use Rattle.decide.proofs.passes.Goals as goal

pub returns-then-give : goal.returns-then-give
returns-then-give c = let x = c.args in let l = x.l in let e = plain l.stream.op in let o = own_of l.stream in let A = x.a.now in let B = x.b.now in let a = arg_of l.abound A in let b = arg_of l.bbound B in c.is_some.ensures ∙ is_some_has c.event_at.result ∙ ap has c.event_at.ensures ∙ step.test_give e o a b x.t x.give c.if-give.true

pub returns : goal.returns
returns c = let x = c.args in let l = x.l in let e = plain l.stream.op in let o = own_of l.stream in let A = x.a.now in let B = x.b.now in let a = arg_of l.abound A in let b = arg_of l.bbound B in c.stops.ensures (held_of (dec_raw A)) ∙ step.test_stop e o a b x.t x.give c.if-give.false
