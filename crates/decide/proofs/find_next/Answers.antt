use mathlib.Core.Path.{◌∙◌}
use Rattle.layout.specs.Record.{dec_raw}
use Rattle.encoding.specs.Back.{to_cell}
use Rattle.streams.specs.Look.{look_of, plain, own_of, arg_of}
use Rattle.machine.specs.Reach as machine
use Rattle.decide.proofs.Searches as law
use Rattle.decide.proofs.find_next.Goals as goal

pub returns : goal.returns
unfolding look_of to_cell
returns c = let x = c.args in let k = c.beside-l.ensures in let A = x.a.now in let B = x.b.now in let o = own_of x.s in record { next = c.next_in.ensures.0 ∙ (λ i. machine.decide (plain (k.0 i).op) (own_of (k.0 i)) (arg_of (k.1 i) A) (arg_of (k.2 i) B)) ∙ law.decide_near (plain x.s.op) o (look_of (dec_raw A)) (look_of (dec_raw B)); known = c.next_in.ensures.1 }
