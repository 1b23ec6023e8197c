-- `calls::move_next` meets its contract: where the first search moves nothing, no equation below s can move.
use mathlib.Core.Logic.{inl}
use native.Mathlib.Omega.{arith}
use Rattle.calls.proofs.Turns
use Rattle.calls.proofs.Searches
use Rattle.calls.proofs.move_next.Goals as goal

pub returns-then-i-s : goal.returns-then-i-s
returns-then-i-s c = let a = c.args in let s = a.state.now in let n = a.n in let k = c.requires.1 (omega arith) in let m = Turns.one_found a.s c.move_touched-i.result s c.move_touched-i.new.state c.move_touched-i.ensures (λ e. omega arith) in inl (omega arith, m.1)

pub move_from-requires : goal.move_from-requires
move_from-requires c = let a = c.args in let s = a.state.now in let n = a.n in let q = Turns.none_found a.s c.move_touched-i.result s c.move_touched-i.new.state c.move_touched-i.ensures (omega arith) in (rw q.0 c.requires.0, Searches.at_most a.s n c.requires.1, rw q.0 q.1)

pub returns : goal.returns
returns c = let a = c.args in let s = a.state.now in let n = a.n in let q = Turns.none_found a.s c.move_touched-i.result s c.move_touched-i.new.state c.move_touched-i.ensures (omega arith) in rw q.0 at c.move_from.ensures
