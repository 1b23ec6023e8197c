use Prim.Native.Nat.{◌+◌, ◌-◌, ◌*◌}
use mathlib.Core.Path.{sym, ap, ◌∙◌}
use Rattle.layout.specs.Record.{encode, decode}
use Rattle.layout.proofs.Laws.{lent, encode_decode}
use Rattle.queue.specs.Queue.{shed}
use borrow.Author.Rules.{rules}
use native.Mathlib.Omega.{arith}
use Rattle.plain.proofs.Tests
use Rattle.plain.proofs.release_each.Goals as goal

pub returns-then-k-eq0 : goal.returns-then-k-eq0
returns-then-k-eq0 c = let a = c.args in let s = a.state.now in sym (ap (encode a.n) (Tests.release_free a.i (decode a.n s) (sym c.if-k-eq0.true ∙ c.free-k.ensures.0)) ∙ encode_decode a.n s (omega arith) (λ j. omega (arith, c.slice_known-1.given j)))

pub drop_first-requires : goal.drop_first-requires
drop_first-requires c = let a = c.args in (search rules, Tests.held_mid a.n a.i (a.i * 256 + 256 - a.i * 256) c.free-k.result a.state.now (omega arith) (omega arith) c.free-k.ensures.1)

pub returns : goal.returns
returns c = let a = c.args in let s = a.state.now in let i = a.i in let k = c.free-k.result in lent a.n s c.drop_first.new.r i (i * 256 + 256 - i * 256) (shed k) (omega arith) (omega arith) (λ j. omega (arith, c.slice_known-1.given j)) (omega arith) c.drop_first.ensures ∙ ap (encode a.n) (sym (Tests.release_shed i k (decode a.n s) c.free-k.ensures.0))
