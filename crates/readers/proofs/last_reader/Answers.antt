use Prim.Native.Nat.{◌+◌, ◌-◌}
use mathlib.Core.Path.{◌≡◌, refl, sym, ◌∙◌}
use native.Mathlib.Omega.{arith}
use Rattle.readers.proofs.Rounds
use Rattle.readers.proofs.last_reader.Goals as goal

pub returns-then-reads : goal.returns-then-reads
returns-then-reads c = let a = c.args in let l = c.loop-i in let q = c.row_at.result.now in ((let e : l.i - 1 + 1 ≡ l.i = omega arith in e ∙ Rounds.last_found a.s a.n a.state.now q l.i (omega arith) (omega arith) c.row_at.ensures.0 l.invariant.1 (sym c.reads.ensures ∙ c.if-reads.true)), omega arith)

pub loop-i-preserved : goal.loop-i-preserved
loop-i-preserved c = let a = c.args in let l = c.loop-i in let q = c.row_at.result.now in (omega arith, Rounds.last_turn a.s a.n a.state.now q l.i (omega arith) (omega arith) c.row_at.ensures.0 l.invariant.1 (sym c.reads.ensures ∙ c.if-reads.false))

pub returns : goal.returns
returns c = let a = c.args in let l = c.loop-i in (Rounds.last_end a.s a.n l.i a.state.now (omega arith) l.invariant.1, omega arith)
