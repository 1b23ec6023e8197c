-- `writing::put_streams` meets its contract.
use Prim.Native.Nat.{ℕ}
use mathlib.Core.Path.{refl, sym, ap, ◌∙◌}
use lib.ListN.{length}
use lib.Seq.{sets}
use Rattle.decimal.proofs.Puts.{put_length}
use Rattle.writing.proofs.Turns.{rest_length, rest_none, rest_put}
use native.Mathlib.Omega.{arith}
use Rattle.writing.proofs.put_streams.Goals as goal

pub loop-i-init : goal.loop-i-init
loop-i-init c = (refl, refl, refl)

pub row_at-requires : goal.row_at-requires
row_at-requires c = omega arith

pub put_stream-p-requires : goal.put_stream-p-requires
put_stream-p-requires c = (c.row_at.ensures.1, omega (arith, c.requires.1, c.loop-i.invariant.0, c.loop-i.invariant.1, rest_length c.args.n c.args.state.now c.loop-i.i _ (omega arith) c.row_at.ensures.0))

pub loop-i-preserved : goal.loop-i-preserved
loop-i-preserved c = (omega (arith, c.loop-i.invariant.0, c.put_stream-p.ensures.past, rest_length c.args.n c.args.state.now c.loop-i.i _ (omega arith) c.row_at.ensures.0), put_length c.put_stream-p.ensures ∙ c.loop-i.invariant.1, rest_put c.args.n c.args.state.now c.loop-i.i c.loop-i.p _ _ c.loop-i.out _ _ (omega arith) c.row_at.ensures.0 c.put_stream-p.ensures c.loop-i.invariant.2)

pub returns : goal.returns
returns c = let e = rest_none c.args.n c.args.state.now c.loop-i.i (omega arith) in record { bytes = ap (sets c.loop-i.out c.loop-i.p) (sym e) ∙ c.loop-i.invariant.2; past = omega (arith, c.loop-i.invariant.0, ap (length {A = ℕ}) e) }
