-- `missing::put_all` meets its contract.
use mathlib.Core.Path.{refl, sym, ◌∙◌}
use lib.Seq.{length-take-le}
use Rattle.decimal.proofs.Puts.{put_length}
use Rattle.missing.proofs.Lines.{left_more, left_none, left_over, counts_most}
use native.Mathlib.Omega.{arith}
use Rattle.missing.proofs.put_all.Goals as goal

pub loop-stream-init : goal.loop-stream-init
loop-stream-init c = (λ r m p. p, omega arith, refl)

pub shape_of-out-then-answer-ne0 : goal.shape_of-out-then-answer-ne0
shape_of-out-then-answer-ne0 c = c.loop-stream.invariant.2

pub returns-then-answer-ne0 : goal.returns-then-answer-ne0
returns-then-answer-ne0 c = record { listing = left_none c.args.out.now c.args.state.now c.loop-stream.out c.loop-stream.end c.loop-stream.stream c.loop-stream.invariant.0 (omega arith) (λ z. c.if-answer-ne0.true (c.ask-answer.ensures.number ∙ z)); inside = (omega arith, sym (length-take-le c.loop-stream.end c.loop-stream.out (omega arith))) }

pub put_counts-end-requires : goal.put_counts-end-requires
put_counts-end-requires c = omega arith

pub loop-stream-preserved : goal.loop-stream-preserved
loop-stream-preserved c = (left_more c.args.out.now c.args.state.now c.loop-stream.out c.loop-stream.end c.loop-stream.stream c.loop-stream.invariant.0 (omega arith) (sym c.ask-answer.ensures.number ∙ c.if-answer-ne0.false) _ _ (rw (c.ask-answer.ensures.outside, c.ask-answer.ensures.zero) at c.put_counts-end.ensures), omega (arith, c.put_counts-end.ensures.past, counts_most c.loop-stream.stream c.ask-answer.result.outside c.ask-answer.result.zero), put_length c.put_counts-end.ensures ∙ c.loop-stream.invariant.2)

pub shape_of-out : goal.shape_of-out
shape_of-out c = c.loop-stream.invariant.2

pub returns : goal.returns
returns c = record { listing = left_over c.args.out.now c.args.state.now c.loop-stream.out c.loop-stream.end c.loop-stream.stream c.loop-stream.invariant.0 (omega arith); inside = (omega arith, sym (length-take-le c.loop-stream.end c.loop-stream.out (omega arith))) }
