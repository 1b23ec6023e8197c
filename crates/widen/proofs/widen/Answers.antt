-- `widen::widen` meets its contract.
use Prim.Native.Nat.{ℕ}
use mathlib.Core.Path.{◌≡◌, sym, ap, ◌∙◌}
use lib.ListN.{length}
use Rattle.operators.specs.Limits.{state_length, long_length}
use Rattle.widen.specs.Spread.{spread}
use Rattle.widen.specs.Widen.{WidenReply, widen_reply}
use Rattle.widen.proofs.Spread.{spread_bytes}
use native.Mathlib.Omega.{arith}
use Rattle.roundtrip.proofs.In as state
use Rattle.widen.proofs.Cases as law
use Rattle.widen.proofs.widen.Goals as goal
use Rattle.widen.proofs.widen.Goals.{then-from-ne-STATE-via-then-from-ne-STATE, then-from-ne-STATE-via-else-from-ne-STATE+then-to-ne-LONG}

pub returns-then-from-ne-STATE : goal.returns-then-from-ne-STATE
returns-then-from-ne-STATE c =
    let a = c.args in
    let e : widen_reply a.from.now a.to.now ≡ record { number = 15; buffer = a.to.now } =
    elim c.then-from-ne-STATE.branch [
      | then-from-ne-STATE-via-then-from-ne-STATE w ↦ law.another_source a.from.now a.to.now w.if-from-ne-STATE.true
      | then-from-ne-STATE-via-else-from-ne-STATE+then-to-ne-LONG w ↦ law.another_target a.from.now a.to.now (omega arith) w.if-to-ne-LONG.true
    ] in
    record { number = ap (λ (r : WidenReply). r.number) (sym e); buffer = ap (λ (r : WidenReply). r.buffer) (sym e) }

pub returns-in-Some : goal.returns-in-Some
returns-in-Some c = let a = c.args in let s = a.from.now in let v = state.tested_state s _ (sym c.in-Some.is ∙ c.streams.ensures) in let k : length s ≡ state_length = omega arith in let l : length a.to.now ≡ long_length = omega arith in let e = law.done s a.to.now k l v.is_valid in record { number = ap (λ (r : WidenReply). r.number) (sym e); buffer = c.copy.ensures ∙ ap (λ (n : ℕ). spread n s) l ∙ spread_bytes s (λ j. omega (arith, c.shared_slice_known-1.given j)) v.is_valid long_length (omega arith) ∙ ap (λ (r : WidenReply). r.buffer) (sym e) }

pub returns-in-None : goal.returns-in-None
returns-in-None c = let a = c.args in let e = law.no_state a.from.now a.to.now (omega arith) (omega arith) (state.tested_none a.from.now (sym c.in-None.is ∙ c.streams.ensures)) in record { number = ap (λ (r : WidenReply). r.number) (sym e); buffer = ap (λ (r : WidenReply). r.buffer) (sym e) }
