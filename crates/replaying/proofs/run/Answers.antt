-- `replaying::run` meets its contract.
use Prim.Native.Nat.{◌<◌, ◌≤◌}
use mathlib.Core.Bool.{false}
use mathlib.Core.Path.{sym, ap, ◌∙◌}
use Rattle.machine.specs.Calls.{running}
use Rattle.calls.specs.Reply.{reply}
use Rattle.replaying.specs.Replay.{all_moves, to_output}
use Rattle.replaying.proofs.Steps.{ran_rest, ran_moved}
use native.Mathlib.Omega.{arith}
use Rattle.replaying.proofs.run.Goals as goal

pub returns-then-moves-lt4294967295 : goal.returns-then-moves-lt4294967295
returns-then-moves-lt4294967295 c = let e = c.tessla_run.ensures.moves in let h : (reply (running all_moves) c.args.state.now).moves < all_moves = omega arith in record { place = c.to_output.ensures ∙ ap (to_output c.args.n 0 false) c.tessla_run.ensures.buffer ∙ ap (λ t. t.place) (sym (ran_rest c.args.n (reply (running all_moves) c.args.state.now) h)); state = c.tessla_run.ensures.buffer }

pub returns : goal.returns
returns c = let e = c.tessla_run.ensures.moves in let h : all_moves ≤ (reply (running all_moves) c.args.state.now).moves = omega arith in record { place = ap (λ t. t.place) (sym (ran_moved c.args.n (reply (running all_moves) c.args.state.now) h)); state = c.tessla_run.ensures.buffer }
