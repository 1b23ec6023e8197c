-- `calls::run` meets its contract. The invariant: the moves made and the run that is left are the whole run, and before the
-- stream that moved last only what its move touched can move.
use Prim.Native.Nat.{◌<◌}
use mathlib.Core.Path.{◌≡◌}
use lib.ListN.{length}
use Rattle.le.specs.Bytes.{Bytes}
use Rattle.machine.specs.Touched.{Still}
use Rattle.roundtrip.specs.In.{state_in, IsState}
use Rattle.calls.proofs.Turns
use Rattle.calls.proofs.run.Given as goal

abbrev pub invariant-loop-made : goal.invariant-loop-made
invariant-loop-made l = (length l.state ≡ length l.initial.state) × Bytes l.state × IsState l.state l.n × Turns.Left l.most l.made l.initial.state l.state × (0 < l.s → l.s < l.n) × Still l.s (state_in l.state)
