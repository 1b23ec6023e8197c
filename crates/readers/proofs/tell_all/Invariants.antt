use Prim.Native.Nat.{◌-◌, ◌≤◌}
use mathlib.Core.Path.{◌≡◌}
use lib.ListN.{length}
use Rattle.layout.specs.Record.{dec_raw, enc_raw}
use Rattle.layout.proofs.Loops.{left}
use Rattle.readers.specs.Step.{told_row}
use Rattle.readers.proofs.tell_all.Given as goal

abbrev pub invariant-loop-i : goal.invariant-loop-i
invariant-loop-i l = (l.i ≤ l.n) × (length l.state ≡ length l.initial.state) × (left (λ p. enc_raw (told_row l.s l.t l.v (dec_raw p))) l.i (l.n - l.i) l.state ≡ left (λ p. enc_raw (told_row l.s l.t l.v (dec_raw p))) 0 l.n l.initial.state)
