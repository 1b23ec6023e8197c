-- A refusal leaves everything, of every call: all results 0, and the buffer as it came.
use Prim.Native.Nat.{ℕ}
use mathlib.Core.Path.{◌≡◌, ap}
use mathlib.Core.List.{List}
use Rattle.calls.specs.Reply.{Reply, plain, reply}
use Rattle.histories.specs.Demands.{LeavesAll, Refusals}
use Rattle.calls.proofs.Answers.{refused_plain}
use Rattle.writing.proofs.Cases.{text_refused}
use Rattle.machine.specs.Calls.{Missing}
use Rattle.counts.proofs.Cases.{missing_refused}
use Rattle.widen.specs.Widen.{WidenReply}
use Rattle.widen.proofs.Cases.{widen_refused}
use Rattle.block.proofs.Flags.{line_refused}
use Rattle.registers.proofs.Refusals.{laws}
use Rattle.engine.proofs.Loads.{load_refused, load_results}

-- a number alone has results 0
plain_leaves : (r : Reply) (k : ℕ) (s : List ℕ) → r ≡ plain k s → LeavesAll r s
plain_leaves r k s e = record { no_moves = ap (λ (y : Reply). y.moves) e; no_stamp = ap (λ (y : Reply). y.stamp) e; no_value = ap (λ (y : Reply). y.value) e; same_buffer = ap (λ (y : Reply). y.buffer) e }

-- "on any other number all further results are 0 and the state stays byte for byte"
pub refusals : Refusals
refusals = record {
  of_load = λ text s z. let r = load_results text s in record { no_moves = r.0; no_stamp = r.1; no_value = r.2; same_buffer = load_refused text s z };
  of_call = λ c s b z. plain_leaves (reply c s) (reply c s).number s (refused_plain c s b z);
  of_text = text_refused;
  of_missing = λ i s z. let e = missing_refused i s z in (ap (λ (m : Missing). m.outside) e, ap (λ (m : Missing). m.divisors) e);
  of_widen = λ s t z. ap (λ (r : WidenReply). r.buffer) (widen_refused s t z);
  of_write = λ s b at x h. (laws.refusal s b at x h).same_state;
  of_line = line_refused;
}
