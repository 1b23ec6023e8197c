-- Believe: what a load answers, and the buffer that it leaves.
use Rattle.std.specs.Prelude.{ℕ, cond, List, eqb, ltb, length}
use Rattle.machine.specs.State.{loaded}
use Rattle.encoding.specs.View.{bytes_of}
use Rattle.operators.specs.Limits.{capacity}
use Rattle.plan.specs.Rules.{number, declared}
use Rattle.calls.specs.Reply.{Reply, plain, not_state}

-- the fresh state of the streams that the text declares; on any other number the buffer stays
abbrev pub load_of : ℕ → List ℕ → List ℕ → Reply
load_of n text s = plain n (cond (eqb n 0) (bytes_of (length s) (loaded (declared (capacity (length s)) text))) s)

-- "15 for the state's length only": a length that no state has
unfoldable pub load_reply : List ℕ → List ℕ → Reply
load_reply text s = cond (ltb 0 (capacity (length s))) (load_of (number (capacity (length s)) text) text s) (not_state s)
