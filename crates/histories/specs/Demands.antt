-- Believe: the page to read, demands 1 to 3 of any history of a lent buffer, told by what the exported calls return
-- (`load_reply`, `reply`, `plan_text`, `missing_reply`, `widen_reply`, `write` and `line`, to which each is promised equal). It is read with the meaning
-- of a plan (crates/meaning: Plan, Events, Table, Missing), with what a caller sees and demand 3 itself (crates/runs: Seen, Demand3),
-- with the registers where they are written to (crates/block, crates/registers), and without machine or layout, but for where a
-- stream's bound lies (`bound_in`).
use Rattle.std.specs.Prelude.{ℕ, ◌+◌, ◌*◌, ◌≤◌, ◌<◌, ◌≡◌, ◌↔◌, cond, ◌&&◌, List, [], ◌∷◌, ◌++◌, eqb, length, get_or, pos, Option, None, Some}
use Rattle.le.specs.Bytes.{Bytes, le, part}
use Rattle.meaning.specs.Plan.{eqn_at}
use Rattle.meaning.specs.Events.{Streams, horizon}
use Rattle.meaning.specs.Table.{Solves}
use Rattle.machine.specs.State.{Declared, declared_plan}
use Rattle.machine.specs.Calls.{Call, no_counts}
use Rattle.runs.specs.Seen.{Seen, Typed, AllTyped}
use Rattle.runs.specs.Demand3.{readings_seen, AtRest, Demand3}
use Rattle.runs.specs.Inside.{missed_as}
use Rattle.runs.specs.Claim.{AllQuiet}
use Rattle.operators.specs.Limits.{capacity}
use Rattle.render.specs.Render.{render}
use Rattle.plan.specs.Rules.{declared}
use Rattle.plan.specs.Taken.{KeepsRules}
use Rattle.calls.specs.Reply.{Reply, reply, left_by}
use Rattle.writing.specs.Text.{given, plan_text}
use Rattle.counts.specs.Missing.{missing_reply}
use Rattle.widen.specs.Widen.{widen_reply}
use Rattle.block.specs.Block.{value_in, reply_stamp_in, line}
use Rattle.registers.specs.Write.{Written, call_in, write, starts}
use Rattle.engine.specs.Load.{load_reply}

-- ## Demand 1: "a bad one gets its number from document 01, and the lent buffers stay as they came"

-- "on any other number all further results are 0 and the state stays byte for byte"
pub record LeavesAll (r : Reply) (s : List ℕ) : Type 0 where
  pub no_moves : r.moves ≡ 0
  pub no_stamp : r.stamp ≡ 0
  pub no_value : r.value ≡ pos 0
  pub same_buffer : r.buffer ≡ s

pub record Refusals : Type 0 where
  pub of_load : (text s : List ℕ) → ((load_reply text s).number ≡ 0 → ⊥) → LeavesAll (load_reply text s) s
  pub of_call : (c : Call) (s : List ℕ) → Bytes s → ((reply c s).number ≡ 0 → ⊥) → LeavesAll (reply c s) s
  -- "Write the plan of a state as text into a lent buffer and give its length": of a refusal nothing is written and the length is 0
  pub of_text : (s b : List ℕ) → ((plan_text s b).number ≡ 0 → ⊥) → ((plan_text s b).length ≡ 0) × ((plan_text s b).buffer ≡ b)
  -- "A call reads the two counts of a stream.": of a refusal both are 0. The state is lent for reading alone
  pub of_missing : (i : ℕ) (s : List ℕ) → ((missing_reply i s).number ≡ 0 → ⊥) → ((missing_reply i s).outside ≡ 0) × ((missing_reply i s).divisors ≡ 0)
  -- "a call copies one into a 20,480-byte buffer": of a refusal that buffer stays. The state is lent for reading alone
  pub of_widen : (s t : List ℕ) → ((widen_reply s t).number ≡ 0 → ⊥) → (widen_reply s t).buffer ≡ t
  -- a register write may change its block; how is in crates/registers/specs/Laws.antt
  pub of_write : (s b : List ℕ) (at x : ℕ) → Bytes s → ((write s b at x).number ≡ 0 → ⊥) → (write s b at x).state ≡ s
  pub of_line : (b : List ℕ) → ((line b).number ≡ 0 → ⊥) → (line b).up ≡ 0

-- ## Demand 2: "A plan that keeps the written rules is taken, and every other is refused."

-- a text is taken, by a buffer of a length that states have, exactly if it is the text of a plan that keeps the rules
pub record Taking : Type 0 where
  pub exactly : (text s : List ℕ) → 0 < capacity (length s)
      → ((load_reply text s).number ≡ 0) ↔ ((ds : List Declared) × (render ds ≡ text) × KeepsRules (capacity (length s)) ds)

-- That every stream is what the definition gives is below, of what is handed out; of what came into a stream, is held and kept
-- it is in specs/Inside.antt, with the machine.

-- ## A history

-- a load of a plan text, one of the other calls, the plan's text written into a buffer, a stream's counts read, a copy into a longer
-- buffer, with which it then goes on, the write of a byte at a place of a block, or a copy put back: the bytes that the state had after
-- so many acts. Block and buffers may hold anything before.
pub data Act : Type 0 where
  load : List ℕ → Act
  make : Call → Act
  ask_text : (b : List ℕ) → Act
  ask_missing : (i : ℕ) → Act
  widen : (t : List ℕ) → Act
  write_to : (b : List ℕ) (at x : ℕ) → Act
  put_back : ℕ → Act

-- the list of calls since the last done load: its text, the streams that it declares, and what was seen of each call
pub record Course : Type 0 where
  pub text : List ℕ
  pub plan : List Declared
  pub seen : List Seen

-- where a history stands: the buffer, and the list if a load was done
pub record Point : Type 0 where
  pub bytes : List ℕ
  pub course : Option Course

abbrev pub seen_in : Call → Reply → Seen
seen_in c r = record { made = c; number = r.number; moves = r.moves; stamp = r.stamp; value = r.value }

-- "A load that is done starts a new list; one that is refused leaves the list as it was."
abbrev pub course_of_load : List ℕ → Reply → Option Course → Option Course
course_of_load text r o = cond (eqb r.number 0) (Some (record { text = text; plan = declared (capacity (length r.buffer)) text; seen = [] })) o

abbrev pub course_of_call : Call → Reply → Option Course → Option Course
course_of_call c r None = None
course_of_call c r (Some x) = Some (record { text = x.text; plan = x.plan; seen = x.seen ++ seen_in c r ∷ [] })

-- what a command's write shows of its call: the number, and of a done collect what then lies in the block, w being what the write
-- gives and r the call's answer, of which the count of moves isn't shown
abbrev pub shown_in : ℕ → Reply → Written → Reply
shown_in x r w =
    let done = eqb x 2 && eqb w.number 0 in
    record { number = w.number; moves = r.moves; stamp = cond done (reply_stamp_in w.block) 0; value = cond done (value_in w.block) (pos 0); buffer = w.state }

-- "A call added by a later change counts as those of these calls that it amounts to": a write that starts a command as its call, any
-- other as none
abbrev pub course_of_write : List ℕ → ℕ → ℕ → Reply → Written → Option Course → Option Course
course_of_write b at x r w o = cond (starts b at x) (course_of_call (call_in b x) (shown_in x r w) o) o

-- one act at the point p; `past` are the points before it, the first one first.
-- A longer buffer "goes on from the same point", with the list so far; so does the shorter one, which nothing is done to.
-- "a state put back has had the calls made up to its copy, and what was accepted or handed out after the copy doesn't count
-- for it"
unfoldable pub acted : Act → List Point → Point → Point
acted (load text) past p = let r = load_reply text p.bytes in record { bytes = r.buffer; course = course_of_load text r p.course }
acted (make c) past p = let r = reply c p.bytes in record { bytes = r.buffer; course = course_of_call c r p.course }
acted (ask_text b) past p = p  -- the state is lent for reading alone
acted (ask_missing i) past p = p
acted (widen t) past p = let r = widen_reply p.bytes t in cond (eqb r.number 0) (record { bytes = r.buffer; course = p.course }) p
acted (write_to b at x) past p = let w = write p.bytes b at x in record { bytes = w.state; course = course_of_write b at x (reply (call_in b x) p.bytes) w p.course }
acted (put_back k) past p = get_or past k p

unfoldable pub point_from : List Act → List Point → Point → Point
point_from [] past p = p
point_from (a ∷ acts) past p = point_from acts (past ++ p ∷ []) (acted a past p)

-- the point after a history of a buffer that held any bytes before it
abbrev pub point_after : List Act → List ℕ → Point
point_after acts s = point_from acts [] (record { bytes = s; course = None })

-- the arguments have the types that the calls take
abbrev pub TypedAct : Act → Type 0
TypedAct (load text) = Unit {0}
TypedAct (make c) = Typed c
TypedAct (ask_text b) = Unit {0}
TypedAct (ask_missing i) = Unit {0}
TypedAct (widen t) = Unit {0}
TypedAct (write_to b at x) = Bytes b
TypedAct (put_back k) = Unit {0}

abbrev pub AllTypedActs : List Act → Type 0
AllTypedActs [] = Unit {0}
AllTypedActs (a ∷ acts) = TypedAct a × AllTypedActs acts

-- ## Demands 2 and 3 of the list x and the bytes b that it left

-- some runs and collections more end at rest, so that what holds at rest is not empty
pub record RestAhead (ds : List Declared) (b : List ℕ) : Type 0 where
  pub more : List Call
  pub quiet : AllQuiet more
  pub typed : AllTyped more
  pub rest : AtRest ds (λ c. (reply c (left_by b more)).number)

-- the bound of stream s, as it lies in the bytes: 16 to 23 of its record
abbrev pub bound_in : List ℕ → ℕ → ℕ
bound_in b s = le (part b (s * 256 + 16) 8)

pub record Demands (x : Course) (b : List ℕ) : Type 1 where
  -- the plan keeps the written rules
  pub rules : KeepsRules (capacity (length b)) x.plan
  -- "The definition is fed the plan and the accepted readings": it has a solution, and "The cycle rule leaves one answer."
  pub solution : Streams
  pub solves : Solves (declared_plan x.plan) (readings_seen x.seen) solution horizon
  pub only : (S : Streams) → Solves (declared_plan x.plan) (readings_seen x.seen) S horizon → (s t : ℕ) → t < horizon → S s t ≡ solution s t
  -- demand 3 of that solution
  pub demand3 : Demand3 x.plan x.seen (λ c. (reply c b).number) solution
  pub can_rest : RestAhead x.plan b
  -- the two counts of each stream "equal the number of such stamps below the stream's bound, up to that limit, whatever the order
  -- of moves", of that solution; "Reading a stream that isn't there gives 11."
  pub missed : (s : ℕ) → s < length x.plan → missing_reply s b ≡ missed_as (eqn_at (declared_plan x.plan) s) (readings_seen x.seen) solution s (bound_in b s)
  pub no_stream : (s : ℕ) → length x.plan ≤ s → missing_reply s b ≡ no_counts 11
  -- "any text that load takes comes back byte for byte. Bytes after the text stay."
  pub text_back : (lent : List ℕ) → plan_text b lent ≡ given x.text lent
  -- "No state left by load and the calls is refused 15."
  pub never15 : (c : Call) → (reply c b).number ≡ 15 → ⊥

abbrev pub DemandsAt : Option Course → List ℕ → Type 1
DemandsAt None b = Unit {1}
DemandsAt (Some x) b = Demands x b
