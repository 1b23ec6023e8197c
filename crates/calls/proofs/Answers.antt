-- The answer of a call on bytes: what is tested first, the machine's outcome, and what a refused call leaves.
use Prim.Native.Nat.{ℕ, ◌<◌}
use mathlib.Core.Path.{◌≡◌, refl, sym, ap, ap₂, ◌∙◌}
use mathlib.Core.Bool.{Bool, true, false}
use Rattle.std.specs.Prelude.{Some}
use mathlib.Core.List.{List}
use native.Mathlib.Decide.{ℕ_discrete}
use lib.Dec.{lit<}
use lib.ListN.{length}
use Rattle.meaning.specs.Events.{horizon}
use Rattle.machine.specs.State.{State}
use Rattle.machine.specs.Calls.{Call, running, collecting, hand_out, collect, call}
use Rattle.machine.proofs.Outcomes.{run_number}
use Rattle.operators.specs.Limits.{capacity}
use Rattle.le.specs.Bytes.{Bytes}
use Rattle.encoding.specs.View.{bytes_of}
use Rattle.encoding.specs.Sound.{IsValue, Sound}
use Rattle.valid.specs.Valid.{count, valid}
use Rattle.roundtrip.specs.In.{state_in}
use Rattle.roundtrip.proofs.Whole.{valid_sound, bytes_valid, bytes_length}
use Rattle.roundtrip.proofs.In.{bytes_in}
use Rattle.calls.specs.Reply.{Reply, plain, reply_of, reply_in, not_state, reply}
use Rattle.calls.proofs.Replies.{reply_of_lem, refused_reply, collect_done}

-- on a state the answer is that of the state
pub reply_state : (c : Call) (s : List ℕ) → valid s ≡ true → reply c s ≡ reply_in c s
unfolding reply
reply_state c s e = rw e

-- which is the machine's outcome
pub reply_outcome : (c : Call) (s : List ℕ) → valid s ≡ true → reply c s ≡ reply_of (length s) (call c (state_in s))
unfolding reply_in
reply_outcome c s e = reply_state c s e

-- on no state it is 15
pub reply_none : (c : Call) (s : List ℕ) → valid s ≡ false → reply c s ≡ not_state s
unfolding reply
reply_none c s e = rw e

-- on the bytes of a sound state it is that of the machine
pub reply_machine : (size : ℕ) (c : Call) (M : State) (b : List ℕ) → Sound (capacity size) M → b ≡ bytes_of size M → reply c b ≡ reply_of size (call c M)
reply_machine size c M b ok e =
    let v : valid b ≡ true = ap valid e ∙ bytes_valid size M ok in
    let l : length b ≡ size = ap length e ∙ bytes_length size M ok in
    reply_outcome c b v ∙ ap₂ (λ (n : ℕ) (N : State). reply_of n (call c N)) l (bytes_in size M b ok e)

-- a run of a state is done
pub run_done : (n : ℕ) (s : List ℕ) → (reply_in (running n) s).number ≡ 0
unfolding reply_in call
run_done n s = run_number n (state_in s)

-- a refused call: its number, all results 0, and the buffer as it came
pub refused_plain : (c : Call) (s : List ℕ) → Bytes s → ((reply c s).number ≡ 0 → ⊥) → reply c s ≡ plain (reply c s).number s
refused_plain c s b = go (valid s) refl
  where
    go : (p : Bool) → valid s ≡ p → ((reply c s).number ≡ 0 → ⊥) → reply c s ≡ plain (reply c s).number s
    go true v z = let r = reply_state c s v in r ∙ sym (refused_reply s b (count s) (record { is_valid = v; streams = refl }) c (reply c s).number (unfold reply_in in ap (λ (y : Reply). y.number) r) z)
    go false v z = rw (reply_none c s v)

-- it leaves the buffer
pub reply_refused : (c : Call) (s : List ℕ) → Bytes s → ((reply c s).number ≡ 0 → ⊥) → (reply c s).buffer ≡ s
reply_refused c s b z = ap (λ (y : Reply). y.buffer) (refused_plain c s b z)

-- what is handed out is an event's stamp and value
handed_event : (s : List ℕ) → Bytes s → (i : ℕ) → ((reply (collecting i) s).stamp < horizon) × IsValue (reply (collecting i) s).value
handed_event s b i = go (valid s) refl
  where
    handed : valid s ≡ true → Dec ((collect i (state_in s)).number ≡ 0) → ((reply (collecting i) s).stamp < horizon) × IsValue (reply (collecting i) s).value
    handed v (yes e) =
        let d = collect_done i (state_in s) (valid_sound s b v) e in
        let o : call (collecting i) (state_in s) ≡ hand_out (Some d.event) i (state_in s) = unfold call in d.outcome in
        rw (reply_state (collecting i) s v, reply_of_lem (collecting i) s (hand_out (Some d.event) i (state_in s)) o) (d.stamp, d.value)
    handed v (no z) = rw (refused_plain (collecting i) s b (rw (reply_state (collecting i) s v) (unfold reply_in call in z))) (lit< tt, lit< tt)

    go : (p : Bool) → valid s ≡ p → ((reply (collecting i) s).stamp < horizon) × IsValue (reply (collecting i) s).value
    go true v = handed v (ℕ_discrete (collect i (state_in s)).number 0)
    go false v = rw (reply_none (collecting i) s v) (lit< tt, lit< tt)

pub collect_is_stamp : (s : List ℕ) → Bytes s → (i : ℕ) → (reply (collecting i) s).stamp < horizon
collect_is_stamp s b i = (handed_event s b i).0

pub collect_is_value : (s : List ℕ) → Bytes s → (i : ℕ) → IsValue (reply (collecting i) s).value
collect_is_value s b i = (handed_event s b i).1
