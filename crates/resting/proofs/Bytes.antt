-- The same of a state in bytes: what a run or a collection leaves of it.
use Prim.Native.Nat.{ℕ, ◌+◌, ◌<◌, ◌≤◌}
use mathlib.Core.Path.{◌≡◌, refl}
use mathlib.Core.Bool.{Bool, true, false}
use mathlib.Core.List.{List}
use native.Mathlib.Omega.{arith}
use lib.ListN.{length}
use Rattle.operators.specs.Limits.{capacity}
use Rattle.le.specs.Bytes.{Bytes}
use Rattle.machine.specs.State.{State}
use Rattle.machine.specs.Calls.{running, collecting, call, run, collect}
use Rattle.encoding.specs.View.{bytes_of}
use Rattle.encoding.specs.Sound.{Sound}
use Rattle.valid.specs.Valid.{valid}
use Rattle.roundtrip.specs.In.{state_in}
use Rattle.roundtrip.proofs.Whole.{valid_sound, bytes_state, bytes_count, bytes_valid}
use Rattle.preserve.proofs.Calls.{call_sound}
use Rattle.calls.specs.Reply.{reply}
use Rattle.calls.proofs.Answers.{reply_outcome, reply_none}
use Rattle.resting.specs.Left.{lack, left}
use Rattle.resting.proofs.Lack.{run_lack, collect_lack}

-- a sound state's bytes give the state
sound_left : (size : ℕ) (M : State) → Sound (capacity size) M → left (bytes_of size M) ≡ lack M
unfolding left
sound_left size M ok = rw (bytes_valid size M ok, bytes_count size M ok, bytes_state size M ok)

module _ (s : List ℕ) where
  valid_left : valid s ≡ true → left s ≡ lack (state_in s)
  unfolding left
  valid_left e = rw e

  call_run : (n : ℕ) → call (running n) (state_in s) ≡ run n (state_in s)
  unfolding call
  call_run n = refl

  call_collect : (i : ℕ) → call (collecting i) (state_in s) ≡ collect i (state_in s)
  unfolding call
  call_collect i = refl

module _ (s : List ℕ) (b : Bytes s) where
  -- after a run: less by each move
  pub run_left : (n : ℕ) → left (reply (running n) s).buffer + (reply (running n) s).moves ≤ left s
  run_left n = go (valid s) refl
    where
      go : (v : Bool) → valid s ≡ v → left (reply (running n) s).buffer + (reply (running n) s).moves ≤ left s
      go true e =
          let ok = valid_sound s b e in
          let fine = call_sound (running n) (state_in s) tt ok in
          rw (reply_outcome (running n) s e, sound_left (length s) (call (running n) (state_in s)).state fine, valid_left s e, call_run s n) (run_lack n (state_in s) ok)
      go false e = rw (reply_none (running n) s e) (omega arith)

  -- after an event was handed out
  pub collect_left : (i : ℕ) → (reply (collecting i) s).number ≡ 0 → left (reply (collecting i) s).buffer < left s
  collect_left i = go (valid s) refl
    where
      go : (v : Bool) → valid s ≡ v → (reply (collecting i) s).number ≡ 0 → left (reply (collecting i) s).buffer < left s
      go true e =
          let ok = valid_sound s b e in
          let fine = call_sound (collecting i) (state_in s) tt ok in
          rw (reply_outcome (collecting i) s e, sound_left (length s) (call (collecting i) (state_in s)).state fine, valid_left s e, call_collect s i) (collect_lack i (state_in s) ok)
      go false e = rw (reply_none (collecting i) s e) (λ z. absurd (omega arith))
