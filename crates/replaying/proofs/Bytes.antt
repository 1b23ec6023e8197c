-- What a call leaves is bytes, or no state; what a run that came to rest and a refused collect leave.
use Prim.Native.Nat.{ℕ, zero, suc, ◌<◌, ◌≤◌}
use mathlib.Core.Path.{◌≡◌, refl, ap}
use mathlib.Core.Logic.{◌⊎◌, inl, inr}
use mathlib.Core.Bool.{Bool, true, false}
use mathlib.Core.List.{List}
use native.Mathlib.Omega.{arith}
use lib.Dec.{ltb}
use lib.ListN.{length}
use borrow.Author.Tests.{le-ltb, ltb-false}
use Rattle.le.specs.Bytes.{Bytes}
use Rattle.machine.specs.State.{State}
use Rattle.machine.specs.Step.{move}
use Rattle.machine.specs.Calls.{Call, running, collecting, lowest, run, call}
use Rattle.machine.proofs.Outcomes.{run_more, run_ends}
use Rattle.encoding.specs.View.{bytes_of}
use Rattle.valid.specs.Valid.{valid}
use Rattle.roundtrip.specs.In.{state_in}
use Rattle.roundtrip.proofs.Whole.{valid_sound}
use Rattle.preserve.proofs.Calls.{call_sound}
use Rattle.calls.specs.Reply.{Reply, reply}
use Rattle.calls.proofs.Answers.{reply_outcome, reply_none, reply_machine, reply_refused}
use Rattle.calls.proofs.Bytes.{state_bytes}

-- ## Any buffer after a call

-- bytes, or no state
abbrev pub Fine : List ℕ → Type 0
Fine s = Bytes s ⊎ (valid s ≡ false)

pub reply_fine : (c : Call) (s : List ℕ) → Fine (reply c s).buffer
reply_fine c s = go (valid s) refl
  where
    go : (v : Bool) → valid s ≡ v → Fine (reply c s).buffer
    go true e = rw (reply_outcome c s e) (inl (state_bytes (length s) (call c (state_in s)).state))
    go false e = rw (reply_none c s e) (inr e)

-- ## A run that made fewer moves than it was asked for has come to rest

-- no equation can move
run_stuck : (n : ℕ) (M : State) → (run n M).moves < n → length (run n M).state ≤ lowest (run n M).state
run_stuck zero M h = absurd (omega arith)
run_stuck (suc n) M h = go (ltb (lowest M) (length M)) refl h (run_stuck n (move (lowest M) M))
  where
    go : (b : Bool) → ltb (lowest M) (length M) ≡ b → (run (suc n) M).moves < suc n → ((run n (move (lowest M) M)).moves < n → length (run n (move (lowest M) M)).state ≤ lowest (run n (move (lowest M) M)).state)
        → length (run (suc n) M).state ≤ lowest (run (suc n) M).state
    go true e = rw (run_more n M e) (λ h rec. rec (omega arith))
    go false e = rw (run_ends n M e) (λ h rec. ltb-false (lowest M) (length M) e)

-- another run makes no move
stuck_none : (m : ℕ) (M : State) → length M ≤ lowest M → (call (running m) M).moves ≡ 0
unfolding call
stuck_none zero M h = unfold run in refl
stuck_none (suc m) M h = rw (run_ends m M (le-ltb (lowest M) (length M) h)) refl

pub run_rests : (s : List ℕ) → Fine s → (n m : ℕ) → (reply (running n) s).moves < n → (reply (running m) (reply (running n) s).buffer).moves ≡ 0
run_rests s f n m = go (valid s) refl f
  where
    none : valid s ≡ false → (reply (running m) (reply (running n) s).buffer).moves ≡ 0
    none e = rw (reply_none (running n) s e, reply_none (running m) s e) refl

    go : (v : Bool) → valid s ≡ v → Fine s → (reply (running n) s).moves < n → (reply (running m) (reply (running n) s).buffer).moves ≡ 0
    go true e (inl b) =
        let fine = call_sound (running n) (state_in s) tt (valid_sound s b e) in
        rw (reply_outcome (running n) s e, reply_machine (length s) (running m) (call (running n) (state_in s)).state (bytes_of (length s) (call (running n) (state_in s)).state) fine refl)
        (λ h. stuck_none m (call (running n) (state_in s)).state (unfold call in run_stuck n (state_in s) (unfold call in h)))
    go true e (inr q) = λ h. none q
    go false e g = λ h. none e

-- ## A collect that hands out nothing

pub collect_same : (s : List ℕ) → Fine s → (i : ℕ) → ((reply (collecting i) s).number ≡ 0 → ⊥) → (reply (collecting i) s).buffer ≡ s
collect_same s (inl b) i n = reply_refused (collecting i) s b n
collect_same s (inr q) i n = ap (λ (r : Reply). r.buffer) (reply_none (collecting i) s q)
