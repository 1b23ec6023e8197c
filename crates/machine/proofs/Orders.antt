-- Which refusal comes first, and what a call that is done gives: one call in each row, computed by the checker.
use mathlib.Core.Path.{◌≡◌, refl}
use mathlib.Core.Bool.{Bool, true, false}
use mathlib.Core.List.{List, [], ◌∷◌, map}
use Prim.Native.Nat.{ℕ, ◌+◌}
use lib.IntN.{ℤ, pos}
use Rattle.meaning.specs.Plan.{time, neg, Eqn, input, one}
use Rattle.meaning.specs.Events.{Event, ev}
use Rattle.meaning.specs.Table.{one_at}
use Rattle.machine.specs.State.{Cell, State, no_kept, no_passed}
use Rattle.machine.specs.Calls.{Call, reading, progress, moving, running, collecting, call}

-- ---- states, written out

-- events at these stamps, the value of each one more than its stamp
abbrev pub at : List ℕ → List Event
at ts = map {A = ℕ} (λ t. ev t (pos (t + 1))) ts

abbrev pub cell : Eqn → Bool → (bound next : ℕ) → List ℕ → Cell
cell e o y n ts = record { eqn = e; out = o; bound = y; held = at ts; next = n; kept = no_kept; passed = no_passed }

abbrev pub fifteen : List ℕ
fifteen = 1 ∷ 2 ∷ 3 ∷ 4 ∷ 5 ∷ 6 ∷ 7 ∷ 8 ∷ 9 ∷ 10 ∷ 11 ∷ 12 ∷ 13 ∷ 14 ∷ 15 ∷ []

abbrev pub sixteen : List ℕ
sixteen = 0 ∷ fifteen

-- an input with the bound 20, and an equation that has read all of it
abbrev pub full : State
full = cell input false 20 0 sixteen ∷ cell (one time 0) true 20 0 sixteen ∷ []

abbrev pub nearly : State
nearly = cell input false 20 0 fifteen ∷ cell (one time 0) true 0 0 [] ∷ []

-- the same input with the bound at the horizon
abbrev pub over : State
over = cell input false 4294967296 0 sixteen ∷ cell (one time 0) false 0 0 [] ∷ []

-- three events of an input, and a chain of two equations that have read none of them
abbrev pub chain : State
chain = cell input false 4 0 (1 ∷ 2 ∷ 3 ∷ []) ∷ cell (one time 0) true 0 0 [] ∷ cell (one neg 1) true 0 0 [] ∷ []

-- an output: its event at 2 is collected, a reader that is behind still waits for it
abbrev pub waiting : State
waiting = cell (one time 2) true 8 3 (2 ∷ 5 ∷ 7 ∷ []) ∷ cell (one neg 0) false 0 0 [] ∷ cell input false 8 0 [] ∷ []

abbrev pub collected : State
collected = cell (one time 2) true 8 6 (2 ∷ 5 ∷ []) ∷ cell (one neg 0) true 0 0 [] ∷ cell input false 8 0 [] ∷ []

-- ---- the calls that alter nothing, each with its number

pub record Idle : Type 0 where
  pub state : State
  pub made : Call
  pub number : ℕ

abbrev pub idle : State → Call → ℕ → Idle
idle M c n = record { state = M; made = c; number = n }

unfoldable pub idles : List Idle
idles =
    -- 7 before 8 before 9: a stream that is no input, or is not there; a stamp below the bound; 16 held
    idle full (reading 1 5 (pos 1)) 7
    ∷ idle full (reading 1 20 (pos 1)) 7
    ∷ idle full (reading 2 20 (pos 1)) 7
    ∷ idle full (reading 0 19 (pos 1)) 8
    ∷ idle full (reading 0 20 (pos 1)) 9
    ∷ idle over (reading 0 4294967295 (pos 1)) 8
    -- 7 before 10 before 8
    ∷ idle full (progress 1 4294967297) 7
    ∷ idle full (progress 2 4294967297) 7
    ∷ idle full (progress 1 5) 7
    ∷ idle full (progress 0 4294967297) 10
    ∷ idle over (progress 0 4294967297) 10
    ∷ idle full (progress 0 19) 8
    ∷ idle over (progress 0 4294967295) 8
    -- an equal bound is done and alters nothing
    ∷ idle full (progress 0 20) 0
    ∷ idle over (progress 0 4294967296) 0
    -- an input, or no such stream; then an equation that cannot move
    ∷ idle chain (moving 0) 11
    ∷ idle chain (moving 3) 11
    ∷ idle chain (moving 2) 12
    ∷ idle full (moving 1) 12
    -- no moves asked for, and at rest
    ∷ idle chain (running 0) 0
    ∷ idle full (running 5) 0
    -- out=0, or no such stream; then nothing held, and nothing but what is collected
    ∷ idle waiting (collecting 1) 13
    ∷ idle waiting (collecting 3) 13
    ∷ idle chain (collecting 1) 14
    ∷ idle collected (collecting 0) 14
    ∷ []

pub idle_numbers : map (λ r. (call r.made r.state).number) idles ≡ map (λ r. r.number) idles
unfolding idles call one_at
idle_numbers = refl

pub idle_states : map (λ r. (call r.made r.state).state) idles ≡ map (λ r. r.state) idles
unfolding idles call one_at
idle_states = refl

-- ---- the calls that are done, each with what it gives

pub record Given : Type 0 where
  pub number : ℕ
  pub moves : ℕ
  pub stamp : ℕ
  pub value : ℤ
  -- of all streams, after the call
  pub bounds : List ℕ

abbrev pub moved : ℕ → List ℕ → Given
moved n ys = record { number = 0; moves = n; stamp = 0; value = pos 0; bounds = ys }

abbrev pub handed : ℕ → ℤ → List ℕ → Given
handed t v ys = record { number = 0; moves = 0; stamp = t; value = v; bounds = ys }

pub record Done : Type 0 where
  pub state : State
  pub made : Call
  pub given : Given

abbrev pub done : State → Call → Given → Done
done M c g = record { state = M; made = c; given = g }

unfoldable pub dones : List Done
dones =
    -- the 16th held reading; the last stamp
    done nearly (reading 0 20 (pos 1)) (moved 0 (21 ∷ 0 ∷ []))
    ∷ done nearly (reading 0 4294967295 (pos 1)) (moved 0 (4294967296 ∷ 0 ∷ []))
    -- progress to the horizon, also where 16 are held
    ∷ done full (progress 0 4294967296) (moved 0 (4294967296 ∷ 20 ∷ []))
    -- one move: the first event
    ∷ done chain (moving 1) (moved 0 (4 ∷ 2 ∷ 0 ∷ []))
    -- a run makes just as many moves as are asked for, the lowest equation first, and fewer only at rest
    ∷ done chain (running 1) (moved 1 (4 ∷ 2 ∷ 0 ∷ []))
    ∷ done chain (running 2) (moved 2 (4 ∷ 3 ∷ 0 ∷ []))
    ∷ done chain (running 4) (moved 4 (4 ∷ 4 ∷ 2 ∷ []))
    ∷ done chain (running 6) (moved 6 (4 ∷ 4 ∷ 4 ∷ []))
    ∷ done chain (running 7) (moved 6 (4 ∷ 4 ∷ 4 ∷ []))
    ∷ done chain (running 4294967295) (moved 6 (4 ∷ 4 ∷ 4 ∷ []))
    -- the oldest that waits
    ∷ done full (collecting 1) (handed 0 (pos 1) (20 ∷ 20 ∷ []))
    ∷ done waiting (collecting 0) (handed 5 (pos 6) (8 ∷ 0 ∷ 8 ∷ []))
    ∷ []

abbrev pub gives : Done → Given
gives r =
    let o = call r.made r.state in
    record { number = o.number; moves = o.moves; stamp = o.stamp; value = o.value; bounds = map (λ c. c.bound) o.state }

pub done_given : map gives dones ≡ map (λ r. r.given) dones
unfolding dones call one_at
done_given = refl
