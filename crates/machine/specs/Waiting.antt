-- Believe: who reads a stream and who waits for an event of it; and how the least reader bound tells whether somebody does.
use Rattle.std.specs.Prelude.{ℕ, ◌≤◌, ◌<◌, ◌≡◌, ◌⊎◌, List, [], ◌∷◌, length}
use Rattle.meaning.specs.Arguments.{Argument, arguments}
use Rattle.meaning.specs.Events.{horizon}
use Rattle.machine.specs.State.{State, cell_at}
use Rattle.machine.specs.Step.{least_reader}

-- s is the stream of one of the arguments, delayed or not
abbrev pub Among : ℕ → List Argument → Type 0
Among s [] = ⊥
Among s (x ∷ xs) = (x.stream ≡ s) ⊎ Among s xs

-- stream r is a reader of stream s: it has s among its arguments
abbrev pub Reader : State → (s r : ℕ) → Type 0
Reader M s r = (r < length M) × Among s (arguments (cell_at M r).eqn)

-- "A stream holds an event until every reader's bound is above its stamp": as long as stream r's bound is not above t, it
-- waits for an event at t
abbrev pub Waits : State → (r t : ℕ) → Type 0
Waits M r t = (cell_at M r).bound ≤ t

abbrev pub SomeReaderWaits : State → (s t : ℕ) → Type 0
SomeReaderWaits M s t = (r : ℕ) × Reader M s r × Waits M r t

-- "some reader waits for an event exactly if its stamp is at or above that number": of this number w, for every stamp
pub record TellsWaiting (M : State) (s w : ℕ) : Type 0 where
  pub enough : (t : ℕ) → t < horizon → SomeReaderWaits M s t → w ≤ t
  pub needed : (t : ℕ) → t < horizon → w ≤ t → SomeReaderWaits M s t

-- the least reader bound does so in every state, of a run or not, and no other number up to the horizon does
pub record SpaceTest : Type 0 where
  pub holds : (M : State) (s : ℕ) → TellsWaiting M s (least_reader s M)
  pub once : (M : State) (s w : ℕ) → w ≤ horizon → TellsWaiting M s w → w ≡ least_reader s M

-- "a stream's least reader bound", "the horizon if no stream reads it": the same number by what it is among the bounds, in every
-- state whose bounds are not above the horizon
pub record LeastBound (M : State) (s w : ℕ) : Type 0 where
  pub least : (r : ℕ) → Reader M s r → w ≤ (cell_at M r).bound
  pub one : ((r : ℕ) × Reader M s r × ((cell_at M r).bound ≡ w)) ⊎ (((r : ℕ) → Reader M s r → ⊥) × (w ≡ horizon))
