-- How: the order in which the program makes its steps.
use Rattle.std.specs.Prelude.{ℕ, ◌≡◌, Bool, true, List, [], ◌∷◌, ◌++◌, Option, Some, None}
use Rattle.calls.specs.Reply.{reply}
use Rattle.trace.specs.declared.Record.{Record}
use Rattle.replaying.specs.declared.Place.{Place}
use Rattle.replaying.specs.declared.Place.TheVariants.{Rest}
use Rattle.replaying.specs.Replay.{call_of, Prints, start}
use Rattle.replaying.specs.Session.{Replays}
use Rattle.replaying.specs.Whole.{Lines, Stops}

-- from a place and a state to another through n streams, whatever is printed on the way
abbrev pub Goes : ℕ → Place → List ℕ → Place → List ℕ → Type 0
Goes n p s q t = (w : List ℕ) × Prints n p s w q t

-- to rest
abbrev pub Settles : ℕ → List ℕ → List ℕ → Type 0
Settles n s t = Goes n start s Rest t

-- a record that was read is offered and what follows settles; a bad line changes nothing
abbrev pub Follows : ℕ → Option (Record × ℕ) → List ℕ → List ℕ → Type 0
Follows n (Some (r, next)) s t = Settles n (reply (call_of r) s).buffer t
Follows n None s t = t ≡ s

-- records offered one after the other, each settled
pub data Offered (n : ℕ) : List ℕ → List Record → List ℕ → Type 0 where
  none : {s : List ℕ} → Offered n s [] s
  more : {s : List ℕ} {rs : List Record} {t u : List ℕ} (r : Record) → Offered n s rs t → Settles n (reply (call_of r) t).buffer u → Offered n s (rs ++ r ∷ []) u

-- the records of a trace's first lines, in their order; where the whole trace was gone through, of all up to where it stops
pub record Trailed (n : ℕ) (s : List ℕ) (whole : Bool) (t : List ℕ) : Type 0 where
  pub trace : List ℕ
  pub records : List Record
  pub rest : List ℕ
  pub lines : Lines trace records rest
  pub offered : Offered n s records t
  pub stops : whole ≡ true → (v : List ℕ) × Stops rest v

-- the replay of a trace, as far as it came
pub record Played (n : ℕ) (s : List ℕ) (whole : Bool) (t : List ℕ) : Type 0 where
  pub trace : List ℕ
  pub records : List Record
  pub rest : List ℕ
  pub printed : List ℕ
  pub lines : Lines trace records rest
  pub replays : Replays n s records printed t
  pub stops : whole ≡ true → (v : List ℕ) × Stops rest v
