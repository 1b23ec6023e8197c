-- How: the text in hand: the bytes of the trace that were read and not yet replayed, and what going through it comes to.
use Rattle.std.specs.Prelude.{ℕ, ◌+◌, ◌-◌, ◌^◌, ◌<◌, ◌≤◌, min, ◌≡◌, Bool, true, List, [], ◌++◌, length, take, drop, Option, Some, None}
use Rattle.chunks.specs.Window.{longest}
use Rattle.trace.specs.declared.Record.{Record}
use Rattle.replaying.specs.Whole.{Lines, Stops}
use Rattle.playing.specs.declared.Left.{Left}
use Rattle.playing.specs.Played.{Offered}

-- the bytes of a buffer between two positions
abbrev pub hand : List ℕ → ℕ → ℕ → List ℕ
hand buffer from end = take (end - from) (drop from buffer)

-- the number of the line that stands k lines behind one; the count stops at the greatest number
abbrev pub line_after : ℕ → ℕ → ℕ
line_after line k = min (line + k) (2 ^ 64 - 1)

-- anything may follow a text, but nothing follows the last one
abbrev pub Follow : Bool → List ℕ → Type 0
Follow last more = last ≡ true → more ≡ []

-- the lines of a text from one position to another, whatever follows the text: their records were offered, none left out, and
-- counted from the number of the first one on
pub record Between (n : ℕ) (text : List ℕ) (at : ℕ) (last : Bool) (first : ℕ) (s : List ℕ) (p line : ℕ) (t : List ℕ) : Type 0 where
  pub records : List Record
  pub counted : line ≡ line_after first (length records)
  pub offered : Offered n s records t
  pub lines : (more : List ℕ) → Follow last more → Lines (drop at text ++ more) records (drop p text ++ more)

-- all whole lines of a text from a position on: up to its end if it is the last, else to where fewer bytes are left than a line
-- can have; or to a bad line
abbrev pub Through : (n : ℕ) (text : List ℕ) (at : ℕ) (last : Bool) (first : ℕ) → List ℕ → Option (ℕ × ℕ) → List ℕ → Type 0
Through n text at last first s (Some (p, line)) t = (p ≤ length text) × (last ≡ true → p ≡ length text) × (length text - p < longest) × Between n text at last first s p line t
Through n text at last first s None t = (p : ℕ) × (line : ℕ) × (p < length text) × Between n text at last first s p line t × ((more : List ℕ) → Follow last more → (v : List ℕ) × Stops (drop p text ++ more) v)

-- from the bytes in hand: what was read comes behind them, the lines that were replayed go, and the rest is in hand
pub record Onward (n first : ℕ) (old s new : List ℕ) (line : ℕ) (t : List ℕ) : Type 0 where
  pub brought : List ℕ
  pub records : List Record
  pub counted : line ≡ line_after first (length records)
  pub offered : Offered n s records t
  pub lines : (more : List ℕ) → Lines (old ++ (brought ++ more)) records (new ++ more)

-- or the trace was gone through: up to a bad line, or to its end, since what was read did not fill the buffer
pub record Ended (n : ℕ) (old s buffer t : List ℕ) : Type 0 where
  pub brought : List ℕ
  pub records : List Record
  pub rest : List ℕ
  pub offered : Offered n s records t
  pub lines : Lines (old ++ brought) records rest
  pub stops : (v : List ℕ) × Stops rest v
  pub held : take (length (old ++ brought)) buffer ≡ old ++ brought
  pub short : rest ≡ [] → length (old ++ brought) < length buffer

-- what the buffer holds up to the end is what was in hand and what was read
abbrev pub Advances : (n first : ℕ) → List ℕ → List ℕ → Option Left → List ℕ → List ℕ → Type 0
Advances n first old s (Some l) buffer t = (l.from ≤ l.end) × (l.end ≤ length buffer) × (o : Onward n first old s (hand buffer l.from l.end) l.line t) × (take l.end buffer ≡ old ++ o.brought)
Advances n first old s None buffer t = Ended n old s buffer t
