-- How: a window of a trace: a text that holds, from a position on, the bytes of the trace from another.
use Rattle.std.specs.Prelude.{ℕ, ◌+◌, ◌-◌, ◌<◌, ◌≤◌, ◌≡◌, ◌⊎◌, List, [], ltb, length, get_or, Option, Some, None}
use Rattle.trace.specs.declared.Record.{Record}

-- n bytes on, two texts have the same bytes, and end at the same place if they end
abbrev pub Same : List ℕ → ℕ → List ℕ → ℕ → ℕ → Type 0
Same s a t b n = (i : ℕ) → i < n → (ltb (a + i) (length s) ≡ ltb (b + i) (length t)) × (get_or s (a + i) 0 ≡ get_or t (b + i) 0)

-- both are bad, or both were read, the same record and as many bytes on
pub data Alike (a b : ℕ) : Option (Record × ℕ) → Option (Record × ℕ) → Type 0 where
  read : (r : Record) (k : ℕ) → Alike a b (Some (r, a + k)) (Some (r, b + k))
  bad : Alike a b None None

-- "at most 64 bytes, then byte 10"
abbrev pub longest : ℕ
longest = 65

-- a text has a whole line from a position on, or nothing follows it
abbrev pub Enough : List ℕ → ℕ → List ℕ → Type 0
Enough text at more = (longest ≤ length text - at) ⊎ (more ≡ [])
