-- Believe: the lines of a text as an editor counts them, and where the grammar reads each.
use Rattle.std.specs.Prelude.{ℕ, ◌+◌, ◌*◌, ◌<◌, ◌≤◌, ◌≡◌, List, [], ◌∷◌, ◌++◌, drop, Some, Ok}
use Rattle.lines.specs.Form.{ending, skip, field, value_line}
use Rattle.text.specs.declared.Fields.{Fields}
use Rattle.faults.specs.declared.Fault.{Fault}
use Rattle.text.specs.Grammar.{plan_line, first_key, second_key, op_line, stream, head}

-- ## As an editor counts them

-- no byte 10 among these
abbrev pub Unended : List ℕ → Type 0
Unended [] = Unit {0}
Unended (b ∷ w) = (b ≡ 10 → ⊥) × Unended w

-- so many lines, each ended by byte 10
pub data WholeLines : ℕ → List ℕ → Type 0 where
  none : WholeLines 0 []
  more : {n : ℕ} {l : List ℕ} → WholeLines n l → (w : List ℕ) → Unended w → WholeLines (n + 1) (l ++ (w ++ ending))

-- the line of this number, counted from 1, begins at this position: what stands before is one line fewer
pub record Begins (s : List ℕ) (line at : ℕ) : Type 0 where
  pub lines : ℕ
  pub before : List ℕ
  pub whole : WholeLines lines before
  pub split : s ≡ before ++ drop at s
  pub counted : line ≡ lines + 1

-- ## As the grammar reads them

-- line j of the stream at a position
pub data LineIn (s : List ℕ) (at : ℕ) : ℕ → ℕ → Type 0 where
  op : LineIn s at 0 at
  a : {n p : ℕ} → op_line s at ≡ Ok (n, p) → LineIn s at 1 p
  b : {v p q : ℕ} → LineIn s at 1 p → field s p first_key 3 ≡ Some (v, q) → LineIn s at 2 q
  k : {v p q : ℕ} → LineIn s at 2 p → field s p second_key 3 ≡ Some (v, q) → LineIn s at 3 q
  out : {v p q : ℕ} → LineIn s at 3 p → value_line s p ≡ Some (v, q) → LineIn s at 4 q

-- stream i, with the first at a position
pub data StreamIn (s : List ℕ) (at : ℕ) : ℕ → ℕ → Type 0 where
  first : StreamIn s at 0 at
  next : {i p : ℕ} {f : Fields} → StreamIn s at i p → stream s p ≡ Ok f → StreamIn s at (i + 1) f.next

-- a line of a text that announces n streams, and where a text that has lines should end
pub data LineAt (cap : ℕ) (s : List ℕ) : ℕ → ℕ → Type 0 where
  top : LineAt cap s 1 0
  count : {p : ℕ} → skip s 0 plan_line ≡ Some p → LineAt cap s 2 p
  inside : {n at i p j q : ℕ} → head cap s ≡ Ok (n, at) → i < n → StreamIn s at i p → LineIn s p j q → LineAt cap s (3 + 5 * i + j) q
  beyond : {n at p q : ℕ} → skip s 0 plan_line ≡ Some q → head cap s ≡ Ok (n, at) → StreamIn s at n p → LineAt cap s (3 + 5 * n) p

-- ## The line of a fault

pub record Shown (cap : ℕ) (s : List ℕ) (f : Fault) : Type 0 where
  pub at : ℕ
  -- the grammar reads the line there, and an editor shows it there
  pub read : LineAt cap s f.line at
  pub begins : Begins s f.line at
  -- of 2, 3 and 4: the grammar gets to no later line
  pub last : f.number ≤ 4 → (m q : ℕ) → LineAt cap s m q → m ≤ f.line
