-- How: what it means that bytes were put into a buffer; the last digits of a number.
use Rattle.std.specs.Prelude.{ℕ, zero, suc, ◌+◌, ◌/◌, ◌%◌, ◌≡◌, List, [], ◌∷◌, ◌++◌, length}
use Rattle.std.proofs.lemmas.List.Edits.{sets}

-- the bytes ws were put into the buffer l at a position: end is past them, l' the buffer then
pub record Put (l : List ℕ) (at : ℕ) (ws : List ℕ) (end : ℕ) (l' : List ℕ) : Type 0 where
  pub bytes : l' ≡ sets l at ws
  pub past : end ≡ at + length ws

-- the last k digits of a number, zeros before them if it has fewer
unfoldable pub last_digits : ℕ → ℕ → List ℕ
last_digits zero n = []
last_digits (suc k) n = last_digits k (n / 10) ++ ((48 + n % 10) ∷ [])
