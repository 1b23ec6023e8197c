-- A text's opening: no bytes announce no streams, of any other text the first two lines decide.
use Prim.Native.Nat.{ℕ}
use mathlib.Core.Path.{◌≡◌, refl}
use mathlib.Core.List.{List, [], ◌∷◌}
use native.Mathlib.Omega.{arith}
use lib.ListN.{length}
use Rattle.lines.specs.Form.{skip}
use Rattle.std.specs.Prelude.{Ok}
use Rattle.text.specs.Grammar.{plan_line, head_after, head}

pub no_bytes : (cap : ℕ) (s : List ℕ) → length s ≡ 0 → head cap s ≡ Ok (0, 0)
unfolding head
no_bytes cap [] e = refl
no_bytes cap (b ∷ s) e = absurd (omega arith)

pub some_bytes : (cap : ℕ) (s : List ℕ) → (length s ≡ 0 → ⊥) → head cap s ≡ head_after cap s (skip s 0 plan_line)
unfolding head
some_bytes cap [] h = absurd (h refl)
some_bytes cap (b ∷ s) h = refl
