-- Two functions that agree at each row of a table, by computing both, agree at every one: one law instead of a case for each row.
use Prim.Native.Nat.{ℕ, zero, suc, ◌+◌, ◌≤◌, ◌<◌}
use mathlib.Core.Path.{◌≡◌, sym, ap, ◌∙◌}
use mathlib.Core.Logic.{⊎_elim}
use mathlib.Core.List.{List, [], ◌∷◌, map}
use lib.ListN.{get_or}
use native.Mathlib.Omega.{arith}
use native.Mathlib.Nat.{eq-or-lt_of_le}

-- what f gives at the k numbers from lo on
abbrev pub listed : {A : Type 0} → (ℕ → A) → ℕ → ℕ → List A
listed f lo zero = []
listed f lo (suc k) = f lo ∷ listed f (suc lo) k

abbrev first_or : {A : Type 0} → A → List A → A
first_or d [] = d
first_or d (x ∷ l) = x

abbrev tail_of : {A : Type 0} → List A → List A
tail_of [] = []
tail_of (x ∷ l) = l

pub agree : {A : Type 0} (f g : ℕ → A) (lo k : ℕ) → listed f lo k ≡ listed g lo k → (n : ℕ) → lo ≤ n → n < lo + k → f n ≡ g n
agree f g lo zero e n l h = absurd (omega arith)
agree f g lo (suc k) e n l h =
    ⊎_elim
    (λ m. ap f (sym m) ∙ ap (first_or (f lo)) e ∙ ap g m)
    (λ m. agree f g (suc lo) k (ap tail_of e) n m (omega arith))
    (eq-or-lt_of_le l)

-- the same of functions of what a list holds, d where it ends
pub agreeing : {X A : Type 0} (f g : X → A) (l : List X) (d : X) → f d ≡ g d → map f l ≡ map g l → (n : ℕ) → f (get_or l n d) ≡ g (get_or l n d)
agreeing f g [] d q e n = q
agreeing f g (x ∷ l) d q e zero = ap (first_or (f d)) e
agreeing f g (x ∷ l) d q e (suc n) = agreeing f g l d q (ap tail_of e) n
