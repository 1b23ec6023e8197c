-- Believe: the arguments of an equation, and which of them is delayed.
use Rattle.std.specs.Prelude.{ℕ, ◌<◌, Bool, true, false, cond, List, [], ◌∷◌, map, get_or}
use Rattle.meaning.specs.Plan.{Eqn, input, nil, unit, one, two, last, delay, signal, window}

-- an argument: its stream, and whether it is delayed
pub record Argument : Type 0 where
  pub stream : ℕ
  pub delayed : Bool

abbrev pub prompt : ℕ → Argument
prompt a = record { stream = a; delayed = false }

abbrev pub late : ℕ → Argument
late a = record { stream = a; delayed = true }

-- the arguments of an equation: only the first of a last or a delay is delayed
abbrev pub arguments : Eqn → List Argument
arguments input = []
arguments nil = []
arguments unit = []
arguments (one f a) = prompt a ∷ []
arguments (two g a b) = prompt a ∷ prompt b ∷ []
arguments (last a b) = late a ∷ prompt b ∷ []
arguments (delay a b) = late a ∷ prompt b ∷ []
arguments (signal c a b) = prompt a ∷ prompt b ∷ []
arguments (window f k a) = prompt a ∷ []

-- the streams that an equation reads
abbrev pub reads : Eqn → List ℕ
reads e = map (λ x. x.stream) (arguments e)

abbrev pub prompts : List Argument → List ℕ
prompts [] = []
prompts (x ∷ xs) = cond x.delayed (prompts xs) (x.stream ∷ prompts xs)

-- its undelayed arguments
abbrev pub undelayed : Eqn → List ℕ
undelayed e = prompts (arguments e)

-- its first and its second argument; 0 where its operator uses none
abbrev pub arg_a : Eqn → ℕ
arg_a e = get_or (reads e) 0 0

abbrev pub arg_b : Eqn → ℕ
arg_b e = get_or (reads e) 1 0

-- every number of a list has the property
abbrev pub Each : (ℕ → Type 0) → List ℕ → Type 0
Each P [] = Unit {0}
Each P (x ∷ xs) = P x × Each P xs

abbrev pub AllBelow : ℕ → List ℕ → Type 0
AllBelow n l = Each (λ a. a < n) l
