-- Believe: a signal form spelled out: two lasts, two merges and the operation, and that the two plans mean the same.
use Rattle.std.specs.Prelude.{ℕ, zero, suc, ◌+◌, ◌-◌, ◌≤◌, ◌<◌, ◌≡◌, ◌↔◌, cond, [], ◌∷◌, ◌++◌, ltb, length, set, None}
use Rattle.meaning.specs.Plan.{Calc, calc, merge, Eqn, two, last, Plan}
use Rattle.meaning.specs.Events.{Stream, Streams}
use Rattle.meaning.specs.Table.{two_at, latest, last_at, Solves}
use Rattle.meaning.specs.Cycle.{Acyclic}

-- the four streams that follow a plan of n streams: a's latest value before a stamp at which b has an event, a or else that;
-- and the same with a and b changed about
abbrev pub four : (n a b : ℕ) → Plan
four n a b = last a b ∷ two merge a (n + 0) ∷ last b a ∷ two merge b (n + 2) ∷ []

-- the operation, on the two merges
abbrev pub operation : (n : ℕ) → Calc → Eqn
operation n c = two (calc c) (n + 1) (n + 3)

-- the plan with stream s, the signal form of c with the arguments a and b, spelled out
abbrev pub spelled : Plan → ℕ → Calc → (a b : ℕ) → Plan
spelled plan s c a b = set plan s (operation (length plan) c) ++ four (length plan) a b

-- the four streams by their rows, where a is f and b is g
abbrev pub lasts : (f g : Stream) → Stream
lasts f g t = last_at (g t) (latest f t)

abbrev pub merged : (f g : Stream) → Stream
merged f g t = two_at merge (f t) (lasts f g t)

abbrev pub extra : (f g : Stream) → ℕ → Stream
extra f g zero = lasts f g
extra f g (suc zero) = merged f g
extra f g (suc (suc zero)) = lasts g f
extra f g (suc (suc (suc zero))) = merged g f
extra f g (suc (suc (suc (suc k)))) = λ t. None

-- the streams of a plan of n, with the four behind them
abbrev pub appended : (n a b : ℕ) → Streams → Streams
appended n a b S i = cond (ltb i n) (S i) (extra (S a) (S b) (i - n))

-- the first n streams alone
abbrev pub first_only : ℕ → Streams → Streams
first_only n S i = cond (ltb i n) (S i) (λ t. None)

-- the plan and the spelled-out plan mean the same
pub record MeansSpelled (plan : Plan) (s : ℕ) (c : Calc) (a b : ℕ) : Type 0 where
  -- S, which has no streams but the plan's, solves the plan exactly if with the four behind it it solves the spelled-out plan
  pub solutions : (rd S : Streams) (h : ℕ) → ((i t : ℕ) → length plan ≤ i → t < h → S i t ≡ None)
      → Solves plan rd S h ↔ Solves (spelled plan s c a b) rd (appended (length plan) a b S) h
  -- and the spelled-out plan has no other solutions: the first streams of each solve the plan, and the four follow from them
  pub only : (rd U : Streams) (h : ℕ) → Solves (spelled plan s c a b) rd U h
      → Solves plan rd (first_only (length plan) U) h × ((i t : ℕ) → t < h → U i t ≡ appended (length plan) a b (first_only (length plan) U) i t)
  -- the one is free of undelayed cycles exactly if the other is
  pub cycles : Acyclic plan ↔ Acyclic (spelled plan s c a b)
