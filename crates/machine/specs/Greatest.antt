-- Believe: the bounds that an equation's arguments fix, on the held events and what is kept, of any state: the reach is the greatest.
use Rattle.std.specs.Prelude.{ℕ, suc, ◌+◌, ◌≤◌, ◌<◌, ◌≡◌, ◌⊎◌, T}
use Rattle.meaning.specs.Plan.{Eqn, input, nil, unit, one, two, last, delay, signal, window}
use Rattle.meaning.specs.Events.{has, horizon}
use Rattle.machine.specs.State.{Cell}
use Rattle.machine.specs.Reach.{view}

-- a set point that a state tells: the latest that is kept, or a held event of b or of the delay itself
abbrev pub HeldPoint : (o b : Cell) → ℕ → Type 0
HeldPoint o b p = (o.kept.since ≡ suc p) ⊎ (T (has (view b p)) ⊎ T (has (view o p)))

-- "A move of an equation with bound y looks at its reach, the greatest bound that its arguments fix: nil, unit: the
-- horizon. One argument: that one's bound. Two, but for last and delay: the smaller bound. last: b's bound, but no further
-- than the first event of b, at stamp y or later, that lies above a's bound. delay: the greatest k up to b's bound plus 1
-- and up to the horizon such that every set point p with p + 1 < k lies below a's bound."
abbrev pub HeldFixes : Eqn → (o a b : Cell) → ℕ → Type 0
HeldFixes input o a b k = k ≤ o.bound
HeldFixes nil o a b k = k ≤ horizon
HeldFixes unit o a b k = k ≤ horizon
HeldFixes (one f _) o a b k = k ≤ a.bound
HeldFixes (two g _ _) o a b k = (k ≤ a.bound) × (k ≤ b.bound)
HeldFixes (last _ _) o a b k = (k ≤ b.bound) × ((t : ℕ) → T (has (view b t)) → o.bound ≤ t → a.bound < t → k ≤ t)
HeldFixes (delay _ _) o a b k = (k ≤ suc b.bound) × (k ≤ horizon) × ((p : ℕ) → HeldPoint o b p → p + 1 < k → p < a.bound)
HeldFixes (signal c _ _) o a b k = (k ≤ a.bound) × (k ≤ b.bound)
HeldFixes (window f n _) o a b k = k ≤ a.bound

-- a delay's own held events lie below one past its latest kept set point: so in every state that is not refused 15
abbrev pub OwnKept : Eqn → Cell → Type 0
OwnKept input o = Unit {0}
OwnKept nil o = Unit {0}
OwnKept unit o = Unit {0}
OwnKept (one f _) o = Unit {0}
OwnKept (two g _ _) o = Unit {0}
OwnKept (last _ _) o = Unit {0}
OwnKept (delay _ _) o = (p : ℕ) → T (has (view o p)) → p < o.kept.since
OwnKept (signal c _ _) o = Unit {0}
OwnKept (window f n _) o = Unit {0}
