-- How: the counts of a move over the held events: how many of them, one after the other, lack a value.
use Rattle.std.specs.Prelude.{ℕ, suc, ◌+◌, Bool, not, cond, ◌&&◌, List, [], ◌∷◌, ◌++◌, ltb, ℤ}
use Rattle.meaning.specs.Plan.{Fold, wsum, wmin, wmax, Eqn, input, nil, unit, one, two, last, delay, signal, window}
use Rattle.meaning.specs.Events.{Event, has}
use Rattle.meaning.specs.Table.{value_of, folded, latest_of, width}
use Rattle.meaning.specs.Missing.{Reason, Outside, ZeroDivisor, said_for}
use Rattle.machine.specs.State.{Cell}
use Rattle.machine.specs.Reach.{view, Next, event, silent}
use Rattle.machine.specs.Step.{hears, drop_below}
use Rattle.machine.specs.Windows.{take_below}

-- how many of these events lie at a stamp that passes the test
unfoldable pub tally_of : (ℕ → Bool) → List Event → ℕ
tally_of f [] = 0
tally_of f (e ∷ es) = cond (f e.stamp) (suc (tally_of f es)) (tally_of f es)

-- how many of these events, from the first on and below x, come into a window of k at which its sum has no value, where w came
-- before them
unfoldable pub sum_tally : (k x : ℕ) → List ℤ → List Event → ℕ
sum_tally k x w [] = 0
sum_tally k x w (e ∷ es) =
    let now = w ++ e.value ∷ [] in
    cond (ltb e.stamp x) (cond (has (value_of (folded wsum (latest_of k now)))) (sum_tally k x now es) (suc (sum_tally k x now es))) 0

-- a window's: only a sum lacks a value, and never for a divisor
abbrev pub window_tally : Reason → Fold → (k x : ℕ) → List ℤ → List Event → ℕ
window_tally Outside wsum k x w es = sum_tally k x w es
window_tally Outside wmin k x w es = 0
window_tally Outside wmax k x w es = 0
window_tally ZeroDivisor f k x w es = 0

-- the held events of c from the bound of o on and below x
abbrev pub passing : (o c : Cell) → ℕ → List Event
passing o c x = take_below x (drop_below o.bound c.held)

-- how many stamps from the bound on and below x lack a value for the reason: those at which a holds an event, and of a signal form
-- those besides at which b alone does
abbrev pub tallied : Reason → Eqn → (o a b : Cell) → (x : ℕ) → ℕ
tallied q input o a b x = 0
tallied q nil o a b x = 0
tallied q unit o a b x = 0
tallied q (one f c) o a b x = tally_of (λ t. said_for q (hears (one f c) o a b t)) (passing o a x)
tallied q (two g c d) o a b x = tally_of (λ t. said_for q (hears (two g c d) o a b t)) (passing o a x)
tallied q (last c d) o a b x = 0
tallied q (delay c d) o a b x = 0
tallied q (signal g c d) o a b x =
    tally_of (λ t. said_for q (hears (signal g c d) o a b t)) (passing o a x)
    + tally_of (λ t. not (has (view a t)) && said_for q (hears (signal g c d) o a b t)) (passing o b x)
tallied q (window f k c) o a b x = window_tally q f (width k) x o.passed.window (drop_below o.bound a.held)

-- up to where a move has something to count: at the stamp of the event that it finds nothing is missing
abbrev pub end_of : Next → ℕ
end_of (silent r) = r
end_of (event t v) = t
