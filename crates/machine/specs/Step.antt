-- Believe: one step: a stream's bound goes up, with at most one new event. Only that stream, its readers and its arguments change.
use Rattle.std.specs.Prelude.{ℕ, suc, pred, ◌+◌, min, max, Bool, false, not, cond, ◌&&◌, ◌||◌, List, [], ◌∷◌, ◌++◌, map, leb, ltb, eqb, length, set, ℤ, None, Some}
use Rattle.meaning.specs.Plan.{Eqn, input, nil, unit, one, two, last, delay, signal, window, is_input}
use Rattle.meaning.specs.Arguments.{reads, arg_a, arg_b}
use Rattle.meaning.specs.Events.{Event, ev, horizon}
use Rattle.meaning.specs.Table.{width}
use Rattle.meaning.specs.Missing.{Said, one_says, two_says, signal_says, window_says, said_for, tally, count_limit}
use Rattle.machine.specs.State.{Kept, Passed, Cell, State, cell_at, room, with_bound, with_held, with_kept, with_passed, with_prev, with_prev_b, with_since, with_value, with_prior, count_of, with_window, with_counts}
use Rattle.machine.specs.Reach.{view, past_latest, value_at, held_latest, slid, Next, event, silent, decide}

-- ---- Write: the bound goes to y, with the new events below it; own kept data follows

-- what an equation has to say at t, from its bound on: on the held events and what is kept. One that has a value for whatever it
-- works on is not asked.
abbrev pub hears : Eqn → (o a b : Cell) → ℕ → Said
hears input o a b t = None
hears nil o a b t = None
hears unit o a b t = None
hears (one f _) o a b t = one_says f t (view a t)
hears (two g _ _) o a b t = two_says g (view a t) (view b t)
hears (last _ _) o a b t = None
hears (delay _ _) o a b t = None
hears (signal c _ _) o a b t = signal_says c (view a t) (view b t) (held_latest a (suc t) o.kept.prev) (held_latest b (suc t) o.kept.prev_b)
hears (window f k _) o a b t = window_says f (view a t) (slid (width k) o.bound (suc t) o.passed.window (view a))

-- n, and one for each stamp from y on and below x that passes the test: "each count stopping at 4,294,967,295"
abbrev pub counted : ℕ → (ℕ → Bool) → (y x : ℕ) → ℕ
counted n f y x = min count_limit (n + tally (λ t. leb y t && f t) x)

-- the counts once the bound goes on to y: the stamps from the bound on and below y come to what was counted
abbrev pub counts : Eqn → ℕ → (o a b : Cell) → Passed
counts e y o a b = with_counts (λ q. counted (count_of q o.passed) (λ t. said_for q (hears e o a b t)) o.bound y) o.passed

-- what is kept of the passed stamps once the bound goes on to y: the counts, and of a window a's events from its bound on and
-- below y, which come to what it kept. This looks at the cell as it was, with the bound before the step.
abbrev pub pass : Eqn → ℕ → (o a b : Cell) → Passed
pass input y o a b = o.passed
pass nil y o a b = o.passed
pass unit y o a b = o.passed
pass (one f c) y o a b = counts (one f c) y o a b
pass (two g c d) y o a b = counts (two g c d) y o a b
pass (last _ _) y o a b = o.passed
pass (delay _ _) y o a b = o.passed
pass (signal g c d) y o a b = counts (signal g c d) y o a b
pass (window f k c) y o a b = with_window (slid (width k) o.bound y o.passed.window (view a)) (counts (window f k c) y o a b)

abbrev pub passes : ℕ → ℕ → State → Passed
passes s y M = let o = cell_at M s in pass o.eqn y o (cell_at M (arg_a o.eqn)) (cell_at M (arg_b o.eqn))

abbrev pub advance : ℕ → List Event → Passed → Cell → Cell
advance y new w c = with_passed w (with_held (c.held ++ new) (with_bound y c))

-- one past the latest known set point below the bound
abbrev pub later : (o b : Cell) → ℕ
later o b = max o.kept.since (max (past_latest (view b) o.bound) (past_latest (view o) o.bound))

-- the moved stream's kept data, brought up to date from its arguments' and its own held events
abbrev pub absorb : Eqn → (o a b : Cell) → Kept
absorb input o a b = o.kept
absorb nil o a b = o.kept
absorb unit o a b = o.kept
absorb (one f _) o a b = o.kept
absorb (two g _ _) o a b = o.kept
absorb (last _ _) o a b = with_prev (held_latest a o.bound o.kept.prev) o.kept
absorb (delay _ _) o a b =
    with_since (later o b)
    (with_value (cond (eqb (later o b) 0) None (value_at o a (later o b)))
    (with_prior (view a (pred o.bound)) o.kept))
absorb (signal c _ _) o a b = with_prev (held_latest a o.bound o.kept.prev) (with_prev_b (held_latest b o.bound o.kept.prev_b) o.kept)
absorb (window f k _) o a b = o.kept

unfoldable pub absorbed : ℕ → State → State
absorbed s M =
    let o = cell_at M s in
    set M s (with_kept (absorb o.eqn o (cell_at M (arg_a o.eqn)) (cell_at M (arg_b o.eqn))) o)

unfoldable pub write : ℕ → ℕ → List Event → State → State
unfolding absorbed
write s y new M = absorbed s (set M s (advance y new (passes s y M) (cell_at M s)))

-- ---- Tell: every reader of s whose bound is above the new event's stamp takes what it needs of it

-- a or one of the list is s
abbrev pub any_from : ℕ → ℕ → List ℕ → Bool
any_from s a [] = eqb a s
any_from s a (b ∷ l) = eqb a s || any_from s b l

abbrev pub any_of : ℕ → List ℕ → Bool
any_of s [] = false
any_of s (a ∷ l) = any_from s a l

-- the equation reads stream s
abbrev pub reads_it : ℕ → Eqn → Bool
reads_it s e = any_of s (reads e)

-- a delay with bound y: a's event at its latest set point; a's event just below its bound; b's event, a set point
abbrev pub value_told : Bool → (t : ℕ) → ℤ → Kept → Kept
value_told is_a t v k = with_value (cond (is_a && eqb k.since (t + 1)) (Some v) k.value) k

abbrev pub prior_told : Bool → (y t : ℕ) → ℤ → Kept → Kept
prior_told is_a y t v k = with_prior (cond (is_a && eqb y (t + 1)) (Some v) k.prior) k

-- the latest one, unless a later one is known: a's event there is known if it is the one just below the bound
abbrev pub since_told : Bool → (y t : ℕ) → Kept → Kept
since_told is_b y t k = cond (is_b && leb k.since t) (with_since (t + 1) (with_value (cond (eqb y (t + 1)) k.prior None) k)) k

-- what an equation with bound y keeps when the event (t, v) of stream s comes in below its bound. A signal form and a window are never
-- told: their bounds are never above an argument's, so in a run no event of an argument comes in below them (`Ahead` in
-- crates/runs/proofs/Tracks.antt).
abbrev pub kept_told : Eqn → (s y t : ℕ) → ℤ → Kept → Kept
kept_told input s y t v k = k
kept_told nil s y t v k = k
kept_told unit s y t v k = k
kept_told (one f a) s y t v k = k
kept_told (two g a b) s y t v k = k
kept_told (last a b) s y t v k = with_prev (cond (eqb a s) (Some v) k.prev) k
kept_told (delay a b) s y t v k = since_told (eqb b s) y t (prior_told (eqb a s) y t v (value_told (eqb a s) t v k))
kept_told (signal c a b) s y t v k = k
kept_told (window f n a) s y t v k = k

unfoldable pub told : (s t : ℕ) → ℤ → Cell → Cell
told s t v c = with_kept (cond (ltb t c.bound) (kept_told c.eqn s c.bound t v c.kept) c.kept) c

unfoldable pub tell : ℕ → List Event → State → State
unfolding told
tell s [] M = M
tell s (e ∷ es) M = map (told s e.stamp e.value) M

-- ---- Release: the oldest events that nobody waits for are let go

-- the least bound of the readers of s, the horizon if no stream reads it
unfoldable pub least_reader : ℕ → State → ℕ
least_reader s [] = horizon
least_reader s (c ∷ cs) = cond (reads_it s c.eqn) (min c.bound (least_reader s cs)) (least_reader s cs)

-- the same with collection of an output as one reader more, whose bound is one past the last collected stamp
unfoldable pub least_waiting : ℕ → State → ℕ
unfolding least_reader
least_waiting s M = cond (cell_at M s).out (min (cell_at M s).next (least_reader s M)) (least_reader s M)

unfoldable pub drop_below : ℕ → List Event → List Event
drop_below w [] = []
drop_below w (e ∷ es) = cond (ltb e.stamp w) (drop_below w es) (e ∷ es)

unfoldable pub release : ℕ → State → State
unfolding least_waiting drop_below
release s M = set M s (with_held (drop_below (least_waiting s M) (cell_at M s).held) (cell_at M s))

unfoldable pub releases : List ℕ → State → State
unfolding release
releases [] M = M
releases (s ∷ ss) M = releases ss (release s M)

-- ---- the step: write, tell, release the stream and its arguments
unfoldable pub raise : ℕ → ℕ → List Event → State → State
unfolding write tell releases
raise s y new M = releases (s ∷ reads (cell_at M s).eqn) (tell s new (write s y new M))

-- ---- a move of stream s

-- what the move finds
unfoldable pub ahead : ℕ → State → Next
unfolding decide
ahead s M = let o = cell_at M s in decide o.eqn o (cell_at M (arg_a o.eqn)) (cell_at M (arg_b o.eqn))

-- "A stream that holds 16 events takes no more: the bound then goes to t and the event waits."
abbrev pub new_bound : Next → List Event → ℕ
new_bound (silent r) held = r
new_bound (event t v) held = cond (leb room (length held)) t (suc t)

-- the event that comes in: none or one
abbrev pub added : Next → List Event → List Event
added (silent r) held = []
added (event t v) held = cond (leb room (length held)) [] (ev t v ∷ [])

-- "The equation can move exactly if this changes its bound."
unfoldable pub can_move : ℕ → State → Bool
unfolding ahead
can_move s M = let o = cell_at M s in not (is_input o.eqn) && not (eqb (new_bound (ahead s M) o.held) o.bound)

unfoldable pub comes_in : ℕ → State → List Event
unfolding ahead
comes_in s M = added (ahead s M) (cell_at M s).held

unfoldable pub move : ℕ → State → State
unfolding raise comes_in
move s M = raise s (new_bound (ahead s M) (cell_at M s).held) (comes_in s M) M
