-- How: the search of a move over candidate stamps, which the held events give.
use Rattle.std.specs.Prelude.{ℕ, suc, pred, ◌+◌, Bool, true, false, cond, ◌&&◌, List, [], ◌∷◌, ◌++◌, map, leb, ltb}
use Rattle.meaning.specs.Plan.{Eqn, input, nil, unit, one, two, last, delay, signal, window}
use Rattle.meaning.specs.Events.{Event, has}
use Rattle.machine.specs.State.{Cell}
use Rattle.machine.specs.Reach.{stops, gives, value_at}
use Rattle.events.specs.Near.{size}

-- the least of the candidates from lo on and below hi that passes the test, or hi
unfoldable pub pick : (ℕ → Bool) → (lo hi : ℕ) → List ℕ → ℕ
pick f lo hi [] = hi
pick f lo hi (c ∷ cs) = cond (leb lo c && ltb c (pick f lo hi cs) && f c) c (pick f lo hi cs)

abbrev pub stamps : List Event → List ℕ
stamps es = map (λ (e : Event). e.stamp) es

-- the stamp at which a delay set one below z is due
abbrev pub due_at : (o a : Cell) → ℕ → ℕ
due_at o a z = pred z + size (value_at o a z)

-- the stamps at which an equation can have an event
abbrev pub wanted : Eqn → (o a b : Cell) → List ℕ
wanted input o a b = []
wanted nil o a b = []
wanted unit o a b = 0 ∷ []
wanted (one f _) o a b = stamps a.held
wanted (two g _ _) o a b = stamps a.held ++ stamps b.held
wanted (last _ _) o a b = stamps b.held
wanted (delay _ _) o a b = map (due_at o a) (o.kept.since ∷ map suc (stamps b.held))
wanted (signal c _ _) o a b = stamps a.held ++ stamps b.held
wanted (window f k _) o a b = stamps a.held

-- those at which its reach can end
abbrev pub halts : Eqn → (o a b : Cell) → List ℕ
halts input o a b = []
halts nil o a b = []
halts unit o a b = []
halts (one f _) o a b = []
halts (two g _ _) o a b = []
halts (last _ _) o a b = stamps b.held
halts (delay _ _) o a b = o.bound ∷ map suc (stamps b.held)
halts (signal c _ _) o a b = []
halts (window f k _) o a b = []

-- the two tests of a search: an event (true), or the end of the reach
unfoldable pub test : Bool → Eqn → (o a b : Cell) → ℕ → Bool
test true e o a b t = has (gives e o a b t)
test false e o a b t = stops e o a b t

-- the candidate that a held event at stamp s makes
abbrev pub candidate_of : Bool → Eqn → (o a : Cell) → ℕ → ℕ
candidate_of g input o a s = s
candidate_of g nil o a s = s
candidate_of g unit o a s = s
candidate_of g (one f _) o a s = s
candidate_of g (two f _ _) o a s = s
candidate_of g (last _ _) o a s = s
candidate_of g (delay _ _) o a s = cond g (due_at o a (suc s)) (suc s)
candidate_of g (signal c _ _) o a s = s
candidate_of g (window f k _) o a s = s

-- the better of a candidate and the best so far
abbrev pub nearer : Bool → Eqn → (o a b : Cell) → (c best : ℕ) → ℕ
nearer g e o a b c best = cond (leb o.bound c && ltb c best && test g e o a b c) c best

-- the best of the candidates of these events, or hi
abbrev pub search : Bool → Eqn → (o a b : Cell) → ℕ → List Event → ℕ
search g e o a b hi es = pick (test g e o a b) o.bound hi (map (candidate_of g e o a) (stamps es))
