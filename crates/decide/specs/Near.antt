-- How: the functions of a move on the three cells as the code has them, and what it answers.
use Rattle.std.specs.Prelude.{ℕ, suc, Bool, List}
use Rattle.meaning.specs.Events.{Event}
use Rattle.machine.specs.Reach as machine
use Rattle.streams.specs.declared.Look.{Look}
use Rattle.streams.specs.Look.{plain, own_of, arg_of}
use Rattle.decide.specs.declared.Next.{Next}
use Rattle.decide.specs.declared.Next.TheVariants as code
use Rattle.decide.specs.Search.{test, nearer, candidate_of, search}

-- the tests of a search, its candidates, and the search
abbrev pub test_in : Bool → Look → (A B : List ℕ) → ℕ → Bool
test_in g l A B t = test g (plain l.stream.op) (own_of l.stream) (arg_of l.abound A) (arg_of l.bbound B) t

abbrev pub nearer_in : Bool → Look → (A B : List ℕ) → (c best : ℕ) → ℕ
nearer_in g l A B c best = nearer g (plain l.stream.op) (own_of l.stream) (arg_of l.abound A) (arg_of l.bbound B) c best

abbrev pub candidate_in : Bool → Look → (A : List ℕ) → ℕ → ℕ
candidate_in g l A s = candidate_of g (plain l.stream.op) (own_of l.stream) (arg_of l.abound A) s

abbrev pub search_in : Bool → Look → (A B : List ℕ) → ℕ → List Event → ℕ
search_in g l A B hi es = search g (plain l.stream.op) (own_of l.stream) (arg_of l.abound A) (arg_of l.bbound B) hi es

abbrev pub reach_in : Look → (A B : List ℕ) → ℕ
reach_in l A B = machine.reach (plain l.stream.op) (own_of l.stream) (arg_of l.abound A) (arg_of l.bbound B)

abbrev pub first_in : Look → (A B : List ℕ) → ℕ
first_in l A B = machine.first (plain l.stream.op) (own_of l.stream) (arg_of l.abound A) (arg_of l.bbound B)

abbrev pub next_in : Look → (A B : List ℕ) → machine.Next
next_in l A B = machine.decide (plain l.stream.op) (own_of l.stream) (arg_of l.abound A) (arg_of l.bbound B)

-- what the code answers, as the machine's answer
abbrev pub to_next : Next → machine.Next
to_next (code.Event t v) = machine.event t v
to_next (code.Silent r) = machine.silent r

-- how far the stream is known with the answer
abbrev pub known_to : Next → ℕ
known_to (code.Event t v) = suc t
known_to (code.Silent r) = r
