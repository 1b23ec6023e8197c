-- Cases: plans with readings, the events that a stream of each must have, and how many are missing.
use Rattle.std.specs.Prelude.{ℕ, Bool, true, false, List, [], ◌∷◌, get_or, ℤ, pos, negsuc}
use Rattle.meaning.specs.Plan.{Unary, time, neg, set, plus, Calc, add, sub, mul, div, rem, lt, le, eq, Binary, calc, keep, merge, input, nil, unit, one, two, last, delay, signal, window, Fold, wsum, wmin, wmax, Plan}
use Rattle.meaning.specs.Events.{Event, ev, Streams, found}
use Rattle.meaning.specs.Missing.{Reason, Outside, ZeroDivisor}

pub record Case : Type 0 where
  pub plan : Plan
  -- the readings of streams 0, 1, ..
  pub readings : List (List Event)
  pub stream : ℕ
  -- the events expected of the stream
  pub expected : List Event
  -- the stamp up to which they are computed; in a case that ends, nothing happens from there on
  pub until : ℕ

abbrev pub given : List (List Event) → Streams
given rs s = found (get_or rs s [])

abbrev pub case : Plan → List (List Event) → ℕ → ℕ → List Event → Case
case p r s u e = record { plan = p; readings = r; stream = s; expected = e; until = u }

-- the count of visits of document 01
abbrev pub count : Plan
count = input ∷ unit ∷ one (set (pos 0)) 1 ∷ last 5 0 ∷ one (plus (pos 1)) 3 ∷ two merge 4 2 ∷ []

-- a delay that sets itself again each time it fires
abbrev pub ticking : Plan
ticking = unit ∷ two merge 3 0 ∷ one (set (pos 7)) 1 ∷ delay 2 0 ∷ []

-- one operator, and the events of its arguments
abbrev pub unary : Unary → List Event → List Event → Case
unary f a e = case (input ∷ one f 0 ∷ []) (a ∷ []) 1 4 e

abbrev pub binary : Binary → List Event → List Event → List Event → Case
binary g a b e = case (input ∷ input ∷ two g 0 1 ∷ []) (a ∷ b ∷ []) 2 4 e

abbrev pub lasting : List Event → List Event → List Event → Case
lasting a b e = case (input ∷ input ∷ last 0 1 ∷ []) (a ∷ b ∷ []) 2 6 e

abbrev pub delayed : List Event → List Event → List Event → Case
delayed a b e = case (input ∷ input ∷ delay 0 1 ∷ []) (a ∷ b ∷ []) 2 15 e

abbrev pub signaled : Calc → List Event → List Event → List Event → Case
signaled c a b e = case (input ∷ input ∷ signal c 0 1 ∷ []) (a ∷ b ∷ []) 2 6 e

abbrev pub windowed : Fold → ℕ → List Event → List Event → Case
windowed f k a e = case (input ∷ window f (pos k) 0 ∷ []) (a ∷ []) 1 12 e

-- a signal form as stream 2, and the same spelled out as stream 7
abbrev pub beside_spelled : Plan
beside_spelled = input ∷ input ∷ signal add 0 1 ∷ last 0 1 ∷ two merge 0 3 ∷ last 1 0 ∷ two merge 1 5 ∷ two (calc add) 4 6 ∷ []

abbrev pub spelled_out : ℕ → Case
spelled_out s =
    case beside_spelled ((ev 3 (pos 7) ∷ ev 5 (pos 8) ∷ ev 6 (pos 1) ∷ []) ∷ (ev 5 (pos 10) ∷ ev 9 (pos 2) ∷ []) ∷ []) s 12
    (ev 5 (pos 18) ∷ ev 6 (pos 11) ∷ ev 9 (pos 3) ∷ [])

-- the least and the greatest value
abbrev pub least : ℤ
least = negsuc 9223372036854775807

abbrev pub greatest : ℤ
greatest = pos 9223372036854775807

-- the cases that end: the events expected are all that the stream has, to the horizon
unfoldable pub cases : List Case
cases =
    -- M1: the count. M2: a visit at stamp 0 alone: only value 0 at 0.
    case count ((ev 3 (pos 7) ∷ ev 5 (pos 7) ∷ []) ∷ []) 5 7 (ev 0 (pos 0) ∷ ev 3 (pos 1) ∷ ev 5 (pos 2) ∷ [])
    ∷ case count ((ev 0 (pos 7) ∷ []) ∷ []) 5 4 (ev 0 (pos 0) ∷ [])
    -- M3: last, a=7 at 3, b at 3: none. M4: b at 4: 7.
    ∷ lasting (ev 3 (pos 7) ∷ []) (ev 3 (pos 1) ∷ []) []
    ∷ lasting (ev 3 (pos 7) ∷ []) (ev 4 (pos 1) ∷ []) (ev 4 (pos 7) ∷ [])
    -- M5: a delay of 10 set at 0, b again at 10: fires at 10. M6: b at 9 with no a event: no firing at 10.
    ∷ delayed (ev 0 (pos 10) ∷ []) (ev 0 (pos 1) ∷ ev 10 (pos 1) ∷ []) (ev 10 (pos 0) ∷ [])
    ∷ delayed (ev 0 (pos 10) ∷ []) (ev 0 (pos 1) ∷ ev 9 (pos 1) ∷ []) []
    -- M7: delay 10 at stamp 3, no set point there: nothing. M8: delay 0 at a set point: nothing.
    ∷ delayed (ev 3 (pos 10) ∷ []) [] []
    ∷ delayed (ev 0 (pos 0) ∷ []) (ev 0 (pos 1) ∷ []) []
    -- M9, as amended: −7 div 2 is −4, rem 1; and 7 div −2 is −4, rem −1
    ∷ binary (calc div) (ev 0 (negsuc 6) ∷ ev 1 (pos 7) ∷ []) (ev 0 (pos 2) ∷ ev 1 (negsuc 1) ∷ []) (ev 0 (negsuc 3) ∷ ev 1 (negsuc 3) ∷ [])
    ∷ binary (calc rem) (ev 0 (negsuc 6) ∷ ev 1 (pos 7) ∷ []) (ev 0 (pos 2) ∷ ev 1 (negsuc 1) ∷ []) (ev 0 (pos 1) ∷ ev 1 (negsuc 0) ∷ [])
    -- M10: the least value div −1: none; rem −1: 0
    ∷ binary (calc div) (ev 0 least ∷ []) (ev 0 (negsuc 0) ∷ []) []
    ∷ binary (calc rem) (ev 0 least ∷ []) (ev 0 (negsuc 0) ∷ []) (ev 0 (pos 0) ∷ [])
    -- M11: 3,037,000,499 squared is 9,223,372,030,926,249,001. M12: 3,037,000,500 squared: none.
    ∷ binary (calc mul) (ev 0 (pos 3037000499) ∷ []) (ev 0 (pos 3037000499) ∷ []) (ev 0 (pos 9223372030926249001) ∷ [])
    ∷ binary (calc mul) (ev 0 (pos 3037000500) ∷ []) (ev 0 (pos 3037000500) ∷ []) []
    -- a delay that b sets anew fires at the later due stamp alone; a value below 0 fires nothing
    ∷ delayed (ev 0 (pos 10) ∷ ev 5 (pos 7) ∷ []) (ev 0 (pos 1) ∷ ev 5 (pos 1) ∷ []) (ev 12 (pos 0) ∷ [])
    ∷ delayed (ev 0 (negsuc 2) ∷ []) (ev 0 (pos 1) ∷ []) []
    -- last of itself: taken, never an event
    ∷ case (last 0 1 ∷ input ∷ []) ([] ∷ (ev 0 (pos 1) ∷ ev 2 (pos 1) ∷ []) ∷ []) 0 4 []
    -- keep: only where b is not 0. merge: a's event, or else b's.
    ∷ binary keep (ev 0 (pos 5) ∷ ev 1 (pos 6) ∷ ev 2 (pos 7) ∷ []) (ev 0 (pos 1) ∷ ev 1 (pos 0) ∷ ev 3 (pos 1) ∷ []) (ev 0 (pos 5) ∷ [])
    ∷ binary merge (ev 0 (pos 5) ∷ ev 1 (pos 6) ∷ []) (ev 1 (pos 8) ∷ ev 2 (pos 9) ∷ []) (ev 0 (pos 5) ∷ ev 1 (pos 6) ∷ ev 2 (pos 9) ∷ [])
    -- the operators of one argument
    ∷ unary time (ev 3 (pos 7) ∷ []) (ev 3 (pos 3) ∷ [])
    ∷ unary (set (pos 9)) (ev 3 (pos 7) ∷ []) (ev 3 (pos 9) ∷ [])
    ∷ unary (plus (negsuc 0)) (ev 2 least ∷ ev 3 (pos 7) ∷ []) (ev 3 (pos 6) ∷ [])
    ∷ unary neg (ev 2 least ∷ ev 3 (pos 7) ∷ []) (ev 3 (negsuc 6) ∷ [])
    -- arithmetic: only if both have an event; nothing outside the value range, nothing for a zero divisor
    ∷ binary (calc add) (ev 1 (pos 5) ∷ ev 2 (pos 5) ∷ ev 3 greatest ∷ []) (ev 0 (pos 3) ∷ ev 2 (pos 3) ∷ ev 3 (pos 1) ∷ []) (ev 2 (pos 8) ∷ [])
    ∷ binary (calc sub) (ev 2 (pos 5) ∷ ev 3 least ∷ []) (ev 2 (pos 8) ∷ ev 3 (pos 1) ∷ []) (ev 2 (negsuc 2) ∷ [])
    ∷ binary (calc div) (ev 1 (pos 5) ∷ []) (ev 1 (pos 0) ∷ []) []
    ∷ binary (calc rem) (ev 1 (pos 5) ∷ []) (ev 1 (pos 0) ∷ []) []
    -- comparisons give 1 or 0
    ∷ binary (calc lt) (ev 1 (pos 1) ∷ ev 2 (pos 2) ∷ ev 3 (pos 3) ∷ []) (ev 1 (pos 2) ∷ ev 2 (pos 2) ∷ ev 3 (pos 2) ∷ []) (ev 1 (pos 1) ∷ ev 2 (pos 0) ∷ ev 3 (pos 0) ∷ [])
    ∷ binary (calc le) (ev 1 (pos 1) ∷ ev 2 (pos 2) ∷ ev 3 (pos 3) ∷ []) (ev 1 (pos 2) ∷ ev 2 (pos 2) ∷ ev 3 (pos 2) ∷ []) (ev 1 (pos 1) ∷ ev 2 (pos 1) ∷ ev 3 (pos 0) ∷ [])
    ∷ binary (calc eq) (ev 1 (pos 1) ∷ ev 2 (pos 2) ∷ ev 3 (pos 3) ∷ []) (ev 1 (pos 2) ∷ ev 2 (pos 2) ∷ ev 3 (pos 2) ∷ []) (ev 1 (pos 0) ∷ ev 2 (pos 1) ∷ ev 3 (pos 0) ∷ [])
    -- a signal form: none before both have had an event; at one stamp both, the values there
    ∷ signaled add (ev 3 (pos 7) ∷ []) (ev 5 (pos 10) ∷ []) (ev 5 (pos 17) ∷ [])
    ∷ signaled add (ev 2 (pos 1) ∷ ev 4 (pos 5) ∷ []) (ev 4 (pos 10) ∷ []) (ev 4 (pos 15) ∷ [])
    -- a zero divisor gives none and is still the latest value; so with a result outside the range, not made up for later
    ∷ signaled div (ev 1 (pos 8) ∷ ev 4 (pos 9) ∷ []) (ev 2 (pos 0) ∷ ev 3 (pos 2) ∷ []) (ev 3 (pos 4) ∷ ev 4 (pos 4) ∷ [])
    ∷ signaled add (ev 1 greatest ∷ []) (ev 1 (pos 1) ∷ ev 3 (pos 0) ∷ []) (ev 3 greatest ∷ [])
    -- its quotients go down too, and its remainders have the divisor's sign: −7 by 2, then by −2
    ∷ signaled div (ev 1 (negsuc 6) ∷ []) (ev 1 (pos 2) ∷ ev 2 (negsuc 1) ∷ []) (ev 1 (negsuc 3) ∷ ev 2 (pos 3) ∷ [])
    ∷ signaled rem (ev 1 (negsuc 6) ∷ []) (ev 1 (pos 2) ∷ ev 2 (negsuc 1) ∷ []) (ev 1 (pos 1) ∷ ev 2 (negsuc 0) ∷ [])
    -- an argument whose own result is missing keeps its older value
    ∷ case (input ∷ one (plus (pos 1)) 0 ∷ input ∷ signal add 1 2 ∷ []) ((ev 1 (pos 5) ∷ ev 3 greatest ∷ []) ∷ [] ∷ (ev 3 (pos 10) ∷ []) ∷ []) 3 6 (ev 3 (pos 16) ∷ [])
    -- both arguments one stream; a comparison at every change of either
    ∷ case (input ∷ signal mul 0 0 ∷ []) ((ev 1 (pos 3) ∷ ev 2 (negsuc 3) ∷ []) ∷ []) 1 4 (ev 1 (pos 9) ∷ ev 2 (pos 16) ∷ [])
    ∷ signaled lt (ev 1 (pos 5) ∷ ev 2 (pos 4) ∷ []) (ev 1 (pos 5) ∷ ev 3 (pos 3) ∷ []) (ev 1 (pos 0) ∷ ev 2 (pos 1) ∷ ev 3 (pos 0) ∷ [])
    -- a signal form, and the same spelled out
    ∷ spelled_out 2
    ∷ spelled_out 7
    -- a window: all so far while fewer than k, then the latest k, this one included
    ∷ windowed wsum 3 (ev 0 (pos 1) ∷ ev 1 (pos 2) ∷ ev 2 (pos 3) ∷ ev 3 (pos 4) ∷ ev 4 (pos 5) ∷ []) (ev 0 (pos 1) ∷ ev 1 (pos 3) ∷ ev 2 (pos 6) ∷ ev 3 (pos 9) ∷ ev 4 (pos 12) ∷ [])
    ∷ windowed wmin 2 (ev 1 (pos 5) ∷ ev 2 (negsuc 2) ∷ ev 9 (pos 4) ∷ ev 10 (pos 4) ∷ []) (ev 1 (pos 5) ∷ ev 2 (negsuc 2) ∷ ev 9 (negsuc 2) ∷ ev 10 (pos 4) ∷ [])
    ∷ windowed wmax 2 (ev 1 (pos 5) ∷ ev 2 (negsuc 2) ∷ ev 9 (pos 4) ∷ ev 10 (pos 4) ∷ []) (ev 1 (pos 5) ∷ ev 2 (pos 5) ∷ ev 9 (pos 4) ∷ ev 10 (pos 4) ∷ [])
    -- a sum outside the range gives none, and the window goes on over a's events
    ∷ windowed wsum 2 (ev 1 greatest ∷ ev 2 (pos 1) ∷ ev 3 (negsuc 4) ∷ []) (ev 1 greatest ∷ ev 3 (negsuc 3) ∷ [])
    -- the sum is over whole numbers: 2^63 − 1 twice, then −2^63 twice
    ∷ windowed wsum 4 (ev 1 greatest ∷ ev 2 greatest ∷ ev 3 least ∷ ev 4 least ∷ []) (ev 1 greatest ∷ ev 3 (pos 9223372036854775806) ∷ ev 4 (negsuc 1) ∷ [])
    ∷ windowed wsum 1 (ev 1 greatest ∷ ev 2 least ∷ []) (ev 1 greatest ∷ ev 2 least ∷ [])
    -- an event that a does not have is none of its latest
    ∷ case (input ∷ one (plus (pos 1)) 0 ∷ window wmax (pos 2) 1 ∷ []) ((ev 1 (pos 7) ∷ ev 2 greatest ∷ ev 3 (pos 5) ∷ []) ∷ []) 2 5 (ev 1 (pos 8) ∷ ev 3 (pos 8) ∷ [])
    -- nil has no event, unit one of value 0 at stamp 0
    ∷ case (nil ∷ []) [] 0 4 []
    ∷ case (unit ∷ []) [] 0 4 (ev 0 (pos 0) ∷ [])
    ∷ []

-- a case that goes on: the events expected are those below `until`, and more follow for ever
unfoldable pub beginnings : List Case
beginnings =
    -- a delay that sets itself again at its own firing
    case ticking [] 3 40 (ev 7 (pos 0) ∷ ev 14 (pos 0) ∷ ev 21 (pos 0) ∷ ev 28 (pos 0) ∷ ev 35 (pos 0) ∷ [])
    ∷ []

-- Cases in which an event may be missing below `until`, and at how many stamps for each of the two reasons
pub record Gap : Type 0 where
  pub case : Case
  pub outside : ℕ
  pub divisors : ℕ

abbrev pub gap : Case → (outside divisors : ℕ) → Gap
gap c o d = record { case = c; outside = o; divisors = d }

abbrev pub lacking : Reason → Gap → ℕ
lacking Outside g = g.outside
lacking ZeroDivisor g = g.divisors

unfoldable pub gaps : List Gap
gaps =
    -- "Where both could be said, the zero divisor is": the least value by 0. By −1 its quotient is outside the range, its
    -- remainder 0.
    gap (binary (calc div) (ev 0 least ∷ ev 1 least ∷ ev 2 (pos 6) ∷ []) (ev 0 (pos 0) ∷ ev 1 (negsuc 0) ∷ ev 2 (pos 2) ∷ []) (ev 2 (pos 3) ∷ [])) 1 1
    ∷ gap (binary (calc rem) (ev 0 least ∷ ev 1 least ∷ []) (ev 0 (pos 0) ∷ ev 1 (negsuc 0) ∷ []) (ev 1 (pos 0) ∷ [])) 0 1
    ∷ gap (signaled div (ev 1 least ∷ []) (ev 1 (pos 0) ∷ ev 3 (pos 0) ∷ ev 4 (negsuc 0) ∷ []) []) 1 2
    ∷ gap (signaled rem (ev 1 least ∷ []) (ev 1 (pos 0) ∷ ev 4 (negsuc 0) ∷ []) (ev 4 (pos 0) ∷ [])) 0 1
    -- the rest of the arithmetic
    ∷ gap (unary (plus (negsuc 0)) (ev 2 least ∷ ev 3 (pos 7) ∷ []) (ev 3 (pos 6) ∷ [])) 1 0
    ∷ gap (unary neg (ev 2 least ∷ ev 3 greatest ∷ []) (ev 3 (negsuc 9223372036854775806) ∷ [])) 1 0
    ∷ gap (binary (calc sub) (ev 0 least ∷ ev 1 greatest ∷ []) (ev 0 (pos 1) ∷ ev 1 (pos 1) ∷ []) (ev 1 (pos 9223372036854775806) ∷ [])) 1 0
    ∷ gap (windowed wsum 2 (ev 1 greatest ∷ ev 2 (pos 1) ∷ ev 3 (negsuc 4) ∷ []) (ev 1 greatest ∷ ev 3 (negsuc 3) ∷ [])) 1 0
    -- a signal form counts where either argument has an event, not between; spelled out it counts the same
    ∷ gap (signaled mul (ev 1 greatest ∷ ev 4 (pos 1) ∷ []) (ev 2 (pos 2) ∷ ev 3 (pos 3) ∷ []) (ev 4 (pos 3) ∷ [])) 2 0
    ∷ gap (case beside_spelled ((ev 3 greatest ∷ []) ∷ (ev 5 (pos 1) ∷ ev 9 (pos 2) ∷ []) ∷ []) 2 12 []) 2 0
    ∷ gap (case beside_spelled ((ev 3 greatest ∷ []) ∷ (ev 5 (pos 1) ∷ ev 9 (pos 2) ∷ []) ∷ []) 7 12 []) 2 0
    -- where there is nothing to work on, nothing is counted: one argument alone; an argument whose own event is missing
    ∷ gap (binary (calc div) (ev 1 (pos 5) ∷ []) (ev 2 (pos 0) ∷ []) []) 0 0
    ∷ gap (case (input ∷ one (plus (pos 1)) 0 ∷ one (plus (pos 1)) 1 ∷ []) ((ev 1 greatest ∷ ev 2 (pos 9223372036854775806) ∷ []) ∷ []) 2 4 []) 1 0
    -- a comparison always has a value; the others that may have no event are not arithmetic
    ∷ gap (binary (calc lt) (ev 1 least ∷ []) (ev 1 greatest ∷ []) (ev 1 (pos 1) ∷ [])) 0 0
    ∷ gap (signaled eq (ev 1 least ∷ []) (ev 2 greatest ∷ []) (ev 2 (pos 0) ∷ [])) 0 0
    ∷ gap (windowed wmin 2 (ev 1 least ∷ ev 2 least ∷ []) (ev 1 least ∷ ev 2 least ∷ [])) 0 0
    ∷ gap (binary keep (ev 1 (pos 6) ∷ []) (ev 1 (pos 0) ∷ []) []) 0 0
    ∷ []

-- Plans, and whether the cycle test takes them
pub record Verdict : Type 0 where
  pub plan : Plan
  pub taken : Bool

abbrev pub verdict : Plan → Bool → Verdict
verdict p b = record { plan = p; taken = b }

unfoldable pub verdicts : List Verdict
verdicts =
    -- merge of itself: refused. last of itself: taken.
    verdict (two merge 0 0 ∷ []) false
    ∷ verdict (last 0 1 ∷ input ∷ []) true
    -- round by two streams, and by three
    ∷ verdict (one neg 1 ∷ one neg 0 ∷ []) false
    ∷ verdict (input ∷ two (calc add) 0 2 ∷ two merge 0 3 ∷ one time 1 ∷ []) false
    -- the second argument of a last or a delay is not delayed, the first is
    ∷ verdict (input ∷ last 0 1 ∷ []) false
    ∷ verdict (input ∷ delay 0 2 ∷ one time 1 ∷ []) false
    ∷ verdict (input ∷ delay 2 0 ∷ one time 1 ∷ []) true
    -- neither argument of a signal form is delayed
    ∷ verdict (input ∷ signal add 1 0 ∷ []) false
    ∷ verdict (input ∷ signal add 0 1 ∷ []) false
    ∷ verdict (input ∷ last 2 0 ∷ signal add 0 1 ∷ []) true
    -- nor that of a window
    ∷ verdict (window wsum (pos 1) 0 ∷ []) false
    ∷ verdict (input ∷ window wmin (pos 2) 0 ∷ []) true
    ∷ []
