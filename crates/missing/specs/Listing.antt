-- Believe: the lines that the program `missing` prints of a state.
use Rattle.std.specs.Prelude.{ℕ, zero, suc, cond, List, [], ◌∷◌, ◌++◌, eqb}
use Rattle.lines.specs.Form.{ending}
use Rattle.decimal.specs.Decimal.{decimal}
use Rattle.printer.specs.Print.{stream_key}
use Rattle.counts.specs.Missing.{missing_reply}

-- a blank, outside=
abbrev pub outside_key : List ℕ
outside_key = 32 ∷ 111 ∷ 117 ∷ 116 ∷ 115 ∷ 105 ∷ 100 ∷ 101 ∷ 61 ∷ []

-- a blank, zero=
abbrev pub zero_key : List ℕ
zero_key = 32 ∷ 122 ∷ 101 ∷ 114 ∷ 111 ∷ 61 ∷ []

-- a key and a number
unfoldable pub field : List ℕ → ℕ → List ℕ
field key n = key ++ decimal n

-- the line of a stream: s=2 outside=1 zero=3
unfoldable pub counts_text : ℕ → ℕ → ℕ → List ℕ
counts_text stream outside divisors = field stream_key stream ++ (field outside_key outside ++ (field zero_key divisors ++ ending))

-- as much room as is asked for to put one line
abbrev pub counts_room : ℕ
counts_room = 75

-- the lines of the streams from i on, at most k of them: as long as the call gives counts
unfoldable pub listing : ℕ → ℕ → List ℕ → List ℕ
listing zero i state = []
listing (suc k) i state =
    let r = missing_reply i state in
    cond (eqb r.number 0) (counts_text i r.outside r.divisors ++ listing k (suc i) state) []
