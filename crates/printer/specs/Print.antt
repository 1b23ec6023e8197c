-- Believe: the lines that the replay program prints.
use Rattle.std.specs.Prelude.{ℕ, List, [], ◌∷◌, ◌++◌, ℤ}
use Rattle.lines.specs.Form.{ending}
use Rattle.decimal.specs.Decimal.{decimal, value_text}

-- s=
abbrev pub stream_key : List ℕ
stream_key = 115 ∷ 61 ∷ []

-- a blank, t=
abbrev pub stamp_key : List ℕ
stamp_key = 32 ∷ 116 ∷ 61 ∷ []

-- a blank, v=
abbrev pub value_key : List ℕ
value_key = 32 ∷ 118 ∷ 61 ∷ []

-- refused=
abbrev pub refused_key : List ℕ
refused_key = 114 ∷ 101 ∷ 102 ∷ 117 ∷ 115 ∷ 101 ∷ 100 ∷ 61 ∷ []

-- "`s` is the output, `t` the stamp, `v` the value": s=5 t=3 v=1
unfoldable pub event_text : ℕ → ℕ → ℤ → List ℕ
event_text stream stamp value =
    stream_key ++ (decimal stream ++ (stamp_key ++ (decimal stamp ++ (value_key ++ (value_text value ++ ending)))))

-- refused=16
unfoldable pub refused_text : ℕ → List ℕ
refused_text number = refused_key ++ (decimal number ++ ending)

-- as much room as is asked for to put one line
abbrev pub event_room : ℕ
event_room = 67

abbrev pub refused_room : ℕ
refused_room = 28
