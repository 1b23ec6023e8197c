-- Cases: plan texts, one for each way to be wrong, and the number, line and stream of each.
use Rattle.std.specs.Prelude.{ℕ, zero, suc, List, [], ◌∷◌}
use Prim.Native.Char.{code}
use Prim.Native.String as string
use Rattle.faults.specs.declared.Fault.{Fault}
use Rattle.faults.specs.Faults.{fault}

-- a text's bytes
abbrev pub bytes : string.String → List ℕ
bytes string.[] = []
bytes (string.◌∷◌ c s) = code c ∷ bytes s

pub record Case : Type 0 where
  pub text : string.String
  pub fault : Fault

abbrev row : string.String → ℕ → ℕ → ℕ → Case
row text number line stream = record { text = text; fault = fault number line stream }

-- a plan of one stream, of two, of three
abbrev alone : string.String → string.String
alone s = string.◌++◌ "plan=1\nstreams=1\n" s

abbrev pair : string.String → string.String
pair s = string.◌++◌ "plan=1\nstreams=2\n" s

abbrev three : string.String → string.String
three s = string.◌++◌ "plan=1\nstreams=3\n" s

abbrev times : ℕ → string.String → string.String
times zero s = ""
times (suc n) s = string.◌++◌ s (times n s)

-- a plan of so many streams: an input, eight windows of it, and others
abbrev eight : string.String → string.String → string.String
eight n s =
    string.◌++◌ "plan=1\nstreams=" (string.◌++◌ n (string.◌++◌ "\nop=in\na=0\nb=0\nk=0\nout=0\n" (string.◌++◌ (times 8 "op=wmax\na=0\nb=0\nk=1\nout=0\n") s)))

-- stream 0 reads a cycle of streams 1 and 2 and is not on it
abbrev pub beside_cycle : string.String
beside_cycle = three "op=neg\na=1\nb=0\nk=0\nout=0\nop=neg\na=2\nb=0\nk=0\nout=0\nop=time\na=1\nb=0\nk=0\nout=1\n"

abbrev pub cases : List Case
cases =
    -- taken
    row (alone "op=in\na=0\nb=0\nk=0\nout=0\n") 0 0 0
    ∷ row "" 0 0 0
    -- the first two lines
    ∷ row "\n" 2 1 0
    ∷ row "plan=2\nstreams=1\n" 2 1 0
    ∷ row "plan=1\n" 2 2 0
    ∷ row "plan=1\nstreams=01\n" 2 2 0
    ∷ row "plan=1\nstreams=0\n" 3 2 0
    ∷ row "plan=1\nstreams=33\n" 3 2 0
    -- a stream's lines: each in turn, a line that is missing, the last line's ending byte
    ∷ row (alone "op=In\n") 2 3 0
    ∷ row (alone "op=in\nb=0\n") 2 4 0
    ∷ row (alone "op=in\na=0\nb=1000\n") 2 5 0
    ∷ row (alone "op=in\na=0\nb=0\nk=-0\n") 2 6 0
    ∷ row (alone "op=in\na=0\nb=0\nk=0\nout=2\n") 2 7 0
    ∷ row (alone "op=in\na=0\nb=0\nk=0\nout=0") 2 7 0
    ∷ row (pair "op=in\na=0\nb=0\nk=0\nout=0\n") 2 8 1
    ∷ row (pair "op=in\na=0\nb=0\nk=0\nout=0\nop=foo\n") 4 8 1
    -- bytes left over
    ∷ row (alone "op=in\na=0\nb=0\nk=0\nout=0\n\n") 2 8 0
    ∷ row (pair "op=in\na=0\nb=0\nk=0\nout=0\nop=in\na=0\nb=0\nk=0\nout=0\nop=in\n") 2 13 0
    -- rule 5: the first field of the first stream, after the form of all lines
    ∷ row (alone "op=nil\na=1\nb=1\nk=1\nout=0\n") 5 4 0
    ∷ row (pair "op=add\na=0\nb=7\nk=0\nout=0\nop=add\na=7\nb=0\nk=0\nout=0\n") 5 5 0
    ∷ row (pair "op=in\na=0\nb=0\nk=0\nout=0\nop=neg\na=0\nb=0\nk=1\nout=0\n") 5 11 1
    ∷ row (alone "op=in\na=0\nb=0\nk=0\nout=1\n") 5 7 0
    ∷ row (pair "op=in\na=0\nb=0\nk=0\nout=1\nop=foo\n") 4 8 1
    -- rule 18, between 5 and 6: the first width outside 1 to 64, or else the ninth window
    ∷ row (pair "op=in\na=0\nb=0\nk=0\nout=0\nop=wsum\na=0\nb=0\nk=1\nout=0\n") 0 0 0
    ∷ row (pair "op=in\na=0\nb=0\nk=0\nout=0\nop=wsum\na=0\nb=0\nk=0\nout=0\n") 18 11 1
    ∷ row (pair "op=in\na=0\nb=0\nk=0\nout=0\nop=wmin\na=0\nb=0\nk=65\nout=0\n") 18 11 1
    ∷ row (pair "op=in\na=0\nb=0\nk=0\nout=0\nop=wmax\na=0\nb=0\nk=-1\nout=0\n") 18 11 1
    ∷ row (eight "9" "") 0 0 0
    ∷ row (eight "10" "op=wmin\na=0\nb=0\nk=64\nout=0\n") 18 48 9
    ∷ row (eight "11" "op=wmin\na=0\nb=0\nk=64\nout=0\nop=wsum\na=0\nb=0\nk=0\nout=0\n") 18 56 10
    ∷ row (alone "op=wsum\na=0\nb=1\nk=65\nout=0\n") 5 5 0
    ∷ row (alone "op=wsum\na=0\nb=0\nk=65\nout=0\n") 18 6 0
    ∷ row (alone "op=wsum\na=0\nb=0\nk=64\nout=0\n") 6 3 0
    -- rule 6: the lowest stream on a cycle
    ∷ row (alone "op=merge\na=0\nb=0\nk=0\nout=0\n") 6 3 0
    ∷ row beside_cycle 6 8 1
    ∷ []
