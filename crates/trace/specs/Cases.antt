-- Cases: lines at the edges of the grammar, and what each reads.
use Rattle.std.specs.Prelude.{ℕ, List, [], ◌∷◌, pos, negsuc, Option, Some, None}
use Prim.Native.Char.{code}
use Prim.Native.String as string
use Rattle.trace.specs.declared.Record.TheVariants.{Reading, Progress}
use Rattle.trace.specs.declared.Record.{Record}

-- a text's bytes
abbrev pub bytes : string.String → List ℕ
bytes string.[] = []
bytes (string.◌∷◌ c s) = code c ∷ bytes s

pub record Case : Type 0 where
  pub text : string.String
  pub reads : Option (Record × ℕ)

abbrev row : string.String → Option (Record × ℕ) → Case
row text reads = record { text = text; reads = reads }

-- with the position past the line; `\n` is byte 10, `\r` a carriage return
abbrev pub cases : List Case
cases =
    row "s=0 t=3 v=7\n" (Some (Reading 0 3 (pos 7), 12)) ∷
    row "s=0 t=3 v=-7\n" (Some (Reading 0 3 (negsuc 6), 13)) ∷
    row "s=0 p=6\n" (Some (Progress 0 6, 8)) ∷
    row "s=999 p=0\n" (Some (Progress 999 0, 10)) ∷
    row "s=1000 p=0\n" None ∷
    row "s=00 p=0\n" None ∷
    row "s=0 t=4294967295 v=0\n" (Some (Reading 0 4294967295 (pos 0), 21)) ∷
    row "s=0 t=4294967296 v=0\n" None ∷
    row "s=0 t=0 v=-9223372036854775808\n" (Some (Reading 0 0 (negsuc 9223372036854775807), 31)) ∷
    row "s=0 t=0 v=9223372036854775808\n" None ∷
    row "s=0 t=0 v=-0\n" None ∷
    row "s=0 p=9999999999\n" (Some (Progress 0 9999999999, 17)) ∷
    row "s=0 p=10000000000\n" None ∷
    row "s=0  p=6\n" None ∷
    row "s=0 p=6\r\n" None ∷
    row "\n" None ∷
    row "s=0 t=3 v=7" None ∷
    row "s=0 p=6" None ∷
    row "s=0 p=6\ns=0 p=7\n" (Some (Progress 0 6, 8)) ∷
    []
