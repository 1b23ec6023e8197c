-- Lines of plan text worked out: what reading them finds, computed by the checker.
use mathlib.Core.Path.{◌≡◌, refl}
use mathlib.Core.List.{List, [], ◌∷◌, map}
use Prim.Native.Nat.{ℕ}
use Prim.Native.Char.{code}
use Prim.Native.String.{String, [] as []ᵗ, ◌∷◌ as ◌∷ᵗ◌}
use Rattle.lines.specs.Form.{skip, scan, whole, ended, field, signed, value_line, out_line}
use Rattle.std.specs.Prelude.{Result, Ok, Err}
use Rattle.refusal.specs.declared.Refusal.{Refusal}
use Rattle.refusal.specs.declared.Refusal.TheVariants.{TextForm, TextStreams, TextOperator}
use Rattle.text.specs.declared.Fields.{Fields}
use Rattle.text.specs.Grammar.{name_at, place, number_named, named, op_line, fields_after, stream, head}

-- the bytes of a text; all its characters here are of one byte
abbrev pub bytes : String → List ℕ
bytes []ᵗ = []
bytes (c ∷ᵗ s) = code c ∷ bytes s

-- ---- the first two lines

pub record Opening : Type 0 where
  pub text : String
  pub found : Result (ℕ × ℕ) Refusal

abbrev opening : String → Result (ℕ × ℕ) Refusal → Opening
opening s h = record { text = s; found = h }

unfoldable pub openings : List Opening
openings =
    -- the text of no bytes, and no other, announces no streams
    opening "" (Ok (0, 0))
    ∷ opening "\n" (Err TextForm)
    ∷ opening "plan=1\nstreams=1\n" (Ok (1, 17))
    ∷ opening "plan=1\nstreams=32\nop=nil\n" (Ok (32, 18))
    -- 3 streams 0 or above the capacity, whatever comes after it
    ∷ opening "plan=1\nstreams=0\n" (Err TextStreams)
    ∷ opening "plan=1\nstreams=33\n" (Err TextStreams)
    ∷ opening "plan=1\nstreams=999\nop=Nil" (Err TextStreams)
    -- the form of the line comes before
    ∷ opening "plan=1\nstreams=00\n" (Err TextForm)
    ∷ opening "plan=1\nstreams=033\n" (Err TextForm)
    ∷ opening "plan=1\nstreams=1000\n" (Err TextForm)
    ∷ opening "plan=1\nstreams=33" (Err TextForm)
    ∷ opening "plan=1\nstreams=-1\n" (Err TextForm)
    ∷ opening "plan=1\nstreams= 1\n" (Err TextForm)
    ∷ opening "plan=1\nstreams=\n" (Err TextForm)
    ∷ opening "plan=1\nstream=1\n" (Err TextForm)
    ∷ opening "plan=1\n" (Err TextForm)
    ∷ opening "plan=2\nstreams=1\n" (Err TextForm)
    ∷ opening "plan=01\nstreams=1\n" (Err TextForm)
    ∷ opening "plan=1\r\nstreams=1\n" (Err TextForm)
    ∷ opening "streams=1\nplan=1\n" (Err TextForm)
    ∷ []

pub openings_read : map (λ r. head 32 (bytes r.text)) openings ≡ map (λ r. r.found) openings
unfolding openings head field whole scan ended skip
openings_read = refl

-- ---- a stream's five lines

pub record Row : Type 0 where
  pub text : String
  pub found : Result Fields Refusal

abbrev row : String → Result Fields Refusal → Row
row s l = record { text = s; found = l }

unfoldable pub rows : List Row
rows =
    row "op=set\na=12\nb=0\nk=-9223372036854775808\nout=1\n" (Ok (record { op = 5; a = 12; b = 0; k = 9223372036854775808; out = 1; next = 45 }))
    ∷ row "op=delay\na=999\nb=10\nk=9223372036854775807\nout=0\nop=" (Ok (record { op = 19; a = 999; b = 10; k = 9223372036854775807; out = 0; next = 48 }))
    ∷ row "op=wmax\na=1\nb=0\nk=64\nout=0\n" (Ok (record { op = 30; a = 1; b = 0; k = 64; out = 0; next = 27 }))
    -- 4 a name of one to five small letters that is no operator, whatever comes after it
    ∷ row "op=f\n" (Err TextOperator)
    ∷ row "op=input\n" (Err TextOperator)
    ∷ row "op=wavg\n" (Err TextOperator)
    ∷ row "op=nils\na=0\nb=0\nk=0\nout=2\n" (Err TextOperator)
    -- any other fault of an op line is 2
    ∷ row "op=f" (Err TextForm)
    ∷ row "op=inputs\n" (Err TextForm)
    ∷ row "op=Nil\n" (Err TextForm)
    ∷ row "op=ni1\n" (Err TextForm)
    ∷ row "op=nil \n" (Err TextForm)
    ∷ row "op=\n" (Err TextForm)
    ∷ row "po=f\n" (Err TextForm)
    -- wrong keys, keys in another order, missing lines
    ∷ row "op=nil\nb=0\na=0\nk=0\nout=0\n" (Err TextForm)
    ∷ row "op=nil\na=0\nb=0\nout=0\nk=0\n" (Err TextForm)
    ∷ row "op=nil\na=0\nc=0\nk=0\nout=0\n" (Err TextForm)
    ∷ row "op=nil\na=0\nb=0\nl=0\nout=0\n" (Err TextForm)
    ∷ row "op=nil\na=0\nb=0\nk=0\nouts=0\n" (Err TextForm)
    ∷ row "op=nil\na=0\nb=0\nout=0\n" (Err TextForm)
    ∷ row "op=nil\na=0\nb=0\nk=0\nout=0" (Err TextForm)
    -- numbers: leading zeros, digits, the minus sign, the ranges of k and out
    ∷ row "op=nil\na=00\nb=0\nk=0\nout=0\n" (Err TextForm)
    ∷ row "op=nil\na=1000\nb=0\nk=0\nout=0\n" (Err TextForm)
    ∷ row "op=nil\na=0\nb=-1\nk=0\nout=0\n" (Err TextForm)
    ∷ row "op=nil\na=0\nb=0\nk=-0\nout=0\n" (Err TextForm)
    ∷ row "op=nil\na=0\nb=0\nk=\nout=0\n" (Err TextForm)
    ∷ row "op=in\na=0\nb=0\nk=9223372036854775808\nout=0\n" (Err TextForm)
    ∷ row "op=in\na=0\nb=0\nk=-9223372036854775809\nout=0\n" (Err TextForm)
    ∷ row "op=nil\na=0\nb=0\nk=0\nout=2\n" (Err TextForm)
    ∷ []

pub rows_read : map (λ r. stream (bytes r.text) 0) rows ≡ map (λ r. r.found) rows
unfolding rows stream op_line named name_at number_named place fields_after field whole scan ended signed value_line out_line skip
rows_read = refl
