-- Plan texts worked out: the number of each, and the streams that a taken one declares, computed by the checker.
use mathlib.Core.Path.{◌≡◌, refl}
use mathlib.Core.Bool.{true, false}
use mathlib.Core.List.{List, [], ◌∷◌, map}
use Prim.Native.Nat.{ℕ}
use Prim.Native.String.{String, ◌++◌}
use lib.IntN.{pos, negsuc}
use lib.ListN.{replicate}
use Rattle.meaning.specs.Plan.{time, neg, set, plus, add, sub, mul, div, rem, lt, le, eq, calc, keep, merge, Eqn, input, nil, unit, one, two, last, delay, signal, window, wsum, wmin, wmax}
use Rattle.meaning.specs.CycleTest.{acyclic}
use Rattle.machine.specs.State.{Declared}
use Rattle.operators.specs.Operators.{group_of, uses_k, eqn_of}
use Rattle.operators.specs.Rules.{fields_ok}
use Rattle.operators.specs.Windows.{width_ok, windows}
use Rattle.lines.specs.Form.{skip, scan, whole, ended, field, signed, value_line, out_line}
use Rattle.text.specs.Grammar.{name_at, place, number_named, named, op_line, fields_after, stream, head}
use Rattle.text.proofs.Worked.{bytes}
use Rattle.plan.specs.Rules.{all_keep, streams, plan_from, all_widths, windows_ok, number_after, number, declared}

-- ---- texts

pub record Row : Type 0 where
  pub text : String
  pub number : ℕ

abbrev pub row : String → ℕ → Row
row s n = record { text = s; number = n }

-- a plan of one stream, of two
abbrev pub alone : String → String
alone s = "plan=1\nstreams=1\n" ++ s

abbrev pub pair : String → String
pair s = "plan=1\nstreams=2\n" ++ s

abbrev pub joined : List String → String
joined [] = ""
joined (t ∷ ts) = t ++ joined ts

-- an input, and what reads it
abbrev pub input_line : String
input_line = "op=in\na=0\nb=0\nk=0\nout=0\n"

abbrev pub windowed : String → String → String
windowed op k = "op=" ++ (op ++ ("\na=0\nb=0\nk=" ++ (k ++ "\nout=0\n")))

-- ---- what is refused, and with which number

unfoldable pub rows : List Row
rows =
    -- the first faulty line decides: in the opening lines, in a stream's, a line that is missing
    row "\n" 2
    ∷ row "plan=1\n" 2
    ∷ row "plan=1\nstreams=0\n" 3
    ∷ row "plan=1\nstreams=33\n" 3
    ∷ row "plan=1\nstreams=033\n" 2
    ∷ row "plan=1\nstreams=32\n" 2
    ∷ row (pair "op=nil\na=0\nb=0\nk=0\nout=0\n") 2
    ∷ row (pair "op=nil\na=0\nb=0\nk=0\nout=2\nop=f\n") 2
    ∷ row (pair "op=f\na=0\nb=0\nk=0\nout=0\nop=Nil\n") 4
    -- there are eight signal forms
    ∷ row (alone "op=sneg\na=0\nb=0\nk=0\nout=0\n") 4
    ∷ row (alone "op=sadds\na=0\nb=0\nk=0\nout=0\n") 4
    -- form comes before rule 5
    ∷ row (pair "op=nil\na=1\nb=0\nk=0\nout=0\nop=f\n") 4
    ∷ row (alone "op=in\na=0\nb=0\nk=9223372036854775808\nout=0\n") 2
    ∷ row (alone "op=in\na=0\nb=0\nk=0\nout=2\n") 2
    -- 5 an unused field not 0, a used argument not below N, or out=1 on in
    ∷ row (alone "op=nil\na=1\nb=0\nk=0\nout=0\n") 5
    ∷ row (alone "op=time\na=0\nb=999\nk=0\nout=0\n") 5
    ∷ row (alone "op=in\na=0\nb=0\nk=-9223372036854775808\nout=0\n") 5
    ∷ row (pair "op=time\na=2\nb=0\nk=0\nout=0\nop=in\na=0\nb=0\nk=0\nout=0\n") 5
    ∷ row (pair "op=last\na=1\nb=2\nk=0\nout=0\nop=in\na=0\nb=0\nk=0\nout=0\n") 5
    ∷ row (alone "op=in\na=0\nb=0\nk=0\nout=1\n") 5
    ∷ row (pair "op=in\na=0\nb=0\nk=0\nout=0\nop=slt\na=0\nb=0\nk=1\nout=0\n") 5
    ∷ row (pair "op=in\na=0\nb=0\nk=0\nout=0\nop=srem\na=0\nb=2\nk=0\nout=0\n") 5
    -- the windows, like set and plus, use a and k
    ∷ row (pair (input_line ++ "op=wsum\na=2\nb=0\nk=1\nout=0\n")) 5
    ∷ row (pair (input_line ++ "op=wmin\na=0\nb=1\nk=1\nout=0\n")) 5
    -- then 18, a width outside 1 to 64 or a ninth window
    ∷ row (pair (input_line ++ windowed "wsum" "0")) 18
    ∷ row (pair (input_line ++ windowed "wmax" "65")) 18
    ∷ row (pair (input_line ++ windowed "wmax" "-1")) 18
    ∷ row ("plan=1\nstreams=10\n" ++ input_line ++ joined (replicate 9 (windowed "wmin" "1"))) 18
    -- after 5, which another stream breaks, and before 6
    ∷ row (pair (windowed "wsum" "0" ++ "op=nil\na=1\nb=0\nk=0\nout=0\n")) 5
    ∷ row (alone (windowed "wsum" "65")) 18
    ∷ row (alone (windowed "wsum" "1")) 6
    -- then 6, a cycle without a delayed argument: of one stream, of two, by the second argument of a last or a delay
    ∷ row (alone "op=merge\na=0\nb=0\nk=0\nout=0\n") 6
    ∷ row (pair "op=neg\na=1\nb=0\nk=0\nout=0\nop=time\na=0\nb=0\nk=0\nout=0\n") 6
    ∷ row (alone "op=last\na=0\nb=0\nk=0\nout=0\n") 6
    ∷ row (alone "op=delay\na=0\nb=0\nk=0\nout=0\n") 6
    -- and by either argument of a signal form
    ∷ row (alone "op=sadd\na=0\nb=0\nk=0\nout=1\n") 6
    ∷ row (pair "op=in\na=0\nb=0\nk=0\nout=0\nop=seq\na=0\nb=1\nk=0\nout=0\n") 6
    -- 5 before 6, and bytes left over before both
    ∷ row (pair "op=merge\na=0\nb=0\nk=0\nout=0\nop=nil\na=1\nb=0\nk=0\nout=0\n") 5
    ∷ row (alone "op=nil\na=1\nb=0\nk=0\nout=0\n\n") 2
    ∷ row (alone "op=merge\na=0\nb=0\nk=0\nout=0\nop=nil\n") 2
    ∷ []

pub rows_numbered : map (λ r. number 32 (bytes r.text)) rows ≡ map (λ r. r.number) rows
unfolding rows number number_after streams all_keep all_widths windows_ok width_ok windows plan_from acyclic head stream op_line named name_at number_named place fields_after field whole scan ended signed value_line out_line skip fields_ok group_of uses_k eqn_of
rows_numbered = refl

-- 1 text longer than 4,096 bytes, whatever is in it and whatever the room
pub too_long : number 32 (replicate 4097 120) ≡ 1
unfolding number
too_long = refl

pub just_short : number 32 (replicate 4096 120) ≡ 2
unfolding number head skip
just_short = refl

-- ---- what is taken, and the streams that it declares

pub record Taken : Type 0 where
  pub text : String
  pub streams : List Declared

abbrev pub taken : String → List Declared → Taken
taken s ds = record { text = s; streams = ds }

abbrev pub inner : Eqn → Declared
inner e = record { eqn = e; out = false }

abbrev pub outer : Eqn → Declared
outer e = record { eqn = e; out = true }

-- a stream that negates another
abbrev pub negates : String → String
negates a = "op=neg\na=" ++ (a ++ "\nb=0\nk=0\nout=0\n")

unfoldable pub takens : List Taken
takens =
    -- the text of no bytes
    taken "" []
    -- last of itself, and a signal form in a cycle by way of a last's first argument
    ∷ taken (pair "op=last\na=0\nb=1\nk=0\nout=1\nop=in\na=0\nb=0\nk=0\nout=0\n") (outer (last 0 1) ∷ inner input ∷ [])
    ∷ taken ("plan=1\nstreams=3\n" ++ "op=in\na=0\nb=0\nk=0\nout=0\n" ++ "op=last\na=2\nb=0\nk=0\nout=0\n" ++ "op=sadd\na=0\nb=1\nk=0\nout=1\n")
    (inner input ∷ inner (last 2 0) ∷ outer (signal add 0 1) ∷ [])
    -- the widest window, and as many as there can be
    ∷ taken (pair (input_line ++ windowed "wmin" "64")) (inner input ∷ inner (window wmin (pos 64) 0) ∷ [])
    ∷ taken ("plan=1\nstreams=9\n" ++ input_line ++ joined (replicate 8 (windowed "wmin" "1"))) (inner input ∷ replicate 8 (inner (window wmin (pos 1) 0)))
    -- a chain of as many streams as there can be
    ∷ taken ("plan=1\nstreams=32\nop=in\na=0\nb=0\nk=0\nout=0\n" ++ joined (map negates ("0" ∷ "1" ∷ "2" ∷ "3" ∷ "4" ∷ "5" ∷ "6" ∷ "7" ∷ "8" ∷ "9" ∷ "10" ∷ "11" ∷ "12" ∷ "13" ∷ "14" ∷ "15" ∷ "16" ∷ "17" ∷ "18" ∷ "19" ∷ "20" ∷ "21" ∷ "22" ∷ "23" ∷ "24" ∷ "25" ∷ "26" ∷ "27" ∷ "28" ∷ "29" ∷ "30" ∷ [])))
    (inner input ∷ map {A = ℕ} (λ a. inner (one neg a)) (0 ∷ 1 ∷ 2 ∷ 3 ∷ 4 ∷ 5 ∷ 6 ∷ 7 ∷ 8 ∷ 9 ∷ 10 ∷ 11 ∷ 12 ∷ 13 ∷ 14 ∷ 15 ∷ 16 ∷ 17 ∷ 18 ∷ 19 ∷ 20 ∷ 21 ∷ 22 ∷ 23 ∷ 24 ∷ 25 ∷ 26 ∷ 27 ∷ 28 ∷ 29 ∷ 30 ∷ []))
    -- every operator
    ∷ taken
    ("plan=1\nstreams=30\n"
    ++ "op=in\na=0\nb=0\nk=0\nout=0\n"
    ++ "op=nil\na=0\nb=0\nk=0\nout=0\n"
    ++ "op=unit\na=0\nb=0\nk=0\nout=1\n"
    ++ "op=time\na=0\nb=0\nk=0\nout=0\n"
    ++ "op=set\na=1\nb=0\nk=-9223372036854775808\nout=0\n"
    ++ "op=plus\na=2\nb=0\nk=9223372036854775807\nout=0\n"
    ++ "op=neg\na=3\nb=0\nk=0\nout=0\n"
    ++ "op=add\na=4\nb=5\nk=0\nout=0\n"
    ++ "op=sub\na=5\nb=6\nk=0\nout=0\n"
    ++ "op=mul\na=6\nb=7\nk=0\nout=0\n"
    ++ "op=div\na=7\nb=8\nk=0\nout=0\n"
    ++ "op=rem\na=8\nb=9\nk=0\nout=0\n"
    ++ "op=lt\na=9\nb=10\nk=0\nout=0\n"
    ++ "op=le\na=10\nb=11\nk=0\nout=0\n"
    ++ "op=eq\na=11\nb=12\nk=0\nout=0\n"
    ++ "op=keep\na=12\nb=13\nk=0\nout=0\n"
    ++ "op=merge\na=13\nb=14\nk=0\nout=0\n"
    ++ "op=last\na=17\nb=15\nk=0\nout=0\n"
    ++ "op=delay\na=18\nb=16\nk=0\nout=1\n"
    ++ "op=sadd\na=15\nb=16\nk=0\nout=0\n"
    ++ "op=ssub\na=16\nb=19\nk=0\nout=0\n"
    ++ "op=smul\na=20\nb=20\nk=0\nout=0\n"
    ++ "op=sdiv\na=21\nb=0\nk=0\nout=0\n"
    ++ "op=srem\na=22\nb=21\nk=0\nout=0\n"
    ++ "op=slt\na=23\nb=22\nk=0\nout=0\n"
    ++ "op=sle\na=24\nb=23\nk=0\nout=0\n"
    ++ "op=seq\na=25\nb=24\nk=0\nout=1\n"
    ++ "op=wsum\na=26\nb=0\nk=2\nout=1\n"
    ++ "op=wmin\na=27\nb=0\nk=3\nout=0\n"
    ++ "op=wmax\na=28\nb=0\nk=64\nout=1\n")
    (inner input
    ∷ inner nil
    ∷ outer unit
    ∷ inner (one time 0)
    ∷ inner (one (set (negsuc 9223372036854775807)) 1)
    ∷ inner (one (plus (pos 9223372036854775807)) 2)
    ∷ inner (one neg 3)
    ∷ inner (two (calc add) 4 5)
    ∷ inner (two (calc sub) 5 6)
    ∷ inner (two (calc mul) 6 7)
    ∷ inner (two (calc div) 7 8)
    ∷ inner (two (calc rem) 8 9)
    ∷ inner (two (calc lt) 9 10)
    ∷ inner (two (calc le) 10 11)
    ∷ inner (two (calc eq) 11 12)
    ∷ inner (two keep 12 13)
    ∷ inner (two merge 13 14)
    ∷ inner (last 17 15)
    ∷ outer (delay 18 16)
    ∷ inner (signal add 15 16)
    ∷ inner (signal sub 16 19)
    ∷ inner (signal mul 20 20)
    ∷ inner (signal div 21 0)
    ∷ inner (signal rem 22 21)
    ∷ inner (signal lt 23 22)
    ∷ inner (signal le 24 23)
    ∷ outer (signal eq 25 24)
    ∷ outer (window wsum (pos 2) 26)
    ∷ inner (window wmin (pos 3) 27)
    ∷ outer (window wmax (pos 64) 28)
    ∷ [])
    ∷ []

pub takens_taken : map (λ r. number 32 (bytes r.text)) takens ≡ map (λ r. 0) takens
unfolding takens number number_after streams all_keep all_widths windows_ok width_ok windows plan_from acyclic head stream op_line named name_at number_named place fields_after field whole scan ended signed value_line out_line skip fields_ok group_of uses_k eqn_of
takens_taken = refl

pub takens_declared : map (λ r. declared 32 (bytes r.text)) takens ≡ map (λ r. r.streams) takens
unfolding takens declared streams head stream op_line named name_at number_named place fields_after field whole scan ended signed value_line out_line skip eqn_of
takens_declared = refl

-- ---- with room for 64 streams

abbrev opens : String → String
opens n = "plan=1\nstreams=" ++ (n ++ "\n")

-- a chain of as many streams as there can be, and a ring of 40
abbrev numbers : List String
numbers = "0" ∷ "1" ∷ "2" ∷ "3" ∷ "4" ∷ "5" ∷ "6" ∷ "7" ∷ "8" ∷ "9" ∷ "10" ∷ "11" ∷ "12" ∷ "13" ∷ "14" ∷ "15" ∷ "16" ∷ "17" ∷ "18" ∷ "19" ∷ "20" ∷ "21" ∷ "22" ∷ "23" ∷ "24" ∷ "25" ∷ "26" ∷ "27" ∷ "28" ∷ "29" ∷ "30" ∷ "31" ∷ "32" ∷ "33" ∷ "34" ∷ "35" ∷ "36" ∷ "37" ∷ "38" ∷ "39" ∷ "40" ∷ "41" ∷ "42" ∷ "43" ∷ "44" ∷ "45" ∷ "46" ∷ "47" ∷ "48" ∷ "49" ∷ "50" ∷ "51" ∷ "52" ∷ "53" ∷ "54" ∷ "55" ∷ "56" ∷ "57" ∷ "58" ∷ "59" ∷ "60" ∷ "61" ∷ "62" ∷ []

unfoldable pub longer : List Row
longer =
    row (opens "64") 2
    ∷ row (opens "65") 3
    ∷ row (opens "0") 3
    ∷ row (opens "64" ++ (input_line ++ joined (map negates numbers))) 0
    ∷ row (opens "40" ++ (negates "39" ++ joined (map negates ("0" ∷ "1" ∷ "2" ∷ "3" ∷ "4" ∷ "5" ∷ "6" ∷ "7" ∷ "8" ∷ "9" ∷ "10" ∷ "11" ∷ "12" ∷ "13" ∷ "14" ∷ "15" ∷ "16" ∷ "17" ∷ "18" ∷ "19" ∷ "20" ∷ "21" ∷ "22" ∷ "23" ∷ "24" ∷ "25" ∷ "26" ∷ "27" ∷ "28" ∷ "29" ∷ "30" ∷ "31" ∷ "32" ∷ "33" ∷ "34" ∷ "35" ∷ "36" ∷ "37" ∷ "38" ∷ [])))) 6
    ∷ []

pub longer_numbered : map (λ r. number 64 (bytes r.text)) longer ≡ map (λ r. r.number) longer
unfolding longer number number_after streams all_keep all_widths windows_ok width_ok windows plan_from acyclic head stream op_line named name_at number_named place fields_after field whole scan ended signed value_line out_line skip fields_ok group_of uses_k eqn_of
longer_numbered = refl

-- the same text of 33 streams by room
pub by_room : (number 32 (bytes (opens "33")) ≡ 3) × (number 64 (bytes (opens "33")) ≡ 2)
unfolding number number_after streams head stream op_line named name_at number_named place fields_after field whole scan ended signed value_line out_line skip
by_room = (refl, refl)
