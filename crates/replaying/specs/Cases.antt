-- Cases: what is printed of events and of the numbers of offers and lines, worked out.
use Rattle.std.specs.Prelude.{ℕ, List, [], ◌∷◌, pos, negsuc, None}
use Prim.Native.String.{String}
use Rattle.printer.specs.Print.{event_text}
use Rattle.replaying.specs.Replay.{refusal}
use Rattle.replaying.specs.Whole.{line_text}

pub record Case : Type 0 where
  pub printed : List ℕ
  pub text : String

abbrev row : List ℕ → String → Case
row printed text = record { printed = printed; text = text }

abbrev pub cases : List Case
cases =
    row (event_text 5 0 (pos 0)) "s=5 t=0 v=0\n" ∷
    row (event_text 5 3 (pos 1)) "s=5 t=3 v=1\n" ∷
    row (event_text 31 4294967295 (negsuc 9223372036854775807)) "s=31 t=4294967295 v=-9223372036854775808\n" ∷
    row (refusal 0) "" ∷
    row (refusal 7) "refused=7\n" ∷
    row (refusal 10) "refused=10\n" ∷
    row (line_text None []) "refused=16\n" ∷
    []
