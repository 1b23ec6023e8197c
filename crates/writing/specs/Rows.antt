-- How: the text of a state's records, whatever they hold.
use Rattle.std.specs.Prelude.{ℕ, List, [], ◌∷◌, ◌++◌, eqb}
use Rattle.std.specs.Int.{w64}
use Rattle.std.proofs.Common.{to_z}
use Rattle.layout.specs.Record.{Raw, num, decode, op_f, a_f, b_f, k_f, out_f}
use Rattle.render.specs.Render.{stream_text, opening}

-- the five lines of a record
unfoldable pub row_text : Raw → List ℕ
row_text r = stream_text (num op_f r) (num a_f r) (num b_f r) (to_z w64 (num k_f r)) (eqb (num out_f r) 1)

unfoldable pub rows_text : List Raw → List ℕ
rows_text [] = []
rows_text (r ∷ rs) = row_text r ++ rows_text rs

-- the text of the first n records
unfoldable pub text_of : ℕ → List ℕ → List ℕ
text_of n s = opening n ++ rows_text (decode n s).rows
