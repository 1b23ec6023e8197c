-- The lines of records, one record after the other, and how long they are.
use Prim.Native.Nat.{ℕ, zero, suc, ◌+◌, ◌*◌, ◌<◌, ◌≤◌}
use mathlib.Core.Path.{◌≡◌, sym, ap, ◌∙◌}
use mathlib.Core.List.{List, [], ◌∷◌, ◌++◌}
use native.Mathlib.Omega.{arith}
use lib.Dec.{eqb}
use lib.ListN.{length, get_or, drop, length-append, drop_of_length-le}
use lib.Seq.{sets, drop-cons}
use mir.Syntax.{w64}
use mir.Val.{to_z}
use Rattle.le.specs.Bytes.{part}
use Rattle.le.proofs.RoundTrip.{sets_append}
use Rattle.layout.specs.Record.{Raw, no_raw, num, dec_raw, decode, op_f, a_f, b_f, k_f, out_f}
use Rattle.layout.proofs.Laws.{rows_many, record_row}
use Rattle.operators.specs.Operators.{name_of}
use Rattle.decimal.specs.Decimal.{decimal, value_text, most_digits}
use Rattle.decimal.specs.Put.{Put}
use Rattle.decimal.proofs.Puts.{put_then, digits_most, value_most}
use Rattle.names.proofs.Spelled.{name_few}
use Rattle.lines.specs.Form.{value_key, out_key}
use Rattle.text.specs.Grammar.{op_key, first_key, second_key}
use Rattle.render.specs.Render.{bit_text, line, stream_text, opening}
use Rattle.render.proofs.Lengths.{stream_length, opening_length}
use Rattle.writing.specs.Rows.{row_text, rows_text, text_of}

-- ## One record

pub row_length : (r : Raw) → length (row_text r) ≡ 19 + length (name_of (num op_f r)) + length (decimal (num a_f r)) + length (decimal (num b_f r)) + length (value_text (to_z w64 (num k_f r)))
unfolding row_text
row_length r = stream_length (num op_f r) (num a_f r) (num b_f r) (to_z w64 (num k_f r)) (eqb (num out_f r) 1)

-- line by line
pub row_lines : (r : Raw) → length (row_text r) ≡ length (line op_key (name_of (num op_f r))) + (length (line first_key (decimal (num a_f r))) + (length (line second_key (decimal (num b_f r))) + (length (line value_key (value_text (to_z w64 (num k_f r)))) + length (line out_key (bit_text (eqb (num out_f r) 1))))))
unfolding row_text stream_text
row_lines r =
    let o = line out_key (bit_text (eqb (num out_f r) 1)) in
    let v = line value_key (value_text (to_z w64 (num k_f r))) in
    let y = line second_key (decimal (num b_f r)) in
    let x = line first_key (decimal (num a_f r)) in
    let w = line op_key (name_of (num op_f r)) in
    rw (length-append w (x ++ (y ++ (v ++ o))), length-append x (y ++ (v ++ o)), length-append y (v ++ o), length-append v o)

-- whatever a record holds, its lines are short
pub row_few : (r : Raw) → length (row_text r) ≤ 82
row_few r = omega (arith, row_length r, name_few (num op_f r), digits_most most_digits (num a_f r), digits_most most_digits (num b_f r), value_most (to_z w64 (num k_f r)))

-- ## All records

rows_on : (rs : List Raw) (i : ℕ) → i < length rs → rows_text (drop i rs) ≡ row_text (get_or rs i no_raw) ++ rows_text (drop (i + 1) rs)
unfolding rows_text
rows_on rs i h =
    let z : i + 1 ≡ suc i = omega arith in
    ap rows_text (drop-cons rs i no_raw h) ∙ ap (λ (j : ℕ). row_text (get_or rs i no_raw) ++ rows_text (drop j rs)) (sym z)

rows_few : (rs : List Raw) → length (rows_text rs) ≤ length rs * 82
unfolding rows_text
rows_few [] = omega arith
rows_few (r ∷ rs) = rw (length-append (row_text r) (rows_text rs)) (omega (arith, row_few r, rows_few rs))

pub opening_few : (n : ℕ) → length (opening n) ≤ 35
opening_few zero = omega arith
opening_few (suc n) = omega (arith, opening_length (suc n) (omega arith), digits_most most_digits (suc n))

module _ (n : ℕ) (s : List ℕ) where
  -- the lines from record i on
  abbrev pub rest : ℕ → List ℕ
  rest i = rows_text (drop i (decode n s).rows)

  pub rest_few : length (rest 0) ≤ n * 82
  rest_few = omega (arith, rows_few (decode n s).rows, ap (λ (m : ℕ). m * 82) (rows_many n s))

  pub rest_on : (i : ℕ) (p : List ℕ) → i < n → p ≡ part s (i * 256) 256 → rest i ≡ row_text (dec_raw p) ++ rest (i + 1)
  rest_on i p h e =
      rows_on (decode n s).rows i (omega (arith, rows_many n s)) ∙ ap (λ (r : Raw). row_text r ++ rest (i + 1)) (sym (record_row n s p i h e))

  pub rest_length : (i : ℕ) (p : List ℕ) → i < n → p ≡ part s (i * 256) 256 → length (rest i) ≡ length (row_text (dec_raw p)) + length (rest (i + 1))
  rest_length i p h e = ap length (rest_on i p h e) ∙ length-append (row_text (dec_raw p)) (rest (i + 1))

  pub rest_none : (i : ℕ) → n ≤ i → rest i ≡ []
  unfolding rows_text
  rest_none i h = ap rows_text (drop_of_length-le (decode n s).rows {i = i} (omega (arith, rows_many n s)))

  -- a record's lines put, and those behind it to be put
  pub rest_put : (i at q : ℕ) (p out out' all : List ℕ) → i < n → p ≡ part s (i * 256) 256 → Put out at (row_text (dec_raw p)) q out' → sets out at (rest i) ≡ all → sets out' q (rest (i + 1)) ≡ all
  rest_put i at q p out out' all h e x f =
      rw (x.bytes, x.past) (sym (sets_append out at (row_text (dec_raw p)) (rest (i + 1)))) ∙ ap (sets out at) (sym (rest_on i p h e)) ∙ f

  -- the whole text: the first two lines, and those of all records
  pub text_length_is : length (text_of n s) ≡ length (opening n) + length (rest 0)
  unfolding text_of
  text_length_is = length-append (opening n) (rest 0)

  pub text_put : (q r : ℕ) (out out' out'' : List ℕ) → Put out 0 (opening n) q out' → Put out' q (rest 0) r out'' → out'' ≡ sets out 0 (text_of n s)
  unfolding text_of
  text_put q r out out' out'' x y = (put_then x y).bytes
