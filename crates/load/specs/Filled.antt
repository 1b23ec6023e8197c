-- How: the second pass: the fields of each stream into its record of a cleared state.
use Rattle.std.specs.Prelude.{ℕ, zero, suc, ◌+◌, ◌%◌, List, length, replicate, Result, Ok, Err}
use Rattle.layout.specs.Record.{Raw, Raws, with_num, change, encode, decode, op_f, a_f, b_f, out_f, k_f}
use Rattle.text.specs.declared.Fields.{Fields}
use Rattle.refusal.specs.declared.Refusal.{Refusal}
use Rattle.text.specs.Grammar.{stream, head}

-- a record with a stream's fields
unfoldable pub stored : Fields → Raw → Raw
stored f r = with_num k_f f.k (with_num out_f (f.out % 256) (with_num b_f (f.b % 256) (with_num a_f (f.a % 256) (with_num op_f f.op r))))

-- n streams from a position of the text, from record i on; a refusal ends the pass
abbrev pub next : Result Fields Refusal → ℕ → Raws → (Fields → Raws → Raws) → Raws
next (Ok f) i st rest = rest f (change i (stored f) st)
next (Err r) i st rest = st

unfoldable pub written : List ℕ → ℕ → ℕ → ℕ → Raws → Raws
written s at zero i st = st
written s at (suc n) i st = next (stream s at) i st (λ f u. written s f.next n (i + 1) u)

abbrev pub filled_head : List ℕ → Result (ℕ × ℕ) Refusal → List ℕ → List ℕ
filled_head text (Ok (n, at)) s = encode n (written text at n 0 (decode n (replicate (length s) 0)))
filled_head text (Err r) s = s

-- the state's bytes after the pass; the state has room for so many streams
unfoldable pub filled : ℕ → List ℕ → List ℕ → List ℕ
filled cap text s = filled_head text (head cap text) s
