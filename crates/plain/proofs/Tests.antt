-- The two tests for one event: nobody waits for it exactly if its stamp lies below the least waiting bound.
use Prim.Native.Nat.{ℕ, ◌+◌, ◌*◌, ◌≤◌, ◌<◌, min}
use mathlib.Core.Path.{◌≡◌, refl, sym, ap, ◌∙◌}
use mathlib.Core.Bool.{Bool, true, false, cond}
use mathlib.Core.List.{List}
use native.Mathlib.Omega.{arith}
use borrow.Rule.Slice.PartMut.{mid_of}
use native.Mathlib.Decide.{dec_lt}
use borrow.Author.Tests.{leb-true, leb-false}
use lib.Dec.{leb, eqb}
use lib.ListN.{set}
use lib.Seq.{set-get_or}
use Rattle.meaning.specs.Events.{horizon}
use Rattle.meaning.proofs.Tests.{is_true}
use Rattle.machine.specs.Step.{least_reader}
use Rattle.machine.specs.Waiting.{Reader, SomeReaderWaits}
use Rattle.machine.proofs.Waiting.{space_test}
use Rattle.le.specs.Bytes.{part}
use Rattle.machine.specs.State.{room, cell_at}
use Rattle.layout.specs.Record.{Raw, Raws, no_raw, dec_raw, decode, row_at, change, num, out_f, count_f, bound_f, next_f}
use Rattle.layout.proofs.Laws.{record_row, row_mid}
use Rattle.encoding.specs.Back.{state_of}
use Rattle.queue.specs.Queue.{below, shed, released}
use Rattle.queue.proofs.Drops.{release_none}
use Rattle.readers.specs.Step.{reads_row, least_row, waiting_row, released_row}
use Rattle.readers.proofs.Leaves.{waiting_le}
use Rattle.encoding.proofs.Cells.{state_length_lem}
use Rattle.readers.proofs.States.{least_state, row_bound, row_reader, row_other}
use Rattle.plain.specs.Free.{waits_row, uncollected_row, held_in, free_in}

-- ---- one record

-- no reader before record i waits
abbrev pub NoneBefore : (n : ℕ) → List ℕ → (s t i : ℕ) → Type 0
NoneBefore n p s t i = (r : ℕ) → r < i → Reader (state_of n p) s r → t < (cell_at (state_of n p) r).bound

-- record i lies in q
module _ (s t n : ℕ) (p q : List ℕ) (i : ℕ) (h : i < n) (own : q ≡ part p (i * 256) 256) where
  pub one_waits : waits_row s t (dec_raw q) ≡ true → SomeReaderWaits (state_of n p) s t
  one_waits e = go (reads_row s (dec_raw q)) refl e
    where
      go : (b : Bool) → reads_row s (dec_raw q) ≡ b → cond b (leb (num bound_f (dec_raw q)) t) false ≡ true → SomeReaderWaits (state_of n p) s t
      go true f l = let x = leb-true (num bound_f (dec_raw q)) t l in let y = row_bound s n p q i h own in (i, row_reader s n p q i h own f, omega arith)
      go false f l = absurd (is_true false l)

  pub none_more : NoneBefore n p s t i → waits_row s t (dec_raw q) ≡ false → NoneBefore n p s t (i + 1)
  none_more inv e r l k = go (dec_lt r i)
    where
      here : (b : Bool) → reads_row s (dec_raw q) ≡ b → cond b (leb (num bound_f (dec_raw q)) t) false ≡ false → Reader (state_of n p) s i → t < (cell_at (state_of n p) i).bound
      here true f l k = let x = leb-false (num bound_f (dec_raw q)) t l in let y = row_bound s n p q i h own in omega arith
      here false f l k = absurd (row_other s n p q i h own f k)

      go : Dec (r < i) → t < (cell_at (state_of n p) r).bound
      go (yes d) = inv r d k
      go (no d) = let f : r ≡ i = omega arith in rw f (here (reads_row s (dec_raw q)) refl e (rw f at k))

-- after all records
pub none_waits : (s t n i : ℕ) (p : List ℕ) → n ≤ i → NoneBefore n p s t i → SomeReaderWaits (state_of n p) s t → ⊥
none_waits s t n i p h inv x =
    let m = state_length_lem n p in
    let l = x.1.0 in
    let y = inv x.0 (omega arith) x.1 in
    let z = x.2 in
    omega arith

-- ---- one event

module _ (n : ℕ) (p : List ℕ) (s t : ℕ) (h : t < horizon) where
  -- a reader waits
  pub reader_waits : SomeReaderWaits (state_of n p) s t → least_row s (decode n p).rows ≤ t
  reader_waits x = let y = (space_test.holds (state_of n p) s).enough t h x in let e = least_state s n p in omega arith

  -- none does
  pub no_reader : (SomeReaderWaits (state_of n p) s t → ⊥) → t < least_row s (decode n p).rows
  no_reader x = go (dec_lt t (least_reader s (state_of n p)))
    where
      go : Dec (t < least_reader s (state_of n p)) → t < least_row s (decode n p).rows
      go (yes l) = let e = least_state s n p in omega arith
      go (no l) = absurd (x ((space_test.holds (state_of n p) s).needed t h (omega arith)))

-- with collection
module _ (least t : ℕ) (r : Raw) where
  pub waits_reader : least ≤ t → waiting_row least r ≤ t
  waits_reader h = let x = waiting_le least r in omega arith

  pub waits_collected : uncollected_row t r ≡ true → waiting_row least r ≤ t
  unfolding waiting_row
  waits_collected e = go (eqb (num out_f r) 0) e
    where
      go : (b : Bool) → cond b false (leb (num next_f r) t) ≡ true → cond b least (min (num next_f r) least) ≤ t
      go true q = absurd (is_true false q)
      go false q = let x = leb-true (num next_f r) t q in omega arith

  pub nobody_waits : t < least → uncollected_row t r ≡ false → t < waiting_row least r
  unfolding waiting_row
  nobody_waits h e = go (eqb (num out_f r) 0) e
    where
      go : (b : Bool) → cond b false (leb (num next_f r) t) ≡ false → t < cond b least (min (num next_f r) least)
      go true q = h
      go false q = let x = leb-false (num next_f r) t q in omega arith

-- ---- the held events of stream i, whose record lies in q

-- the bound from which on they are waited for
abbrev pub waited : (n : ℕ) (p q : List ℕ) (i : ℕ) → ℕ
waited n p q i = waiting_row (least_row i (decode n p).rows) (dec_raw q)

module _ (n : ℕ) (p q : List ℕ) (i : ℕ) (h : i < n) (own : q ≡ part p (i * 256) 256) where
  row : dec_raw q ≡ row_at (decode n p) i
  row = record_row n p q i h own

  pub free_is : (m x : ℕ) → m ≡ min (num count_f (dec_raw q)) room → x ≡ below (waited n p q i) m (dec_raw q).slots → x ≡ free_in i (decode n p)
  unfolding free_in
  free_is m x e f = f ∙ ap (λ (k : ℕ). below (waited n p q i) k (dec_raw q).slots) e ∙ ap (λ (r : Raw). below (waiting_row (least_row i (decode n p).rows) r) (min (num count_f r) room) r.slots) row

  pub held_is : (m : ℕ) → m ≡ min (num count_f (dec_raw q)) room → m ≡ held_in i (decode n p)
  held_is m e = e ∙ ap (λ (r : Raw). min (num count_f r) room) row

-- as many are held in its record where it lies
pub held_mid : (n i k x : ℕ) (s : List ℕ) → i < n → k ≡ 256 → x ≤ held_in i (decode n s) → x ≤ min (num count_f (dec_raw (mid_of (i * 256) k s))) room
held_mid n i k x s h q l = rw (sym (row_mid n s i k h q)) l

-- a release drops just these
pub release_shed : (i k : ℕ) (st : Raws) → k ≡ free_in i st → released_row i st ≡ change i (shed k) st
unfolding released_row released free_in
release_shed i k st e = rw e

pub release_free : (i : ℕ) (st : Raws) → 0 ≡ free_in i st → released_row i st ≡ st
unfolding released_row free_in
release_free i st e =
    let w = waiting_row (least_row i st.rows) (row_at st i) in
    ap (λ (l : List Raw). record { rows = l; spare = st.spare }) (ap (set st.rows i) (release_none w (held_in i st) (row_at st i) refl e) ∙ set-get_or st.rows i no_raw)
