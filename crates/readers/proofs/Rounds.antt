-- The loops' turns, and the steps of the whole buffer one after the other.
use Prim.Native.Nat.{ℕ, zero, suc, ◌*◌, ◌-◌, ◌^◌, ◌<◌, ◌≤◌, min}
use mathlib.Core.Path.{◌≡◌, refl, sym, ap, ◌∙◌}
use mathlib.Core.List.{List, [], ◌∷◌}
use mathlib.Core.Bool.{Bool, true, false, cond}
use native.Mathlib.Omega.{arith}
use lib.Dec.{leb}
use lib.ListN.{length, get_or, set}
use lib.Seq.{set-get_or}
use borrow.Author.Tests.{leb-true}
use Rattle.meaning.specs.Events.{horizon}
use Rattle.meaning.proofs.Tests.{is_true}
use Rattle.machine.specs.State.{room}
use Rattle.le.specs.Bytes.{part, Bytes}
use Rattle.layout.specs.Record.{Raw, Raws, no_raw, num, dec_raw, encode, decode, row_at, change, change_all, slot_at, count_f, bound_f}
use Rattle.layout.proofs.Laws.{rows_many, row_at_lem, record_row, raws_ok, row_ok_lem, change_ok, change_all_ok, whole_then}
use Rattle.readers.specs.Step.{reads_row, told_row, lowered, least_row, last_reader, waits_before, waiting_row, released_row, offered}
use Rattle.queue.specs.Queue.{pushed, released}
use Rattle.queue.proofs.Drops.{push_ok, below_none, below_first, release_none}
use Rattle.readers.proofs.Leaves.{lowered_le, lower_no, lower_yes, lower_le, waiting_le, told_ok}

-- ---- the last reader among the first records

module _ (s : ℕ) (rs : List Raw) (i : ℕ) where
  last_here : reads_row s (get_or rs i no_raw) ≡ true → last_reader s rs (suc i) ≡ suc i
  unfolding last_reader
  last_here e = rw (last_reader, e)

  last_not : reads_row s (get_or rs i no_raw) ≡ false → last_reader s rs (suc i) ≡ last_reader s rs i
  unfolding last_reader
  last_not e = rw (last_reader, e)

last_none : (s : ℕ) (rs : List Raw) → last_reader s rs 0 ≡ 0
unfolding last_reader
last_none s rs = refl

last_top : (s : ℕ) (rs : List Raw) (i : ℕ) → last_reader s rs i ≤ i
last_top s rs zero = rw (last_none s rs) (omega arith)
last_top s rs (suc i) = go (reads_row s (get_or rs i no_raw)) refl (last_top s rs i)
  where
    go : (b : Bool) → reads_row s (get_or rs i no_raw) ≡ b → last_reader s rs i ≤ i → last_reader s rs (suc i) ≤ suc i
    go true e h = rw (last_here s rs i e) (omega arith)
    go false e h = rw (last_not s rs i e) (omega arith)

-- the last one up to the last one is the last one
last_again : (s : ℕ) (rs : List Raw) (i : ℕ) → last_reader s rs (last_reader s rs i) ≡ last_reader s rs i
last_again s rs zero = ap (last_reader s rs) (last_none s rs)
last_again s rs (suc i) = go (reads_row s (get_or rs i no_raw)) refl (last_again s rs i)
  where
    go : (b : Bool) → reads_row s (get_or rs i no_raw) ≡ b → last_reader s rs (last_reader s rs i) ≡ last_reader s rs i → last_reader s rs (last_reader s rs (suc i)) ≡ last_reader s rs (suc i)
    go true e h = ap (last_reader s rs) (last_here s rs i e)
    go false e h = ap (last_reader s rs) (last_not s rs i e) ∙ h ∙ sym (last_not s rs i e)

-- it reads s
last_reads : (s : ℕ) (rs : List Raw) (i : ℕ) → last_reader s rs (suc i) ≡ suc i → reads_row s (get_or rs i no_raw) ≡ true
last_reads s rs i e = go (reads_row s (get_or rs i no_raw)) refl
  where
    go : (b : Bool) → reads_row s (get_or rs i no_raw) ≡ b → b ≡ true
    go true f = refl
    go false f = let x = last_not s rs i f in let y = last_top s rs i in absurd (omega arith)

-- the first k records are the same, however many are read
last_prefix : (s n m : ℕ) (p : List ℕ) (k : ℕ) → k ≤ n → k ≤ m → last_reader s (decode n p).rows k ≡ last_reader s (decode m p).rows k
last_prefix s n m p zero h l = last_none s (decode n p).rows ∙ sym (last_none s (decode m p).rows)
last_prefix s n m p (suc k) h l = go (reads_row s (get_or (decode n p).rows k no_raw)) refl (last_prefix s n m p k (omega arith) (omega arith))
  where
    same : get_or (decode n p).rows k no_raw ≡ get_or (decode m p).rows k no_raw
    same = row_at_lem n p k (omega arith) ∙ sym (row_at_lem m p k (omega arith))

    go : (b : Bool) → reads_row s (get_or (decode n p).rows k no_raw) ≡ b → last_reader s (decode n p).rows k ≡ last_reader s (decode m p).rows k → last_reader s (decode n p).rows (suc k) ≡ last_reader s (decode m p).rows (suc k)
    go true e ih = last_here s (decode n p).rows k e ∙ sym (last_here s (decode m p).rows k (ap (reads_row s) (sym same) ∙ e))
    go false e ih = last_not s (decode n p).rows k e ∙ ih ∙ sym (last_not s (decode m p).rows k (ap (reads_row s) (sym same) ∙ e))

-- from the last record down: q holds the record before i
module _ (s n : ℕ) (p q : List ℕ) (i : ℕ) (h : 0 < i) (l : i ≤ n) (own : q ≡ part p ((i - 1) * 256) 256) where
  before : suc (i - 1) ≡ i
  before = omega arith

  reads_before : {b : Bool} → reads_row s (dec_raw q) ≡ b → reads_row s (get_or (decode n p).rows (i - 1) no_raw) ≡ b
  reads_before e = ap (reads_row s) (sym (record_row n p q (i - 1) (omega arith) own)) ∙ e

  pub last_found : last_reader s (decode n p).rows i ≡ last_reader s (decode n p).rows n → reads_row s (dec_raw q) ≡ true → i ≡ last_reader s (decode n p).rows n
  last_found inv e = sym (ap (last_reader s (decode n p).rows) (sym before) ∙ last_here s (decode n p).rows (i - 1) (reads_before e) ∙ before) ∙ inv

  pub last_turn : last_reader s (decode n p).rows i ≡ last_reader s (decode n p).rows n → reads_row s (dec_raw q) ≡ false → last_reader s (decode n p).rows (i - 1) ≡ last_reader s (decode n p).rows n
  last_turn inv e = sym (ap (last_reader s (decode n p).rows) (sym before) ∙ last_not s (decode n p).rows (i - 1) (reads_before e)) ∙ inv

pub last_end : (s n i : ℕ) (p : List ℕ) → i ≡ 0 → last_reader s (decode n p).rows i ≡ last_reader s (decode n p).rows n → 0 ≡ last_reader s (decode n p).rows n
last_end s n i p e inv = sym (ap (last_reader s (decode n p).rows) e ∙ last_none s (decode n p).rows) ∙ inv

-- ---- the least bound of the readers, from the last one down

-- the least bound of the readers among the first i records
abbrev pub least_of : ℕ → List Raw → ℕ → ℕ
least_of s rs zero = horizon
least_of s rs (suc i) = lowered s (get_or rs i no_raw) (least_of s rs i)

lowered_both : (s : ℕ) (r x : Raw) (acc : ℕ) → lowered s r (lowered s x acc) ≡ lowered s x (lowered s r acc)
unfolding lowered
lowered_both s r x acc = go (reads_row s r) (reads_row s x)
  where
    go : (b d : Bool) → cond b (min (num bound_f r) (cond d (min (num bound_f x) acc) acc)) (cond d (min (num bound_f x) acc) acc) ≡ cond d (min (num bound_f x) (cond b (min (num bound_f r) acc) acc)) (cond b (min (num bound_f r) acc) acc)
    go true true = omega arith
    go true false = refl
    go false d = refl

least_first : (s : ℕ) (r : Raw) (rs : List Raw) (i : ℕ) → least_of s (r ∷ rs) (suc i) ≡ lowered s r (least_of s rs i)
least_first s r rs zero = refl
least_first s r rs (suc i) = ap (lowered s (get_or rs i no_raw)) (least_first s r rs i) ∙ lowered_both s (get_or rs i no_raw) r (least_of s rs i)

least_all : (s : ℕ) (rs : List Raw) → least_of s rs (length rs) ≡ least_row s rs
unfolding least_row
least_all s [] = refl
least_all s (r ∷ rs) = least_first s r rs (length rs) ∙ ap (lowered s r) (least_all s rs)

-- those behind the last reader do not count
least_skip : (s : ℕ) (rs : List Raw) (i : ℕ) → least_of s rs i ≡ least_of s rs (last_reader s rs i)
least_skip s rs zero = ap (least_of s rs) (sym (last_none s rs))
least_skip s rs (suc i) = go (reads_row s (get_or rs i no_raw)) refl (least_skip s rs i)
  where
    go : (b : Bool) → reads_row s (get_or rs i no_raw) ≡ b → least_of s rs i ≡ least_of s rs (last_reader s rs i) → least_of s rs (suc i) ≡ least_of s rs (last_reader s rs (suc i))
    go true e h = ap (least_of s rs) (sym (last_here s rs i e))
    go false e h = lower_no s (get_or rs i no_raw) (least_of s rs i) e ∙ h ∙ ap (least_of s rs) (sym (last_not s rs i e))

-- what holds between two turns: acc is the least bound of the readers from record i on, and before i there is a reader, unless
-- there is none
pub record Downward (s n : ℕ) (p : List ℕ) (acc i : ℕ) : Type 0 where
  pub few : i ≤ n
  pub top : acc ≤ horizon
  pub there : last_reader s (decode n p).rows i ≡ i
  pub all : min acc (least_of s (decode n p).rows i) ≡ least_row s (decode n p).rows

pub down_start : (s n last : ℕ) (p : List ℕ) → last ≡ last_reader s (decode n p).rows n → Downward s n p horizon last
down_start s n last p e =
    let rs = (decode n p).rows in
    let t = last_top s rs n in
    let a : least_of s rs last ≡ least_row s rs = ap (least_of s rs) e ∙ sym (least_skip s rs n) ∙ ap (least_of s rs) (sym (rows_many n p)) ∙ least_all s rs in
    let u = least_top s rs last in
    record { few = omega arith; top = omega arith; there = ap (last_reader s rs) e ∙ last_again s rs n ∙ sym e; all = omega arith }
  where
    least_top : (s : ℕ) (rs : List Raw) (i : ℕ) → least_of s rs i ≤ horizon
    least_top s rs zero = omega arith
    least_top s rs (suc i) = let x = least_top s rs i in let y = lowered_le s (get_or rs i no_raw) (least_of s rs i) in omega arith

-- q holds the reader before i, with bound b; the next one is found among those before it
pub down_turn : (s n acc acc' b i j : ℕ) (p q : List ℕ) → Downward s n p acc i → 0 < i → q ≡ part p ((i - 1) * 256) 256 → b ≡ num bound_f (dec_raw q)
    → acc' ≡ min b acc → j ≡ last_reader s (decode (i - 1) p).rows (i - 1) → Downward s n p acc' j
down_turn s n acc acc' b i j p q d h own eb ea ej =
    let rs = (decode n p).rows in
    let f = d.few in
    let k : suc (i - 1) ≡ i = omega arith in
    let e : j ≡ last_reader s rs (i - 1) = ej ∙ last_prefix s (i - 1) n p (i - 1) (omega arith) (omega arith) in
    let t = last_top s rs (i - 1) in
    let yes = last_reads s rs (i - 1) (ap (last_reader s rs) k ∙ d.there ∙ sym k) in
    let r = get_or rs (i - 1) no_raw in
    let eq : b ≡ num bound_f r = eb ∙ ap (num bound_f) (record_row n p q (i - 1) (omega arith) own) in
    let m : least_of s rs i ≡ min (num bound_f r) (least_of s rs (i - 1)) = ap (least_of s rs) (sym k) ∙ lower_yes s r (least_of s rs (i - 1)) yes in
    let z : least_of s rs (i - 1) ≡ least_of s rs j = least_skip s rs (i - 1) ∙ ap (least_of s rs) (sym e) in
    let w = d.all in
    let v = d.top in
    record { few = omega arith; top = omega arith; there = ap (last_reader s rs) e ∙ last_again s rs (i - 1) ∙ sym e; all = omega arith }

pub down_end : (s n acc i : ℕ) (p : List ℕ) → Downward s n p acc i → i ≡ 0 → acc ≡ least_row s (decode n p).rows
down_end s n acc i p d e =
    let z : least_of s (decode n p).rows i ≡ horizon = ap (least_of s (decode n p).rows) e in
    let w = d.all in
    let v = d.top in
    omega arith

-- ---- the last reader's bound

-- if the last reader waits at t, the least bound is not above t
pub least_waits : (s n last t : ℕ) (p : List ℕ) → last ≡ last_reader s (decode n p).rows n → waits_before last t (decode n p).rows ≡ true → least_row s (decode n p).rows ≤ t
unfolding waits_before
least_waits s n zero t p e h = absurd (is_true false h)
least_waits s n (suc i) t p e h =
    let rs = (decode n p).rows in
    let d = down_start s n (suc i) p e in
    let yes = last_reads s rs i d.there in
    let m : least_of s rs (suc i) ≤ num bound_f (get_or rs i no_raw) = lower_le s (get_or rs i no_raw) (least_of s rs i) yes in
    let l = leb-true (num bound_f (get_or rs i no_raw)) t h in
    let w = d.all in
    omega arith

pub waits_none : (t : ℕ) (rs : List Raw) → waits_before 0 t rs ≡ false
unfolding waits_before
waits_none t rs = refl

pub waits_is : (n i t b : ℕ) (p q : List ℕ) → 0 < i → i ≤ n → q ≡ part p ((i - 1) * 256) 256 → b ≡ num bound_f (dec_raw q) → leb b t ≡ waits_before i t (decode n p).rows
unfolding waits_before
waits_is n zero t b p q h l own e = absurd (omega arith)
waits_is n (suc j) t b p q h l own e =
    let f : suc j - 1 ≡ j = omega arith in
    ap (λ (x : ℕ). leb x t) (e ∙ ap (num bound_f) (record_row n p q j (omega arith) (own ∙ ap (λ (x : ℕ). part p (x * 256) 256) f)))

-- ---- the steps of the whole

-- a record that holds nothing lets nothing go
pub release_row_none : (i : ℕ) (st : Raws) → num count_f (row_at st i) ≡ 0 → released_row i st ≡ st
unfolding released_row
release_row_none i st e =
    let w = waiting_row (least_row i st.rows) (row_at st i) in
    let none : released w (row_at st i) ≡ row_at st i = release_none w 0 (row_at st i) (rw e) (sym (below_none w (row_at st i).slots)) in
    ap (λ (l : List Raw). record { rows = l; spare = st.spare }) (ap (set st.rows i) none ∙ set-get_or st.rows i no_raw)

-- nor does one whose oldest event the last reader waits for
pub release_row_waits : (i f : ℕ) (st : Raws) → f ≡ (slot_at 0 (row_at st i)).stamp → least_row i st.rows ≤ f → released_row i st ≡ st
unfolding released_row
release_row_waits i f st e h =
    let r = row_at st i in
    let w = waiting_row (least_row i st.rows) r in
    let l : w ≤ f = let x = waiting_le (least_row i st.rows) r in omega arith in
    let none : released w r ≡ r = release_none w (min (num count_f r) room) r refl (sym (below_first w (min (num count_f r) room) r.slots (omega arith))) in
    ap (λ (l : List Raw). record { rows = l; spare = st.spare }) (ap (set st.rows i) none ∙ set-get_or st.rows i no_raw)

pub release_row_is : (i w least : ℕ) (st : Raws) → least ≡ least_row i st.rows → w ≡ waiting_row least (row_at st i) → released_row i st ≡ change i (released w) st
unfolding released_row
release_row_is i w least st e q = rw (q, e)

pub offer_is : (n : ℕ) (s s₁ s₂ s₃ : List ℕ) (i t v : ℕ) → Bytes s → i < n → t < 2 ^ 32 → v < 2 ^ 64
    → s₁ ≡ encode n (change i (pushed t v) (decode n s)) → s₂ ≡ encode n (change_all (told_row i t v) (decode n s₁)) → s₃ ≡ encode n (released_row i (decode n s₂))
    → s₃ ≡ encode n (offered i t v (decode n s))
unfolding offered
offer_is n s s₁ s₂ s₃ i t v b hi ht hv e₁ e₂ e₃ =
    let ok₀ = raws_ok n s b in
    let ok₁ = change_ok n (decode n s) i (pushed t v) ok₀ (push_ok v hv t ht (row_at (decode n s) i) (row_ok_lem n (decode n s) i ok₀ hi)) in
    let told = whole_then n s s₁ s₂ (change i (pushed t v)) (change_all (told_row i t v)) e₁ ok₁ e₂ in
    let ok₂ = change_all_ok n (change i (pushed t v) (decode n s)) (told_row i t v) ok₁ (told_ok v hv i t ht) in
    whole_then n s s₂ s₃ (λ st. change_all (told_row i t v) (change i (pushed t v) st)) (released_row i) told ok₂ e₃
