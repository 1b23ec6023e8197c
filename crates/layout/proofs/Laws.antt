-- Laws of the raw state's bytes.
use Prim.Native.Nat.{ℕ, zero, suc, ◌+◌, ◌*◌, ◌^◌, ◌<◌, ◌≤◌}
use mathlib.Core.Path.{◌≡◌, refl, sym, ap, ap₂, ◌∙◌}
use mathlib.Core.List.{List, ◌++◌, append_assoc}
use native.Mathlib.Omega.{arith}
use native.Mathlib.Nat.{add-zero}
use borrow.Rule.Slice.PartMut.{mid_of, put_mid}
use lib.ListN.{length, get_or, take, drop, length-set, length-map, length-append, length-drop, take-append-drop}
use lib.Seq.{sets, sets-eq, length-take-le, drop-drop, take_at, drop_at}
use Rattle.machine.specs.State.{room}
use Rattle.le.specs.Bytes.{le, enc, part, Bytes}
use Rattle.le.proofs.Laws.{length_enc, take_bytes, drop_bytes, part_below}
use Rattle.le.specs.Layout.{enc_fields, dec_fields, enc_rows, dec_rows, total, offset}
use Rattle.layout.specs.Record.{Slot, Raw, Raws, no_slot, no_raw, head_widths, slot_widths, slot_nums, num, with_num, enc_slot, dec_slot, enc_raw, dec_raw, encode, decode, row_at, change, change_all}
use Rattle.le.proofs.Fields.{sets_left, sets_whole, length_fields, fields_set, fields_dec, length_rows, rows_set, rows_dec, length_dec_rows, rows_get, fields_get, part_part}
use Rattle.le.proofs.RoundTrip.{All, Small, fields_enc, rows_enc, fields_small, nums_len, small_set, small_at, rows_all, all_at, all_set, all_map}

-- ---- lengths

pub slot_len : (e : Slot) → length (enc_slot e) ≡ 12
unfolding enc_slot total
slot_len e = length_fields slot_widths (slot_nums e)

pub head_len : (vs : List ℕ) → length (enc_fields head_widths vs) ≡ 64
unfolding total
head_len vs = length_fields head_widths vs

pub slots_len : (l : List Slot) → length (enc_rows enc_slot no_slot room l) ≡ 192
slots_len l = length_rows enc_slot no_slot 12 slot_len room l

pub raw_len : (r : Raw) → length (enc_raw r) ≡ 256
unfolding enc_raw
raw_len r = length-append (enc_fields head_widths r.nums) (enc_rows enc_slot no_slot room r.slots) ∙ ap₂ ◌+◌ (head_len r.nums) (slots_len r.slots)

-- ---- encode of decode, on every buffer

pub slot_dec : (s : List ℕ) → length s ≡ 12 → Bytes s → enc_slot (dec_slot s) ≡ s
unfolding enc_slot dec_slot dec_fields total
slot_dec s h b = fields_dec slot_widths s h b

pub raw_dec : (s : List ℕ) → length s ≡ 256 → Bytes s → enc_raw (dec_raw s) ≡ s
unfolding enc_raw dec_raw total
raw_dec s h b =
    let e : length (take 64 s) ≡ 64 = length-take-le 64 s (omega arith) in
    let d : length (drop 64 s) ≡ 192 = length-drop 64 s ∙ omega arith in
    ap₂ ◌++◌ (fields_dec head_widths (take 64 s) e (take_bytes 64 s b)) (rows_dec enc_slot no_slot 12 slot_len dec_slot slot_dec room (drop 64 s) d (drop_bytes s 64 b))
    ∙ take-append-drop 64 s

pub encode_decode : (n : ℕ) (s : List ℕ) → n * 256 ≤ length s → Bytes s → encode n (decode n s) ≡ s
unfolding encode decode
encode_decode n s h b =
    let e : length (take (n * 256) s) ≡ n * 256 = length-take-le (n * 256) s h in
    ap (λ (l : List ℕ). l ++ drop (n * 256) s) (rows_dec enc_raw no_raw 256 raw_len dec_raw raw_dec n (take (n * 256) s) e (take_bytes (n * 256) s b))
    ∙ take-append-drop (n * 256) s

-- ---- decode of encode, where every number is within its width

abbrev pub SlotOk : Slot → Type 0
SlotOk e = (e.stamp < 256 ^ 4) × (e.value < 256 ^ 8)

pub record RawOk (r : Raw) : Type 0 where
  pub heads : Small head_widths r.nums
  pub many : length r.slots ≡ room
  pub good : All SlotOk r.slots

slot_enc : (e : Slot) → SlotOk e → dec_slot (enc_slot e) ≡ e
unfolding enc_slot dec_slot
slot_enc e h =
    let q = fields_enc slot_widths (slot_nums e) (h.0, (h.1, tt)) in
    λ i. record { stamp = get_or (q i) 0 0; value = get_or (q i) 1 0 }

pub raw_enc : (r : Raw) → RawOk r → dec_raw (enc_raw r) ≡ r
unfolding enc_raw dec_raw
raw_enc r ok =
    let hd = enc_fields head_widths r.nums in
    let rows = enc_rows enc_slot no_slot room r.slots in
    let v = ap (dec_fields head_widths) (take_at hd rows 64 (head_len r.nums)) ∙ fields_enc head_widths r.nums ok.heads in
    let w = ap (dec_rows dec_slot 12 room) (drop_at hd rows 64 (head_len r.nums)) ∙ rows_enc SlotOk enc_slot no_slot dec_slot 12 slot_len slot_enc room r.slots ok.many ok.good in
    λ i. record { nums = v i; slots = w i }

pub record RawsOk (n : ℕ) (st : Raws) : Type 0 where
  pub many : length st.rows ≡ n
  pub good : All RawOk st.rows

pub decode_encode : (n : ℕ) (st : Raws) → RawsOk n st → decode n (encode n st) ≡ st
unfolding encode decode
decode_encode n st ok =
    let rows = enc_rows enc_raw no_raw n st.rows in
    let rl : length rows ≡ n * 256 = length_rows enc_raw no_raw 256 raw_len n st.rows in
    let v = ap (dec_rows dec_raw 256 n) (take_at rows st.spare (n * 256) rl) ∙ rows_enc RawOk enc_raw no_raw dec_raw 256 raw_len raw_enc n st.rows ok.many ok.good in
    let w = drop_at rows st.spare (n * 256) rl in
    λ i. record { rows = v i; spare = w i }

-- what is decoded is within its widths
slot_small : (s : List ℕ) → Bytes s → SlotOk (dec_slot s)
unfolding dec_slot dec_fields
slot_small s b = (part_below s 0 4 b, part_below s 4 8 b)

pub raw_ok : (s : List ℕ) → Bytes s → RawOk (dec_raw s)
unfolding dec_raw
raw_ok s b = record {
  heads = fields_small head_widths (take 64 s) (take_bytes 64 s b);
  many = length_dec_rows dec_slot 12 room (drop 64 s);
  good = rows_all SlotOk dec_slot 12 slot_small room (drop 64 s) (drop_bytes s 64 b);
}

pub raws_ok : (n : ℕ) (s : List ℕ) → Bytes s → RawsOk n (decode n s)
unfolding decode
raws_ok n s b = record { many = length_dec_rows dec_raw 256 n (take (n * 256) s); good = rows_all RawOk dec_raw 256 raw_ok n (take (n * 256) s) (take_bytes (n * 256) s b) }

-- ---- one number

-- a number stored in a record, for every field
pub num_set : (r : Raw) (j v : ℕ) → RawOk r → j < 15 → offset head_widths j + get_or head_widths j 0 ≤ 64
    → sets (enc_raw r) (offset head_widths j) (enc (get_or head_widths j 0) v) ≡ enc_raw (with_num j v r)
unfolding enc_raw
num_set r j v ok h k =
    let rows = enc_rows enc_slot no_slot room r.slots in
    sets_left (enc_fields head_widths r.nums) rows (offset head_widths j) (enc (get_or head_widths j 0) v)
    (rw (length_enc (get_or head_widths j 0) v, head_len r.nums) k)
    ∙ ap (λ (l : List ℕ). l ++ rows) (fields_set head_widths r.nums j v h (rw (nums_len head_widths r.nums ok.heads) h))

-- a number of a record read from its bytes
pub num_get : (s : List ℕ) (j : ℕ) → j < 15 → offset head_widths j + get_or head_widths j 0 ≤ 64
    → num j (dec_raw s) ≡ le (part s (offset head_widths j) (get_or head_widths j 0))
unfolding dec_raw
num_get s j h k =
    fields_get head_widths (take 64 s) j h ∙ ap le (part_part (get_or head_widths j 0) (offset head_widths j) 64 s k)

pub num_ok : (r : Raw) (j v : ℕ) → RawOk r → v < 256 ^ get_or head_widths j 0 → RawOk (with_num j v r)
num_ok r j v ok h = record { heads = small_set head_widths r.nums j v ok.heads h; many = ok.many; good = ok.good }

-- ---- a record's own bytes: the scheme of a leaf

-- no store yet
pub leaf_none : (p : List ℕ) → length p ≡ 256 → Bytes p → p ≡ enc_raw (dec_raw p)
leaf_none p n b = sym (raw_dec p n b)

-- one store more
pub leaf_num : (p : List ℕ) (r : Raw) (j v : ℕ) → p ≡ enc_raw r → RawOk r → j < 15 → offset head_widths j + get_or head_widths j 0 ≤ 64
    → sets p (offset head_widths j) (enc (get_or head_widths j 0) v) ≡ enc_raw (with_num j v r)
leaf_num p r j v e ok h k = ap (λ (l : List ℕ). sets l (offset head_widths j) (enc (get_or head_widths j 0) v)) e ∙ num_set r j v ok h k

-- a leaf after a leaf
pub leaf_then : (p p₁ p₂ : List ℕ) (f g : Raw → Raw) → p₁ ≡ enc_raw (f (dec_raw p)) → RawOk (f (dec_raw p)) → p₂ ≡ enc_raw (g (dec_raw p₁)) → p₂ ≡ enc_raw (g (f (dec_raw p)))
leaf_then p p₁ p₂ f g e ok e₂ = e₂ ∙ ap (λ (r : Raw). enc_raw (g r)) (ap dec_raw e ∙ raw_enc (f (dec_raw p)) ok)

-- ---- a record's own bytes, lent as a part of the whole

pub row_at_lem : (n : ℕ) (s : List ℕ) (i : ℕ) → i < n → row_at (decode n s) i ≡ dec_raw (part s (i * 256) 256)
unfolding decode
row_at_lem n s i h = rows_get dec_raw no_raw 256 n (take (n * 256) s) i h ∙ ap dec_raw (part_part 256 (i * 256) (n * 256) s (omega arith))

-- the same, as the borrow checker names a part
-- what is lent of record i, and how long it is
pub record_part : (s : List ℕ) (i k : ℕ) → k ≡ 256 → i * 256 + 256 ≤ length s → (mid_of (i * 256) k s ≡ part s (i * 256) 256) × (length (mid_of (i * 256) k s) ≡ 256)
record_part s i k q h =
    let e : mid_of (i * 256) k s ≡ part s (i * 256) 256 = ap (λ (m : ℕ). mid_of (i * 256) m s) q in
    (e, ap length e ∙ length-take-le 256 (drop (i * 256) s) (rw (length-drop (i * 256) s) (omega arith)))

-- what lies in the bytes of record i is row i
pub record_row : (n : ℕ) (s p : List ℕ) (i : ℕ) → i < n → p ≡ part s (i * 256) 256 → dec_raw p ≡ row_at (decode n s) i
record_row n s p i h e = ap dec_raw e ∙ sym (row_at_lem n s i h)

pub row_mid : (n : ℕ) (s : List ℕ) (i k : ℕ) → i < n → k ≡ 256 → row_at (decode n s) i ≡ dec_raw (mid_of (i * 256) k s)
row_mid n s i k h q = row_at_lem n s i h ∙ ap (λ (m : ℕ). dec_raw (mid_of (i * 256) m s)) (sym q)

change_set : (n : ℕ) (st : Raws) (i : ℕ) (p : List ℕ) (g : Raw → Raw) → i < n → i < length st.rows → p ≡ enc_raw (g (row_at st i))
    → sets (encode n st) (i * 256) p ≡ encode n (change i g st)
unfolding encode
change_set n st i p g h k e =
    let rows : List ℕ = enc_rows enc_raw no_raw n st.rows in
    let nl : length rows ≡ n * 256 = length_rows enc_raw no_raw 256 raw_len n st.rows in
    let lp : length p ≡ 256 = ap length e ∙ raw_len (g (row_at st i)) in
    let w : enc_raw (g (row_at st i)) ≡ sets (enc_raw (row_at st i)) 0 p = sym e ∙ sym (sets_whole (enc_raw (row_at st i)) p (raw_len (row_at st i) ∙ sym lp)) in
    sets_left rows st.spare (i * 256) p (omega arith)
    ∙ ap (λ (l : List ℕ). l ++ st.spare)
    (ap (λ (m : ℕ). sets rows m p) (sym (add-zero (i * 256)))
    ∙ rows_set enc_raw no_raw 256 raw_len n st.rows i 0 p (g (row_at st i)) h k (omega arith) w)

-- whatever a leaf makes of a record's own bytes, the whole has with that row changed
pub lent : (n : ℕ) (s p : List ℕ) (i k : ℕ) (g : Raw → Raw) → k ≡ 256 → n * 256 ≤ length s → Bytes s → i < n
    → p ≡ enc_raw (g (dec_raw (mid_of (i * 256) k s))) → put_mid (i * 256) k s p ≡ encode n (change i g (decode n s))
lent n s p i k g q nl b h e =
    let st = decode n s in
    let e' : p ≡ enc_raw (g (row_at st i)) = e ∙ ap (λ (r : Raw). enc_raw (g r)) (sym (row_mid n s i k h q)) in
    let lp : length p ≡ 256 = ap length e' ∙ raw_len (g (row_at st i)) in
    ap (λ (m : ℕ). put_mid (i * 256) m s p) q
    ∙ ap (λ (l : List ℕ). take (i * 256) s ++ (p ++ l)) (drop-drop 256 (i * 256) s)
    ∙ sym (append_assoc (take (i * 256) s) p (drop (i * 256 + 256) s))
    ∙ ap (λ (m : ℕ). take (i * 256) s ++ p ++ drop (i * 256 + m) s) (sym lp)
    ∙ sym (sets-eq p s (i * 256) (omega arith))
    ∙ ap (λ (l : List ℕ). sets l (i * 256) p) (sym (encode_decode n s nl b))
    ∙ change_set n st i p g h (rw (raws_ok n s b).many h) e'

-- a step after a step, on the whole
pub whole_then : (n : ℕ) (s s₁ s₂ : List ℕ) (f g : Raws → Raws) → s₁ ≡ encode n (f (decode n s)) → RawsOk n (f (decode n s)) → s₂ ≡ encode n (g (decode n s₁)) → s₂ ≡ encode n (g (f (decode n s)))
whole_then n s s₁ s₂ f g e ok e₂ = e₂ ∙ ap (λ (r : Raws). encode n (g r)) (ap (decode n) e ∙ decode_encode n (f (decode n s)) ok)

pub row_ok_lem : (n : ℕ) (st : Raws) (i : ℕ) → RawsOk n st → i < n → RawOk (row_at st i)
row_ok_lem n st i ok h = all_at RawOk st.rows i no_raw ok.good (rw ok.many h)

pub change_ok : (n : ℕ) (st : Raws) (i : ℕ) (g : Raw → Raw) → RawsOk n st → RawOk (g (row_at st i)) → RawsOk n (change i g st)
change_ok n st i g ok h = record { many = length-set st.rows i (g (row_at st i)) ∙ ok.many; good = all_set RawOk st.rows i (g (row_at st i)) ok.good h }

pub change_all_ok : (n : ℕ) (st : Raws) (g : Raw → Raw) → RawsOk n st → ((r : Raw) → RawOk r → RawOk (g r)) → RawsOk n (change_all g st)
change_all_ok n st g ok h = record { many = length-map st.rows g ∙ ok.many; good = all_map RawOk g st.rows h ok.good }

-- ---- fields of one byte and of eight

byte_f : (j : ℕ) → j < 8 → (offset head_widths j ≡ j) × (get_or head_widths j 0 ≡ 1)
unfolding offset
byte_f zero h = (refl, refl)
byte_f (suc zero) h = (refl, refl)
byte_f (suc (suc zero)) h = (refl, refl)
byte_f (suc (suc (suc zero))) h = (refl, refl)
byte_f (suc (suc (suc (suc zero)))) h = (refl, refl)
byte_f (suc (suc (suc (suc (suc zero))))) h = (refl, refl)
byte_f (suc (suc (suc (suc (suc (suc zero)))))) h = (refl, refl)
byte_f (suc (suc (suc (suc (suc (suc (suc zero))))))) h = (refl, refl)
byte_f (suc (suc (suc (suc (suc (suc (suc (suc j)))))))) h = absurd (omega arith)

word_f : (j : ℕ) → j < 7 → (offset head_widths (8 + j) ≡ 8 + j * 8) × (get_or head_widths (8 + j) 0 ≡ 8)
unfolding offset
word_f zero h = (refl, refl)
word_f (suc zero) h = (refl, refl)
word_f (suc (suc zero)) h = (refl, refl)
word_f (suc (suc (suc zero))) h = (refl, refl)
word_f (suc (suc (suc (suc zero)))) h = (refl, refl)
word_f (suc (suc (suc (suc (suc zero))))) h = (refl, refl)
word_f (suc (suc (suc (suc (suc (suc zero)))))) h = (refl, refl)
word_f (suc (suc (suc (suc (suc (suc (suc j))))))) h = absurd (omega arith)

pub byte_get : (s : List ℕ) (j : ℕ) → j < 8 → num j (dec_raw s) ≡ le (part s j 1)
byte_get s j h =
    let o = (byte_f j h).0 in
    let w = (byte_f j h).1 in
    num_get s j (omega arith) (rw (o, w) (omega arith)) ∙ ap₂ (λ (x y : ℕ). le (part s x y)) o w

pub word_get : (s : List ℕ) (j : ℕ) → j < 7 → num (8 + j) (dec_raw s) ≡ le (part s (8 + j * 8) 8)
word_get s j h =
    let o = (word_f j h).0 in
    let w = (word_f j h).1 in
    num_get s (8 + j) (omega arith) (rw (o, w) (omega arith)) ∙ ap₂ (λ (x y : ℕ). le (part s x y)) o w

pub byte_put : (p : List ℕ) (j v : ℕ) → length p ≡ 256 → Bytes p → j < 8 → sets p j (enc 1 v) ≡ enc_raw (with_num j v (dec_raw p))
byte_put p j v n b h =
    let o = (byte_f j h).0 in
    let w = (byte_f j h).1 in
    sym (ap₂ (λ (x y : ℕ). sets p x (enc y v)) o w) ∙ leaf_num p (dec_raw p) j v (leaf_none p n b) (raw_ok p b) (omega arith) (rw (o, w) (omega arith))

pub word_put : (p : List ℕ) (j v : ℕ) → length p ≡ 256 → Bytes p → j < 7 → sets p (8 + j * 8) (enc 8 v) ≡ enc_raw (with_num (8 + j) v (dec_raw p))
word_put p j v n b h =
    let o = (word_f j h).0 in
    let w = (word_f j h).1 in
    sym (ap₂ (λ (x y : ℕ). sets p x (enc y v)) o w) ∙ leaf_num p (dec_raw p) (8 + j) v (leaf_none p n b) (raw_ok p b) (omega arith) (rw (o, w) (omega arith))

pub rows_many : (n : ℕ) (s : List ℕ) → length (decode n s).rows ≡ n
unfolding decode
rows_many n s = length_dec_rows dec_raw 256 n (take (n * 256) s)

pub num_small : (r : Raw) (j : ℕ) → RawOk r → j < 15 → num j r < 256 ^ get_or head_widths j 0
num_small r j ok h = small_at head_widths r.nums j ok.heads h
