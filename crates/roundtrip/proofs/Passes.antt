-- The record of a sound cell passes the tests of number 15.
use Prim.Native.Nat.{ℕ, zero, suc, ◌+◌, ◌*◌, ◌-◌, ◌<◌, ◌≤◌}
use mathlib.Core.Path.{◌≡◌, refl, sym, ap, ◌∙◌}
use mathlib.Core.List.{List, [], ◌∷◌, ◌++◌, map}
use mathlib.Core.Bool.{Bool, true, false, cond, ◌&&◌}
use Rattle.std.specs.Prelude.{Option, None, Some}
use native.Mathlib.Omega.{arith}
use lib.Dec.{T, lit<, ltb, eqb}
use lib.IntN.{ℤ}
use lib.ListN.{length, get_or, drop, replicate, length-map}
use lib.Seq.{drop-append-add}
use borrow.Author.Tests.{le-leb, lt-ltb, eq-eqb, ne_eqb}
use mir.Syntax.{w64}
use mir.Val.{of_z}
use Rattle.meaning.specs.Plan.{Eqn, input, nil, unit, one, two, last, delay, signal, window}
use Rattle.meaning.specs.Table.{width}
use Rattle.meaning.specs.Events.{Event, horizon}
use Rattle.machine.specs.State.{Kept, Passed, Cell, room}
use Rattle.operators.specs.Operators.{group_of, is_delay, is_present, is_operator, eqn_group, number_of, value_of}
use Rattle.operators.proofs.Laws.{one_group, two_group, signal_group, window_group, group_of_lem}
use Rattle.operators.specs.Windows.{IsWidth}
use Rattle.operators.proofs.Widths.{width_pass, width_bits}
use Rattle.operators.proofs.Rules.{out_pass, fields_pass}
use Rattle.le.specs.Bytes.{all_zero}
use Rattle.le.specs.Layout.{enc_fields, enc_rows}
use Rattle.le.proofs.RoundTrip.{rows_drop}
use Rattle.layout.specs.Record.{no_slot, num, head_widths, enc_slot, enc_raw, dec_raw, count_f, bound_f}
use Rattle.layout.proofs.Laws.{head_len, slot_len, raw_enc}
use Rattle.layout.proofs.Slots.{slot_zeros}
use Rattle.encoding.specs.View.{flag, flag_of, bits_of, kept_nums, slot_of, pad_to, counts_word, raw_of, of_cell}
use Rattle.encoding.specs.Sound.{Rising, IsNext, IsKept, IsPassed, SoundCell, Own}
use Rattle.encoding.proofs.Widths.{cell_raw, pad_length}
use Rattle.valid.specs.Valid.{plan_ok, next_ok, sizes_ok, risen, flag_ok, none_if, none_ok, latest_ok, last_ok, signal_ok, own_ok, delay_ok, window_ok, kept_ok, row_ok}
use Rattle.roundtrip.proofs.Counts.{none_passes, counts_pass}

-- ---- the plan part

op_passes : (e : Eqn) → is_operator (number_of e) ≡ true
op_passes e = ap is_present (group_of_lem e) ∙ shape e
  where
    shape : (e : Eqn) → is_present (eqn_group e) ≡ true
    shape input = refl
    shape nil = refl
    shape unit = refl
    shape (one f a) = refl
    shape (two g a b) = refl
    shape (last a b) = refl
    shape (delay a b) = refl
    shape (signal c a b) = refl
    shape (window f k a) = refl

flag_small : (b : Bool) → flag b < 2
flag_small true = lit< tt
flag_small false = lit< tt

and_true : (x : Bool) → x ≡ true → (x && true) ≡ true
and_true x e = rw e

plan_passes : (n : ℕ) (c : Cell) → SoundCell n c → plan_ok n (of_cell c) ≡ true
unfolding plan_ok of_cell
plan_passes n c ok =
    rw (op_passes c.eqn, width_pass c.eqn ok.width) (and_true _ (fields_pass (of_z w64) refl n c.eqn (flag c.out) ok.arguments (out_pass c.eqn (flag c.out) (flag_small c.out) (λ t. ap flag (ok.out t)))))

-- ---- sizes, stamps, kept data

next_passes : (o : Bool) (next bound : ℕ) → IsNext o next bound → next_ok (flag o) next bound ≡ true
next_passes true next bound h = le-leb next bound h
next_passes false next bound h = eq-eqb next 0 h

sizes_pass : (n : ℕ) (c : Cell) → SoundCell n c → sizes_ok (of_cell c) ≡ true
unfolding sizes_ok of_cell
sizes_pass n c ok =
    rw (le-leb (length c.held) room ok.few, le-leb c.bound horizon ok.bound, next_passes c.out c.next c.bound ok.next) (counts_pass n c ok)

risen_passes : (lo top n : ℕ) (es : List Event) → length es ≤ n → Rising lo top es → risen top lo (length es) (pad_to n no_slot (map slot_of es)) ≡ true
unfolding risen pad_to
risen_passes lo top n [] h r = le-leb lo top r
risen_passes lo top zero (e ∷ es) h r = absurd (omega arith)
risen_passes lo top (suc n) (e ∷ es) h r =
    let q : e.stamp + 1 ≡ suc e.stamp = omega arith in
    rw (le-leb lo e.stamp r.0, q) (risen_passes (suc e.stamp) top n es (omega arith) r.2)

flag_passes : (o : Option ℤ) → flag_ok (flag_of o) (bits_of o) ≡ true
flag_passes None = refl
flag_passes (Some v) = refl

absent_passes : (y : ℕ) (o : Option ℤ) → (y ≡ 0 → o ≡ None) → none_if y (flag_of o) ≡ true
absent_passes y o h = none_passes y (flag_of o) (λ z. ap flag_of (h z))

-- the newest event lies below the top
newest_passes : (lo top n j : ℕ) (es : List Event) → length es ≤ n → Rising lo top es → length es ≡ suc j → (get_or (pad_to n no_slot (map slot_of es)) j no_slot).stamp < top
unfolding pad_to
newest_passes lo top n j [] h r l = absurd (omega arith)
newest_passes lo top zero j (e ∷ es) h r l = absurd (omega arith)
newest_passes lo top (suc n) zero (e ∷ []) h r l = r.2
newest_passes lo top (suc n) zero (e ∷ d ∷ es) h r l = absurd (omega arith)
newest_passes lo top (suc n) (suc j) (e ∷ es) h r l = newest_passes (suc e.stamp) top n j es (omega arith) r.2 (omega arith)

kept_passes : (e : Eqn) (o : Bool) (y : ℕ) (h : List Event) (m : ℕ) (k : Kept) (w : Passed) (z : ℕ) → IsWidth e → IsKept e y k → IsPassed e y w → length h ≤ room → (T (is_delay (eqn_group e)) → Rising 0 k.since h) → kept_ok (raw_of e o y h m (kept_nums e k w) z) ≡ true
unfolding kept_ok none_ok latest_ok last_ok signal_ok delay_ok window_ok own_ok group_of number_of value_of
kept_passes input o y h m k w z i ok p few own = refl
kept_passes nil o y h m k w z i ok p few own = refl
kept_passes unit o y h m k w z i ok p few own = refl
kept_passes (one f a) o y h m k w z i ok p few own = rw (one_group f)
kept_passes (two g a b) o y h m k w z i ok p few own = rw (two_group g)
kept_passes (last a b) o y h m k w z i ok p few own = rw (flag_passes k.prev, absent_passes y k.prev ok.fresh)
kept_passes (signal c a b) o y h m k w z i ok p few own =
    rw (signal_group c, flag_passes k.prev, absent_passes y k.prev ok.fresh, flag_passes k.prev_b, absent_passes y k.prev_b ok.fresh_b)
kept_passes (window f v a) o y h m k w z i ok p few own =
    rw (window_group f, width_bits v i.0 i.1, le-leb (length w.window) (width v) p.few, none_passes y (length w.window) (λ t. ap length (p.fresh t)))
kept_passes (delay a b) o y h m k w z i ok p few own =
    rw (flag_passes k.value, flag_passes k.prior, absent_passes k.since k.value ok.unset, absent_passes y k.prior ok.fresh, newest h few (own tt)) (le-leb k.since y ok.since)
  where
    newest : (es : List Event) → length es ≤ room → Rising 0 k.since es → cond (eqb (length es) 0) true (ltb (get_or (pad_to room no_slot (map slot_of es)) (length es - 1) no_slot).stamp k.since) ≡ true
    newest [] l r = refl
    newest (e ∷ es) l r =
        let q : length (e ∷ es) - 1 ≡ length es = omega arith in
        rw (ne_eqb (length (e ∷ es)) 0 (λ z. omega arith), q) (lt-ltb (get_or (pad_to room no_slot (map slot_of (e ∷ es))) (length es) no_slot).stamp k.since (newest_passes 0 k.since room (length es) (e ∷ es) l r refl))

-- ---- zeros behind the held events

pub zeros_zero : (k : ℕ) → all_zero (replicate k 0) ≡ true
unfolding all_zero
zeros_zero zero = refl
zeros_zero (suc k) = zeros_zero k

drop_pad : {A : Type 0} (n : ℕ) (d : A) (l : List A) → length l ≤ n → drop (length l) (pad_to n d l) ≡ replicate (n - length l) d
unfolding pad_to
drop_pad zero d [] h = refl
drop_pad zero d (a ∷ l) h = absurd (omega arith)
drop_pad (suc n) d [] h =
    let e : suc n - 0 ≡ suc n = omega arith in
    rw e (ap (◌∷◌ d) (pads n))
  where
    pads : (m : ℕ) → pad_to m d [] ≡ replicate m d
    pads zero = refl
    pads (suc m) = ap (◌∷◌ d) (pads m)
drop_pad (suc n) d (a ∷ l) h =
    let e : suc n - suc (length l) ≡ n - length l = omega arith in
    rw e (drop_pad n d l (omega arith))

zeros_pass : (n : ℕ) (c : Cell) → SoundCell n c → all_zero (drop (64 + length c.held * 12) (enc_raw (of_cell c))) ≡ true
unfolding enc_raw of_cell
zeros_pass n c ok =
    let r = of_cell c in
    let k = length c.held in
    let f = ok.few in
    let hd = enc_fields head_widths r.nums in
    let l = map slot_of c.held in
    let lk : length l ≡ k = length-map c.held slot_of in
    let q : room ≡ k + (room - k) = omega arith in
    let sl = pad_to room no_slot l in
    ap all_zero
    (ap (λ (j : ℕ). drop (j + k * 12) (hd ++ enc_rows enc_slot no_slot room sl)) (sym (head_len r.nums))
    ∙ drop-append-add hd (enc_rows enc_slot no_slot room sl) (k * 12)
    ∙ ap (λ (j : ℕ). drop (k * 12) (enc_rows enc_slot no_slot j sl)) q
    ∙ rows_drop enc_slot no_slot 12 slot_len k (room - k) sl (pad_length room no_slot l ∙ q)
    ∙ ap (enc_rows enc_slot no_slot (room - k)) (ap (λ (j : ℕ). drop j sl) (sym lk) ∙ drop_pad room no_slot l (omega arith) ∙ ap (λ (j : ℕ). replicate (room - j) no_slot) lk)
    ∙ slot_zeros (room - k))
    ∙ zeros_zero ((room - k) * 12)

-- the whole record
pub row_passes : (n : ℕ) (c : Cell) → n ≤ 256 → SoundCell n c → Own c → row_ok n (enc_raw (of_cell c)) ≡ true
unfolding row_ok
row_passes n c h ok own =
    let e : dec_raw (enc_raw (of_cell c)) ≡ of_cell c = raw_enc (of_cell c) (cell_raw n c h ok) in
    rw (e, plan_passes n c ok, sizes_pass n c ok, stamps, keeps, count) (zeros_pass n c ok)
  where
    count : num count_f (of_cell c) ≡ length c.held
    count = unfold of_cell in refl

    stamps : risen (num bound_f (of_cell c)) 0 (num count_f (of_cell c)) (of_cell c).slots ≡ true
    stamps = unfold of_cell in risen_passes 0 c.bound room c.held ok.few ok.held

    keeps : kept_ok (of_cell c) ≡ true
    keeps = unfold of_cell in kept_passes c.eqn c.out c.bound c.held c.next c.kept c.passed (counts_word c.passed) ok.width ok.kept ok.passed ok.few own
