-- Laws of the slots of a record.
use Prim.Native.Nat.{ℕ, zero, suc, ◌+◌, ◌*◌, ◌-◌, ◌<◌, ◌≤◌}
use mathlib.Core.Path.{◌≡◌, refl, sym, ap, ap₂, ◌∙◌}
use mathlib.Core.List.{List, [], ◌∷◌, ◌++◌, append-nil, append_assoc}
use native.Mathlib.Omega.{arith}
use native.Mathlib.Nat.{add-zero}
use lib.Dec.{lit<, lit≤}
use lib.ListN.{length, get_or, take, drop, set, replicate, length-replicate, length-append, length-drop, length-set, take-append-drop}
use lib.Seq.{sets, length-take-le, drop-drop, take_at, drop-append-add, drop-append-le}
use Rattle.machine.specs.State.{room}
use Rattle.le.specs.Bytes.{le, enc, part, Bytes}
use Rattle.le.proofs.Laws.{length_enc}
use Rattle.le.specs.Layout.{enc_fields, dec_fields, enc_rows}
use Rattle.layout.specs.Record.{Slot, Raw, no_slot, head_widths, with_slots, with_slot, shifted, dropped, enc_slot, dec_slot, enc_raw, dec_raw}
use Rattle.le.proofs.Fields.{sets_left, sets_right, sets_whole, length_rows, rows_set, rows_get, part_part, length_dec_rows}
use Rattle.layout.proofs.Laws.{SlotOk, RawOk, slot_len, head_len, leaf_none, raw_ok}
use Rattle.le.proofs.RoundTrip.{All, all_set, rows_split, rows_drop, sets_append}

-- a store in the slots' bytes
in_slots : (r : Raw) (o : ℕ) (vs : List ℕ) → sets (enc_raw r) (64 + o) vs ≡ enc_fields head_widths r.nums ++ sets (enc_rows enc_slot no_slot room r.slots) o vs
unfolding enc_raw
in_slots r o vs =
    let hd = enc_fields head_widths r.nums in
    let rows = enc_rows enc_slot no_slot room r.slots in
    ap (λ (m : ℕ). sets (hd ++ rows) (m + o) vs) (sym (head_len r.nums)) ∙ sets_right hd rows o vs

-- slot j stored
pub slot_set : (r : Raw) (j : ℕ) (e : Slot) → RawOk r → j < room → sets (enc_raw r) (64 + j * 12) (enc_slot e) ≡ enc_raw (with_slots (set r.slots j e) r)
unfolding enc_raw
slot_set r j e ok h =
    let hd = enc_fields head_widths r.nums in
    let rows = enc_rows enc_slot no_slot room r.slots in
    let old = enc_slot (get_or r.slots j no_slot) in
    let ln : length (enc_slot e) ≡ 12 = slot_len e in
    let w : enc_slot e ≡ sets old 0 (enc_slot e) = sym (sets_whole old (enc_slot e) (slot_len (get_or r.slots j no_slot) ∙ sym ln)) in
    in_slots r (j * 12) (enc_slot e)
    ∙ ap (λ (q : List ℕ). hd ++ q)
    (ap (λ (m : ℕ). sets rows m (enc_slot e)) (sym (add-zero (j * 12)))
    ∙ rows_set enc_slot no_slot 12 slot_len room r.slots j 0 (enc_slot e) e h (rw ok.many h) (omega arith) w)

-- a slot stored in two parts
pub slot_two : (l : List ℕ) (i t v : ℕ) → sets (sets l i (enc 4 t)) (i + 4) (enc 8 v) ≡ sets l i (enc_slot (record { stamp = t; value = v }))
unfolding enc_slot enc_fields
slot_two l i t v =
    ap (λ (m : ℕ). sets (sets l i (enc 4 t)) (i + m) (enc 8 v)) (sym (length_enc 4 t))
    ∙ sym (ap (λ (q : List ℕ). sets l i (enc 4 t ++ q)) (append-nil (enc 8 v)) ∙ sets_append l i (enc 4 t) (enc 8 v))

pub slot_ok : (r : Raw) (j : ℕ) (e : Slot) → RawOk r → SlotOk e → RawOk (with_slots (set r.slots j e) r)
slot_ok r j e ok h = record { heads = ok.heads; many = length-set r.slots j e ∙ ok.many; good = all_set SlotOk r.slots j e ok.good h }

-- the stamp of slot j read from the bytes
stamp_dec : (s : List ℕ) → (dec_slot s).stamp ≡ le (take 4 s)
unfolding dec_slot dec_fields
stamp_dec s = refl

pub stamp_get : (s : List ℕ) (j : ℕ) → j < room → (get_or (dec_raw s).slots j no_slot).stamp ≡ le (part s (64 + j * 12) 4)
unfolding dec_raw
stamp_get s j h =
    ap (λ (e : Slot). e.stamp) (rows_get dec_slot no_slot 12 room (drop 64 s) j h)
    ∙ stamp_dec (part (drop 64 s) (j * 12) 12)
    ∙ ap le (part_part 4 0 12 (drop (j * 12) (drop 64 s)) (lit≤ tt) ∙ ap (take 4) (drop-drop (j * 12) 64 s))

-- the value of slot j read from the bytes
value_dec : (s : List ℕ) → (dec_slot s).value ≡ le (take 8 (drop 4 s))
unfolding dec_slot dec_fields
value_dec s = refl

pub value_get : (s : List ℕ) (j : ℕ) → j < room → (get_or (dec_raw s).slots j no_slot).value ≡ le (part s (68 + j * 12) 8)
unfolding dec_raw
value_get s j h =
    let e : 64 + j * 12 + 4 ≡ 68 + j * 12 = omega arith in
    ap (λ (e : Slot). e.value) (rows_get dec_slot no_slot 12 room (drop 64 s) j h)
    ∙ value_dec (part (drop 64 s) (j * 12) 12)
    ∙ ap le (part_part 8 4 12 (drop (j * 12) (drop 64 s)) (lit≤ tt) ∙ ap (take 8) (ap (drop 4) (drop-drop (j * 12) 64 s) ∙ drop-drop 4 (64 + j * 12) s ∙ ap (λ (m : ℕ). drop m s) e))

-- ---- the first k slots dropped

pub slot_zeros : (k : ℕ) → enc_rows enc_slot no_slot k (replicate k no_slot) ≡ replicate (k * 12) 0
unfolding enc_rows enc_slot enc_fields enc
slot_zeros zero = refl
slot_zeros (suc k) =
    let e : suc k * 12 ≡ 12 + k * 12 = omega arith in
    ap (λ (l : List ℕ). replicate 12 0 ++ l) (slot_zeros k) ∙ lib.ListN.replicate-append-replicate 12 (k * 12) 0 ∙ ap (λ (j : ℕ). replicate j 0) (sym e)

-- the bytes of all slots: of the first n, and of the others
rows_two : (n : ℕ) (l : List Slot) → length l ≡ room → n ≤ room → enc_rows enc_slot no_slot room l ≡ enc_rows enc_slot no_slot n (take n l) ++ enc_rows enc_slot no_slot (room - n) (drop n l)
rows_two n l h hn =
    let q : room ≡ n + (room - n) = omega arith in
    ap₂ (λ (m : ℕ) (x : List Slot). enc_rows enc_slot no_slot m x) q (sym (take-append-drop n l))
    ∙ rows_split enc_slot no_slot 12 slot_len n (room - n) (take n l) (drop n l) (length-take-le n l (rw h hn))

shifted_rows : (k n : ℕ) (l : List Slot) → length l ≡ room → k ≤ n → n ≤ room
    → enc_rows enc_slot no_slot room (shifted k n l) ≡ drop (k * 12) (enc_rows enc_slot no_slot n (take n l)) ++ (replicate (k * 12) 0 ++ enc_rows enc_slot no_slot (room - n) (drop n l))
shifted_rows k n l h hk hn =
    let m : room ≡ n - k + (k + (room - n)) = omega arith in
    let q : n ≡ k + (n - k) = omega arith in
    let first : length (take n l) ≡ n = length-take-le n l (rw h hn) in
    ap (λ (j : ℕ). enc_rows enc_slot no_slot j (shifted k n l)) m
    ∙ rows_split enc_slot no_slot 12 slot_len (n - k) (k + (room - n)) (drop k (take n l)) (replicate k no_slot ++ drop n l) (length-drop k (take n l) ∙ ap (λ (x : ℕ). x - k) first)
    ∙ ap₂ ◌++◌ (sym (ap (λ (j : ℕ). drop (k * 12) (enc_rows enc_slot no_slot j (take n l))) q ∙ rows_drop enc_slot no_slot 12 slot_len k (n - k) (take n l) (first ∙ q)))
    (rows_split enc_slot no_slot 12 slot_len k (room - n) (replicate k no_slot) (drop n l) (length-replicate k no_slot) ∙ ap (λ (x : List ℕ). x ++ enc_rows enc_slot no_slot (room - n) (drop n l)) (slot_zeros k))

-- the bytes moved down and the freed ones cleared
pub slots_shift : (r : Raw) (k n : ℕ) → RawOk r → k ≤ n → n ≤ room
    → sets (sets (enc_raw r) 64 (part (enc_raw r) (64 + k * 12) (n * 12 - k * 12))) (64 + (n * 12 - k * 12)) (replicate (k * 12) 0) ≡ enc_raw (with_slots (shifted k n r.slots) r)
unfolding enc_raw
slots_shift r k n ok h hn =
    let hd = enc_fields head_widths r.nums in
    let rows = enc_rows enc_slot no_slot room r.slots in
    let some = enc_rows enc_slot no_slot n (take n r.slots) in
    let other = enc_rows enc_slot no_slot (room - n) (drop n r.slots) in
    let m : ℕ = k * 12 in
    let w : ℕ = n * 12 - k * 12 in
    let dr = drop m some in
    let zs : List ℕ = replicate m 0 in
    let hl : length hd ≡ 64 = head_len r.nums in
    let two : rows ≡ some ++ other = rows_two n r.slots ok.many hn in
    let sl : length some ≡ n * 12 = length_rows enc_slot no_slot 12 slot_len n (take n r.slots) in
    let dl : length dr ≡ w = length-drop m some ∙ ap (λ (x : ℕ). x - m) sl in
    let zl : length zs ≡ m = length-replicate m 0 in
    let al : length some ≡ length (dr ++ zs) = sl ∙ sym (length-append dr zs ∙ ap₂ ◌+◌ dl zl ∙ omega arith) in
    let moved : part (hd ++ rows) (64 + m) w ≡ dr =
    ap (take w) (ap (λ (x : ℕ). drop (x + m) (hd ++ rows)) (sym hl) ∙ drop-append-add hd rows m ∙ ap (drop m) two ∙ drop-append-le m some other (rw sl (omega arith))) ∙ take_at dr other w dl in
    let first : sets (hd ++ rows) 64 dr ≡ hd ++ sets rows 0 dr = in_slots r 0 dr in
    let at : 64 + w ≡ length hd + w = rw hl (omega arith) in
    let cat : w ≡ 0 + length dr = rw dl (omega arith) in
    ap (λ (l : List ℕ). sets (sets (hd ++ rows) 64 l) (64 + w) zs) moved
    ∙ ap (λ (l : List ℕ). sets l (64 + w) zs) first
    ∙ ap (λ (j : ℕ). sets (hd ++ sets rows 0 dr) j zs) at
    ∙ sets_right hd (sets rows 0 dr) w zs
    ∙ ap (λ (l : List ℕ). hd ++ l)
    (ap (λ (j : ℕ). sets (sets rows 0 dr) j zs) cat ∙ sym (sets_append rows 0 dr zs) ∙ ap (λ (l : List ℕ). sets l 0 (dr ++ zs)) two
    ∙ sets_left some other 0 (dr ++ zs) (rw (sym al) (omega arith)) ∙ ap (λ (l : List ℕ). l ++ other) (sets_whole some (dr ++ zs) al) ∙ append_assoc dr zs other
    ∙ sym (shifted_rows k n r.slots ok.many h hn))

all_app : (x y : List Slot) → All SlotOk x → All SlotOk y → All SlotOk (x ++ y)
all_app [] y h k = k
all_app (a ∷ x) y h k = (h.0, all_app x y h.1 k)

all_drop : (k : ℕ) (l : List Slot) → All SlotOk l → All SlotOk (drop k l)
all_drop zero l h = h
all_drop (suc k) [] h = tt
all_drop (suc k) (a ∷ l) h = all_drop k l h.1

all_zeros : (k : ℕ) → All SlotOk (replicate k no_slot)
all_zeros zero = tt
all_zeros (suc k) = ((lit< tt, lit< tt), all_zeros k)

all_take : (k : ℕ) (l : List Slot) → All SlotOk l → All SlotOk (take k l)
all_take zero l h = tt
all_take (suc k) [] h = tt
all_take (suc k) (a ∷ l) h = (h.0, all_take k l h.1)

pub shift_ok : (r : Raw) (k n : ℕ) → RawOk r → k ≤ n → n ≤ room → RawOk (with_slots (shifted k n r.slots) r)
shift_ok r k n ok h hn =
    let l = r.slots in
    let first : length (drop k (take n l)) ≡ n - k = length-drop k (take n l) ∙ ap (λ (x : ℕ). x - k) (length-take-le n l (rw ok.many hn)) in
    let rest : length (replicate k no_slot ++ drop n l) ≡ k + (room - n) = length-append (replicate k no_slot) (drop n l) ∙ ap₂ ◌+◌ (length-replicate k no_slot) (length-drop n l ∙ ap (λ (x : ℕ). x - n) ok.many) in
    record {
      heads = ok.heads;
      many = length-append (drop k (take n l)) (replicate k no_slot ++ drop n l) ∙ ap₂ ◌+◌ first rest ∙ omega arith;
      good = all_app (drop k (take n l)) (replicate k no_slot ++ drop n l) (all_drop k (take n l) (all_take n l ok.good)) (all_app (replicate k no_slot) (drop n l) (all_zeros k) (all_drop n l ok.good));
    }

-- ---- the code's stores

-- p₁ and p₂ are the bytes after each store
pub slot_put : (p p₁ p₂ : List ℕ) (j t v : ℕ) → length p ≡ 256 → Bytes p → j < room
    → p₁ ≡ sets p (64 + j * 12) (enc 4 t) → p₂ ≡ sets p₁ (64 + j * 12 + 4) (enc 8 v) → p₂ ≡ enc_raw (with_slot j t v (dec_raw p))
slot_put p p₁ p₂ j t v n b h e₁ e₂ =
    e₂ ∙ ap (λ (l : List ℕ). sets l (64 + j * 12 + 4) (enc 8 v)) e₁ ∙ slot_two p (64 + j * 12) t v
    ∙ ap (λ (l : List ℕ). sets l (64 + j * 12) (enc_slot (record { stamp = t; value = v }))) (leaf_none p n b)
    ∙ slot_set (dec_raw p) j (record { stamp = t; value = v }) (raw_ok p b) h

pub slots_drop : (p p₁ p₂ : List ℕ) (k n : ℕ) → length p ≡ 256 → Bytes p → k ≤ n → n ≤ room
    → p₁ ≡ sets p 64 (part p (64 + k * 12) (n * 12 - k * 12)) → p₂ ≡ sets p₁ (64 + (n * 12 - k * 12)) (replicate (k * 12) 0) → p₂ ≡ enc_raw (dropped k n (dec_raw p))
slots_drop p p₁ p₂ k n l b h hn e₁ e₂ =
    e₂ ∙ ap (λ (x : List ℕ). sets x (64 + (n * 12 - k * 12)) (replicate (k * 12) 0)) e₁
    ∙ ap (λ (x : List ℕ). sets (sets x 64 (part x (64 + k * 12) (n * 12 - k * 12))) (64 + (n * 12 - k * 12)) (replicate (k * 12) 0)) (leaf_none p l b)
    ∙ slots_shift (dec_raw p) k n (raw_ok p b) h hn

pub slots_many : (s : List ℕ) → length (dec_raw s).slots ≡ room
unfolding dec_raw
slots_many s = length_dec_rows dec_slot 12 room (drop 64 s)
