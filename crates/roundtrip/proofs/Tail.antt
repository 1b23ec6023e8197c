-- The slots of a record that passes are those of the events it holds.
use Prim.Native.Nat.{ℕ, zero, suc, ◌+◌, ◌*◌, ◌-◌, ◌^◌, ◌<◌, ◌≤◌}
use mathlib.Core.Path.{◌≡◌, refl, sym, ap, ap₂, ◌∙◌}
use mathlib.Core.List.{List, [], ◌∷◌, ◌++◌, map}
use mathlib.Core.Bool.{Bool, true, false, cond}
use native.Mathlib.Omega.{arith}
use native.Mathlib.Nat.{zero-add, sub-zero}
use lib.Dec.{eqb, leb}
use lib.ListN.{length, get_or, take, drop, replicate, length-drop, replicate-append-replicate}
use lib.Seq.{drop-drop}
use borrow.Author.Tests.{eqb-true, leb-true, le-leb}
use mir.Syntax.{w64}
use mir.Val.{to_z}
use mir.Facts.{of_z-to_z, sfits_to_z}
use Rattle.machine.specs.State.{room}
use Rattle.le.specs.Bytes.{le, all_zero}
use Rattle.le.specs.Layout.{dec_rows, dec_fields}
use Rattle.le.proofs.RoundTrip.{All}
use Rattle.layout.specs.Record.{Slot, no_slot, dec_slot, dec_raw}
use Rattle.layout.proofs.Laws.{SlotOk}
use Rattle.layout.proofs.Slots.{slots_many}
use Rattle.encoding.specs.View.{pad_to, slot_of}
use Rattle.encoding.specs.Back.{event_of}
use Rattle.encoding.specs.Sound.{IsValue, Rising}
use Rattle.valid.specs.Valid.{risen}
use Rattle.valid.proofs.Tests.{left, right}

pad_nil : {A : Type 0} (d : A) (n : ℕ) → pad_to n d [] ≡ replicate n d
unfolding pad_to
pad_nil d zero = refl
pad_nil d (suc n) = ap (◌∷◌ d) (pad_nil d n)

pad_take : {A : Type 0} (d : A) (n c : ℕ) (l : List A) → length l ≡ n → c ≤ n → drop c l ≡ replicate (n - c) d → pad_to n d (take c l) ≡ l
unfolding pad_to
pad_take d n zero l h k e = pad_nil d n ∙ sym (rw (sub-zero n) at e)
pad_take d zero (suc c) l h k e = absurd (omega arith)
pad_take d (suc n) (suc c) [] h k e = absurd (omega arith)
pad_take d (suc n) (suc c) (a ∷ l) h k e =
    let q : suc n - suc c ≡ n - c = omega arith in
    ap (◌∷◌ a) (pad_take d n c l (omega arith) (omega arith) (e ∙ ap (λ (j : ℕ). replicate j d) q))

pub zero_list : (l : List ℕ) → all_zero l ≡ true → l ≡ replicate (length l) 0
unfolding all_zero
zero_list [] e = refl
zero_list (x ∷ l) e = ap₂ ◌∷◌ (eqb-true x 0 (first (eqb x 0) e)) (zero_list l (second (eqb x 0) e))
  where
    never : false ≡ true → ⊥
    never q = let z : ◌≡◌ {A = ℕ} 0 1 = ap (λ (b : Bool). cond b 1 0) q in omega arith

    first : (p : Bool) → cond p (all_zero l) false ≡ true → p ≡ true
    first true q = refl
    first false q = q

    second : (p : Bool) → cond p (all_zero l) false ≡ true → all_zero l ≡ true
    second true q = q
    second false q = absurd (never q)

slot_zero : dec_slot (replicate 12 0) ≡ no_slot
unfolding dec_slot dec_fields le
slot_zero = refl

rows_zero : (m : ℕ) → dec_rows dec_slot 12 m (replicate (m * 12) 0) ≡ replicate m no_slot
unfolding dec_rows
rows_zero zero = refl
rows_zero (suc m) =
    let e : suc m * 12 ≡ 12 + m * 12 = omega arith in
    let z : replicate {A = ℕ} (suc m * 12) 0 ≡ replicate 12 0 ++ replicate (m * 12) 0 = ap (λ (j : ℕ). replicate {A = ℕ} j 0) e ∙ sym (replicate-append-replicate {A = ℕ} 12 (m * 12) 0) in
    ap₂ ◌∷◌ (ap (λ (l : List ℕ). dec_slot (take 12 l)) z ∙ slot_zero) (ap (λ (l : List ℕ). dec_rows dec_slot 12 m (drop 12 l)) z ∙ rows_zero m)

drop_rows : (c m : ℕ) (s : List ℕ) → drop c (dec_rows dec_slot 12 (c + m) s) ≡ dec_rows dec_slot 12 m (drop (c * 12) s)
unfolding dec_rows
drop_rows zero m s = rw (zero-add m)
drop_rows (suc c) m s =
    let e : suc c + m ≡ suc (c + m) = omega arith in
    let f : 12 + c * 12 ≡ suc c * 12 = omega arith in
    rw e (drop_rows c m (drop 12 s) ∙ ap (dec_rows dec_slot 12 m) (drop-drop (c * 12) 12 s ∙ ap (λ (j : ℕ). drop j s) f))

tail_zero : (p : List ℕ) (c : ℕ) → length p ≡ 256 → c ≤ room → all_zero (drop (64 + c * 12) p) ≡ true → drop c (dec_raw p).slots ≡ replicate (room - c) no_slot
unfolding dec_raw
tail_zero p c n h e =
    let q : room ≡ c + (room - c) = omega arith in
    let t = drop (64 + c * 12) p in
    let len : length t ≡ (room - c) * 12 = length-drop (64 + c * 12) p ∙ omega arith in
    ap (λ (j : ℕ). drop c (dec_rows dec_slot 12 j (drop 64 p))) q ∙ drop_rows c (room - c) (drop 64 p)
    ∙ ap (dec_rows dec_slot 12 (room - c)) (drop-drop (c * 12) 64 p ∙ zero_list t e ∙ ap (λ (j : ℕ). replicate j 0) len)
    ∙ rows_zero (room - c)

slot_back : (l : List Slot) → All SlotOk l → map slot_of (map event_of l) ≡ l
slot_back [] h = refl
slot_back (e ∷ l) h = ap₂ ◌∷◌ (λ i. record { stamp = e.stamp; value = of_z-to_z {w = w64} {n = e.value} (record { fits = h.0.1 }) i }) (slot_back l h.1)

all_take : (c : ℕ) (l : List Slot) → All SlotOk l → All SlotOk (take c l)
all_take zero l h = tt
all_take (suc c) [] h = tt
all_take (suc c) (e ∷ l) h = (h.0, all_take c l h.1)

pub slots_back : (p : List ℕ) (c : ℕ) → length p ≡ 256 → c ≤ room → All SlotOk (dec_raw p).slots → all_zero (drop (64 + c * 12) p) ≡ true
    → pad_to room no_slot (map slot_of (map event_of (take c (dec_raw p).slots))) ≡ (dec_raw p).slots
slots_back p c n h ok e =
    let l = (dec_raw p).slots in
    ap (pad_to room no_slot) (slot_back (take c l) (all_take c l ok)) ∙ pad_take no_slot room c l (slots_many p) h (tail_zero p c n h e)

-- bits of 64 are a value's
pub bits_value : (u : ℕ) → u < 2 ^ 64 → IsValue (to_z w64 u)
bits_value u h = (sfits_to_z {w = w64} {n = u} (record { fits = h })).sfits

pub stamps_back : (lo top c : ℕ) (l : List Slot) → c ≤ length l → All SlotOk l → risen top lo c l ≡ true → Rising lo top (map event_of (take c l))
unfolding risen
stamps_back lo top zero l h ok e = leb-true lo top e
stamps_back lo top (suc c) [] h ok e = absurd (omega arith)
stamps_back lo top (suc c) (x ∷ l) h ok e =
    let q : x.stamp + 1 ≡ suc x.stamp = omega arith in
    let r = right (leb lo x.stamp) (risen top (x.stamp + 1) c l) e in (
      leb-true lo x.stamp (left (leb lo x.stamp) (risen top (x.stamp + 1) c l) e),
      bits_value x.value ok.0.1,
      stamps_back (suc x.stamp) top c l (omega arith) ok.1 (rw q at r),
    )

-- stamps that rise, the newest of them below z
pub stamps_under : (lo top z c : ℕ) (l : List Slot) → c ≤ length l → (c ≡ 0 → lo ≤ z) → ((j : ℕ) → suc j ≡ c → (get_or l j no_slot).stamp < z) → risen top lo c l ≡ true → risen z lo c l ≡ true
unfolding risen
stamps_under lo top z zero l h m n e = le-leb lo z (m refl)
stamps_under lo top z (suc c) [] h m n e = absurd (omega arith)
stamps_under lo top z (suc zero) (x ∷ l) h m n e =
    let k : x.stamp < z = n 0 refl in
    rw (left (leb lo x.stamp) (leb (x.stamp + 1) top) e) (le-leb (x.stamp + 1) z (omega arith))
stamps_under lo top z (suc (suc c)) (x ∷ l) h m n e =
    let k = left (leb lo x.stamp) (risen top (x.stamp + 1) (suc c) l) e in
    let r = right (leb lo x.stamp) (risen top (x.stamp + 1) (suc c) l) e in
    rw k (stamps_under (x.stamp + 1) top z (suc c) l (omega arith) (λ q. absurd (omega arith)) (λ j q. n (suc j) (omega arith)) r)
