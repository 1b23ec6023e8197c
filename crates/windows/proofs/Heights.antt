-- Words, the values that they stand for, and these raised by 2^63.
use Prim.Native.Nat.{ℕ, zero, suc, ◌+◌, ◌-◌, ◌^◌, ◌<◌, ◌≤◌}
use mathlib.Core.Path.{◌≡◌, sym, ap, ◌∙◌}
use mathlib.Core.List.{List, [], ◌∷◌, ◌++◌, map}
use native.Mathlib.Omega.{arith}
use native.Mathlib.Decide.{dec_le, dec_lt}
use lib.IntN.{pos, negsuc, ◌-ℤ◌}
use lib.Signed.{le_z}
use lib.Dec.{leb}
use lib.ListN.{length, get_or, take, drop, length-map, get_or-map}
use lib.Seq.{slice, slice-cons}
use mir.Syntax.{w64}
use mir.Val.{to_z}
use mir.Facts.{to_z_pos}
use borrow.Author.Tests.{lt-ltb, le-ltb, le-leb, lt-leb}
use Rattle.le.specs.Bytes.{Bytes}
use Rattle.le.proofs.RoundTrip.{All}
use Rattle.machine.specs.State.{room}
use Rattle.layout.specs.Record.{Slot, Raw, no_slot, dec_raw, slot_at}
use Rattle.layout.proofs.Laws.{SlotOk, raw_ok}
use Rattle.layout.proofs.Slots.{slots_many}
use Rattle.num.proofs.Arith.{less}
use Rattle.num.proofs.Signed.{to_z_high}
use Rattle.windows.specs.Window.{slot_words, raised, heights}

pub raised_low : (b : ℕ) → b < 2 ^ 63 → raised b ≡ b + 2 ^ 63
unfolding raised
raised_low b h = rw (lt-ltb b (2 ^ 63) h)

pub raised_high : (b : ℕ) → 2 ^ 63 ≤ b → raised b ≡ b - 2 ^ 63
unfolding raised
raised_high b h = rw (le-ltb b (2 ^ 63) h)

-- a word raised is a word, and raised again it is the first
pub raised_small : (b : ℕ) → b < 2 ^ 64 → raised b < 2 ^ 64
raised_small b h = go (dec_lt b (2 ^ 63))
  where
    go : Dec (b < 2 ^ 63) → raised b < 2 ^ 64
    go (yes l) = rw (raised_low b l) (omega arith)
    go (no l) = rw (raised_high b (omega arith)) (omega arith)

pub raised_back : (b : ℕ) → b < 2 ^ 64 → raised (raised b) ≡ b
raised_back b h = go (dec_lt b (2 ^ 63))
  where
    go : Dec (b < 2 ^ 63) → raised (raised b) ≡ b
    go (yes l) = rw (raised_low b l, raised_high (b + 2 ^ 63) (omega arith)) (omega arith)
    go (no l) = rw (raised_high b (omega arith), raised_low (b - 2 ^ 63) (omega arith)) (omega arith)

-- the value of a word is 2^63 less
pub value_is : (b : ℕ) → b < 2 ^ 64 → to_z w64 b ≡ pos (raised b) -ℤ pos (2 ^ 63)
value_is b h = go (dec_lt b (2 ^ 63))
  where
    go : Dec (b < 2 ^ 63) → to_z w64 b ≡ pos (raised b) -ℤ pos (2 ^ 63)
    go (yes l) = let e : b + 2 ^ 63 - 2 ^ 63 ≡ b = omega arith in rw (to_z_pos w64 l, raised_low b l) (sym (less (b + 2 ^ 63) (2 ^ 63) (omega arith) ∙ ap pos e))
    go (no l) =
        let e : 2 ^ 64 - suc b ≡ 2 ^ 63 - suc (b - 2 ^ 63) = omega arith in
        rw (to_z_high b (omega arith), raised_high b (omega arith), lt-ltb (b - 2 ^ 63) (2 ^ 63) (omega arith)) (ap negsuc e)

-- two tests of numbers that are ordered alike
leb_alike : (a b c d : ℕ) → (a ≤ b → c ≤ d) → (c ≤ d → a ≤ b) → leb a b ≡ leb c d
leb_alike a b c d f g = go (dec_le a b)
  where
    go : Dec (a ≤ b) → leb a b ≡ leb c d
    go (yes l) = le-leb a b l ∙ sym (le-leb c d (f l))
    go (no l) = let m : c ≤ d → ⊥ = λ q. l (g q) in lt-leb a b (omega arith) ∙ sym (lt-leb c d (omega arith))

-- raised values are ordered as the values are
pub order : (b c : ℕ) → b < 2 ^ 64 → c < 2 ^ 64 → le_z (to_z w64 b) (to_z w64 c) ≡ leb (raised b) (raised c)
order b c h k = go (dec_lt b (2 ^ 63)) (dec_lt c (2 ^ 63))
  where
    go : Dec (b < 2 ^ 63) → Dec (c < 2 ^ 63) → le_z (to_z w64 b) (to_z w64 c) ≡ leb (raised b) (raised c)
    go (yes l) (yes m) = rw (to_z_pos w64 l, to_z_pos w64 m, raised_low b l, raised_low c m) (leb_alike b c (b + 2 ^ 63) (c + 2 ^ 63) (λ q. omega arith) (λ q. omega arith))
    go (yes l) (no m) = rw (to_z_pos w64 l, to_z_high c (omega arith), raised_low b l, raised_high c (omega arith)) (sym (lt-leb (b + 2 ^ 63) (c - 2 ^ 63) (omega arith)))
    go (no l) (yes m) = rw (to_z_high b (omega arith), to_z_pos w64 m, raised_high b (omega arith), raised_low c m) (sym (le-leb (b - 2 ^ 63) (c + 2 ^ 63) (omega arith)))
    go (no l) (no m) =
        rw (to_z_high b (omega arith), to_z_high c (omega arith), raised_high b (omega arith), raised_high c (omega arith))
        (leb_alike (2 ^ 64 - suc c) (2 ^ 64 - suc b) (b - 2 ^ 63) (c - 2 ^ 63) (λ q. omega arith) (λ q. omega arith))

-- ---- words from a list

-- words of 8 bytes
abbrev pub Words : List ℕ → Type 0
Words ws = All (λ (v : ℕ). v < 256 ^ 8) ws

pub words_append : (xs ys : List ℕ) → Words xs → Words ys → Words (xs ++ ys)
words_append [] ys a b = b
words_append (x ∷ xs) ys a b = (a.0, words_append xs ys a.1 b)

pub words_take : (n : ℕ) (ws : List ℕ) → Words ws → Words (take n ws)
words_take zero ws a = tt
words_take (suc n) [] a = tt
words_take (suc n) (v ∷ ws) a = (a.0, words_take n ws a.1)

pub words_drop : (n : ℕ) (ws : List ℕ) → Words ws → Words (drop n ws)
words_drop zero ws a = a
words_drop (suc n) [] a = tt
words_drop (suc n) (v ∷ ws) a = words_drop n ws a.1

pub words_slice : (i n : ℕ) (ws : List ℕ) → Words ws → Words (slice i n ws)
words_slice i n ws a = words_drop i (take n ws) (words_take n ws a)

-- those in the slots of a record
pub slots_words : (s : List ℕ) → Bytes s → Words (slot_words (dec_raw s))
slots_words s b = go (dec_raw s).slots (raw_ok s b).good
  where
    go : (l : List Slot) → All SlotOk l → Words (map (λ (e : Slot). e.value) l)
    go [] a = tt
    go (e ∷ l) a = (a.0.1, go l a.1)

pub slots_length : (s : List ℕ) → length (slot_words (dec_raw s)) ≡ room
slots_length s = length-map (dec_raw s).slots (λ (e : Slot). e.value) ∙ slots_many s

pub slot_word : (r : Raw) (i : ℕ) → get_or (slot_words r) i 0 ≡ (slot_at i r).value
slot_word r i = get_or-map (λ (e : Slot). e.value) r.slots i no_slot

-- one more in front
pub heights_more : (ws : List ℕ) (i n u : ℕ) → i < n → n ≤ length ws → u ≡ raised (get_or ws i 0) → heights i n ws ≡ u ∷ heights (i + 1) n ws
heights_more ws i n u h k e = let q : i + 1 ≡ suc i = omega arith in rw (e, q, slice-cons i n ws 0 h k)
