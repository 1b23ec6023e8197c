-- Laws of little-endian numbers and of runs of bytes.
use Prim.Native.Nat.{ℕ, zero, suc, ◌+◌, ◌*◌, ◌/◌, ◌%◌, ◌^◌, ◌<◌, ◌≤◌, ◌-◌}
use mathlib.Core.Path.{◌≡◌, refl, sym, ap, ap₂, ◌∙◌}
use mathlib.Core.List.{List, [], ◌∷◌, ◌++◌, append_assoc}
use native.Mathlib.Nat.{mod-lt, div-lt_iff_lt-mul, pow-suc, add-zero, lt_of_lt_of_le, pow-le-pow_right, sub-zero}
use native.Mathlib.Omega.{arith}
use lib.ListN.{length, get_or, take, drop, set, length-take, length-set}
use lib.Seq.{get_or-drop, drop-cons, sets, sets-eq, drop-set-lt, length-sets, drop-drop}
use borrow.Rule.Slice.PartMut.{put_mid}
use lib.Dec.{lit<, lit≤}
use Rattle.le.specs.Bytes.{le, enc, part, Bytes}

pub length_enc : (n v : ℕ) → length (enc n v) ≡ n
unfolding enc
length_enc zero v = refl
length_enc (suc n) v = ap suc (length_enc n (v / 256))

pub enc_bytes : (n v : ℕ) → Bytes (enc n v)
unfolding enc
enc_bytes zero v i = lit< tt
enc_bytes (suc n) v zero = mod-lt v (lit< tt)
enc_bytes (suc n) v (suc i) = enc_bytes n (v / 256) i

-- decode of encode
pub le_enc : (n v : ℕ) → v < 256 ^ n → le (enc n v) ≡ v
unfolding enc le
le_enc zero v h = omega arith
le_enc (suc n) v h =
    let h' : v / 256 < 256 ^ n = (div-lt_iff_lt-mul {k = 256} (lit< tt)).1 (rw (pow-suc 256 n) at h) in
    rw (le_enc n (v / 256) h') (omega arith)

-- encode of decode
pub enc_le : (s : List ℕ) → Bytes s → enc (length s) (le s) ≡ s
unfolding enc le
enc_le [] b = refl
enc_le (x ∷ s) b =
    let hx : x < 256 = b 0 in
    let e : (x + 256 * le s) % 256 ≡ x = omega arith in
    let d : (x + 256 * le s) / 256 ≡ le s = omega arith in
    ap₂ ◌∷◌ e (ap (enc (length s)) d ∙ enc_le s (λ i. b (suc i)))

pub le_lt : (s : List ℕ) → Bytes s → le s < 256 ^ length s
unfolding le
le_lt [] b = lit< tt
le_lt (x ∷ s) b =
    let hx : x < 256 = b 0 in
    let ih : le s < 256 ^ length s = le_lt s (λ i. b (suc i)) in
    rw (pow-suc 256 (length s)) (omega arith)

pub drop_bytes : (s : List ℕ) (n : ℕ) → Bytes s → Bytes (drop n s)
drop_bytes s n b i = rw get_or-drop (b (n + i))

pub take_bytes : (n : ℕ) (s : List ℕ) → Bytes s → Bytes (take n s)
take_bytes zero s b i = lit< tt
take_bytes (suc n) [] b i = lit< tt
take_bytes (suc n) (x ∷ s) b zero = b 0
take_bytes (suc n) (x ∷ s) b (suc i) = take_bytes n s (λ j. b (suc j)) i

-- one byte more at the front of a part
pub le_part : (s : List ℕ) (at n : ℕ) → at < length s → le (part s at (suc n)) ≡ get_or s at 0 + 256 * le (part s (suc at) n)
unfolding le
le_part s at n h = rw (drop-cons s at 0 h)

-- one turn of the loop that stores: the first byte of those left is stored
pub put_turn : (s : List ℕ) (at i n w : ℕ) → i < n →
    sets (set s (at + i) (w % 256)) (at + (i + 1)) (enc (n - (i + 1)) (w / 256)) ≡ sets s (at + i) (enc (n - i) w)
unfolding enc
put_turn s at i n w h =
    let e : n - i ≡ suc (n - (i + 1)) = omega arith in
    let f : at + (i + 1) ≡ suc (at + i) = omega arith in
    rw (e, f)

-- one turn of the loop that reads, from the highest byte down
pub get_turn : (s : List ℕ) (at i n r b : ℕ) → 0 < i → i ≤ n → at + n ≤ length s → r ≡ le (part s (at + i) (n - i)) → b ≡ get_or s (at + (i - 1)) 0 →
    r * 256 + b ≡ le (part s (at + (i - 1)) (n - (i - 1)))
get_turn s at i n r b h k l p q =
    let e : n - (i - 1) ≡ suc (n - i) = omega arith in
    let f : suc (at + (i - 1)) ≡ at + i = omega arith in
    rw (e, p, q) (omega (arith, rw f at (le_part s (at + (i - 1)) (n - i) (omega arith))))

pub part_below : (s : List ℕ) (at n : ℕ) → Bytes s → le (part s at n) < 256 ^ n
part_below s at n b =
    lt_of_lt_of_le (le_lt (part s at n) (take_bytes n (drop at s) (drop_bytes s at b)))
    (pow-le-pow_right {n = 256} (lit< tt) (rw length-take (omega arith)))

-- a part of at most 7 bytes, and one more byte, stay below 2 ^ 64
pub part_lt : (s : List ℕ) (at n : ℕ) → Bytes s → n ≤ 7 → le (part s at n) < 2 ^ 56
part_lt s at n b h = lt_of_lt_of_le (part_below s at n b) (pow-le-pow_right {n = 256} (lit< tt) h)

enc_none : (v : ℕ) → enc 0 v ≡ []
unfolding enc
enc_none v = refl

le_none : 0 ≡ le []
unfolding le
le_none = refl

pub put_done : (s t : List ℕ) (at n w : ℕ) → n ≡ 0 → sets s at (enc n w) ≡ t → s ≡ t
put_done s t at n w e p = rw (e, enc_none) at p

pub get_none : (s : List ℕ) (at n : ℕ) → n ≡ 0 → 0 ≡ le (part s at n)
get_none s at n e = rw e le_none

-- the loop that reads has come to its first byte
pub get_done : (s : List ℕ) (at n i r : ℕ) → i ≡ 0 → r ≡ le (part s (at + i) (n - i)) → r ≡ le (part s at n)
get_done s at n i r e p = simp (e, add-zero, sub-zero) at p

pub le_one : (s : List ℕ) (at : ℕ) → at < length s → le (part s at 1) ≡ get_or s at 0
le_one s at h = le_part s at 0 h ∙ omega (arith, le_none)

part_cons : (s : List ℕ) (at n : ℕ) → at < length s → part s at (suc n) ≡ get_or s at 0 ∷ part s (suc at) n
part_cons s at n h = rw (drop-cons s at 0 h)

-- one turn of the loop that moves bytes down: those that are left to move stand above the store
pub shift_turn : (s : List ℕ) (at by i n : ℕ) → i < n → at + by + n ≤ length s →
    sets (set s (at + i) (get_or s (at + by + i) 0)) (at + (i + 1)) (part (set s (at + i) (get_or s (at + by + i) 0)) (at + by + (i + 1)) (n - (i + 1)))
    ≡ sets s (at + i) (part s (at + by + i) (n - i))
shift_turn s at by i n h k =
    let e : n - i ≡ suc (n - (i + 1)) = omega arith in
    let f : at + (i + 1) ≡ suc (at + i) = omega arith in
    let g : at + by + (i + 1) ≡ suc (at + by + i) = omega arith in
    let below : at + i < suc (at + by + i) = omega arith in
    let x = get_or s (at + by + i) 0 in
    rw (e, f, g) (ap (λ (l : List ℕ). sets (set s (at + i) x) (suc (at + i)) (take (n - (i + 1)) l)) (drop-set-lt (suc (at + by + i)) s (at + i) x below)
    ∙ sym (ap (sets s (at + i)) (part_cons s (at + by + i) (n - (i + 1)) (omega arith))))

-- w bytes moved down at once, and then those above them
pub shift_block : (s : List ℕ) (at by w n : ℕ) → w ≤ n → at + by + n ≤ length s →
    (let t = sets s at (part s (at + by) w) in sets t (at + w) (part t (at + by + w) (n - w))) ≡ sets s at (part s (at + by) n)
shift_block s at by zero n h k = simp (add-zero, sub-zero)
shift_block s at by (suc w) zero h k = absurd (omega arith)
shift_block s at by (suc w) (suc n) h k =
    let x = get_or s (at + by) 0 in
    let s' = set s at x in
    let below : at < suc (at + by) = omega arith in
    let e : suc at + by ≡ suc (at + by) = omega arith in
    let f : at + suc w ≡ suc at + w = omega arith in
    let g : at + by + suc w ≡ suc at + by + w = omega arith in
    let same : (m : ℕ) → part s' (suc at + by) m ≡ part s (suc (at + by)) m
    = λ m. ap (λ (j : ℕ). part s' j m) e ∙ ap (take m) (drop-set-lt (suc (at + by)) s at x below) in
    let one : (m : ℕ) → sets s at (part s (at + by) (suc m)) ≡ sets s' (suc at) (part s' (suc at + by) m)
    = λ m. ap (sets s at) (part_cons s (at + by) m (omega arith)) ∙ ap (sets s' (suc at)) (sym (same m)) in
    let left : suc n - suc w ≡ n - w = omega arith in
    let ih = shift_block s' (suc at) by w n (omega arith) (rw length-set (omega arith)) in
    rw (one w, f, g, left) (ih ∙ sym (one n))

-- one turn of the loop that moves w bytes at once
pub shift_turns : (s t : List ℕ) (at by i w n : ℕ) → w ≤ n - i → i ≤ n → at + by + n ≤ length s → t ≡ sets s (at + i) (part s (at + i + by) w) →
    sets t (at + (i + w)) (part t (at + by + (i + w)) (n - (i + w))) ≡ sets s (at + i) (part s (at + by + i) (n - i))
shift_turns s t at by i w n h l k e =
    let a : at + (i + w) ≡ at + i + w = omega arith in
    let b : at + by + (i + w) ≡ at + i + by + w = omega arith in
    let c : n - (i + w) ≡ n - i - w = omega arith in
    let d : at + by + i ≡ at + i + by = omega arith in
    rw (a, b, c, d, e) (shift_block s (at + i) by w (n - i) h (omega arith))

pub shift_two : (w : ℕ) (s t u : List ℕ) (at by : ℕ) → at + by + (w + w) ≤ length s → t ≡ sets s at (part s (at + by) w) → u ≡ sets t (at + w) (part t (at + w + by) w)
    → u ≡ sets s at (part s (at + by) (w + w))
shift_two w s t u at by k e f =
    let q : at + w + by ≡ at + by + w = omega arith in
    let d : w ≡ w + w - w = omega arith in
    f ∙ ap₂ (λ (j m : ℕ). sets t (at + w) (part t j m)) q d ∙ ap (λ (x : List ℕ). sets x (at + w) (part x (at + by + w) (w + w - w))) e ∙ shift_block s at by w (w + w) (omega arith) k

pub shift_three : (s t u v : List ℕ) (at by : ℕ) → at + by + 12 ≤ length s → t ≡ sets s at (part s (at + by) 4)
    → u ≡ sets t (at + 4) (part t (at + 4 + by) 4) → v ≡ sets u (at + 8) (part u (at + 8 + by) 4) → v ≡ sets s at (part s (at + by) 12)
shift_three s t u v at by k e f g =
    let a : at + 8 + by ≡ at + by + 8 = omega arith in
    let l : length t ≡ length s = ap length e ∙ length-sets s at (part s (at + by) 4) in
    g ∙ ap (λ (j : ℕ). sets u (at + 8) (part u j 4)) a
    ∙ shift_turns t u at by 4 4 12 (lit≤ tt) (lit≤ tt) (rw l k) f
    ∙ ap (λ (x : List ℕ). sets x (at + 4) (part x (at + by + 4) 8)) e ∙ shift_block s at by 4 12 (lit≤ tt) k

pub shift_done : (s t : List ℕ) (at a n : ℕ) → n ≡ 0 → sets s at (part s a n) ≡ t → s ≡ t
shift_done s t at a n e p = rw e at p

-- what a part of a slice leaves, as numbers put into the whole
pub put_part : (s t vs : List ℕ) (at n : ℕ) → t ≡ vs → length vs ≡ n → at + n ≤ length s → put_mid at n s t ≡ sets s at vs
put_part s t vs at n e l h =
    rw e (sym (sets-eq vs s at (omega arith) ∙ append_assoc (take at s) vs (drop (at + length vs) s) ∙ ap (λ (r : List ℕ). take at s ++ (vs ++ r)) (ap (λ (k : ℕ). drop (at + k) s) l ∙ sym (drop-drop n at s))))
