-- Loops over rows, one turn each: what is left decides the whole.
use Prim.Native.Nat.{ℕ, suc, ◌+◌, ◌*◌, ◌-◌, ◌<◌, ◌≤◌}
use mathlib.Core.Path.{◌≡◌, refl, sym, ap, ap₂, ◌∙◌}
use mathlib.Core.List.{List, ◌++◌, append_assoc}
use native.Mathlib.Omega.{arith}
use borrow.Rule.Slice.PartMut.{mid_of, put_mid, mid_len}
use lib.ListN.{length, take, drop, length-append}
use lib.Seq.{length-take-le, take_at, drop_at}
use Rattle.le.specs.Layout.{each_row}
use Rattle.le.proofs.RoundTrip.{each_rows}
use Rattle.layout.specs.Record.{Raw, no_raw, enc_raw, dec_raw, encode, decode, change_all}

-- rows i to i + n - 1 changed by g
abbrev pub left : (List ℕ → List ℕ) → ℕ → ℕ → List ℕ → List ℕ
left g i n s = take (i * 256) s ++ each_row g 256 n (drop (i * 256) s)

each_more : (g : List ℕ → List ℕ) (c n : ℕ) (s : List ℕ) → each_row g c (suc n) s ≡ g (take c s) ++ each_row g c n (drop c s)
unfolding each_row
each_more g c n s = refl

each_none : (g : List ℕ → List ℕ) (c : ℕ) (s : List ℕ) → each_row g c 0 s ≡ s
unfolding each_row
each_none g c s = refl

-- one turn: row i has become p
pub each_turn : (g : List ℕ → List ℕ) (n : ℕ) (s p : List ℕ) (i k : ℕ) → k ≡ 256 → i < n → n * 256 ≤ length s → length p ≡ 256 → p ≡ g (mid_of (i * 256) k s)
    → left g (i + 1) (n - (i + 1)) (put_mid (i * 256) k s p) ≡ left g i (n - i) s
each_turn g n s p i k q h nl lp e =
    let a = take (i * 256) s in
    let t = drop (i * 256) s in
    let la : length (a ++ p) ≡ i * 256 + 256 = length-append a p ∙ ap₂ ◌+◌ (length-take-le (i * 256) s (omega arith)) lp in
    let m : (i + 1) * 256 ≡ i * 256 + 256 = omega arith in
    let z : n - i ≡ suc (n - (i + 1)) = omega arith in
    let e' : p ≡ g (take 256 t) = e ∙ ap (λ (j : ℕ). g (take j t)) q in
    ap (λ (j : ℕ). left g (i + 1) (n - (i + 1)) (put_mid (i * 256) j s p)) q
    ∙ ap (λ (l : List ℕ). left g (i + 1) (n - (i + 1)) l) (sym (append_assoc a p (drop 256 t)))
    ∙ ap (λ (j : ℕ). take j (a ++ p ++ drop 256 t) ++ each_row g 256 (n - (i + 1)) (drop j (a ++ p ++ drop 256 t))) m
    ∙ ap₂ (λ (x y : List ℕ). x ++ each_row g 256 (n - (i + 1)) y) (take_at (a ++ p) (drop 256 t) (i * 256 + 256) la) (drop_at (a ++ p) (drop 256 t) (i * 256 + 256) la)
    ∙ append_assoc a p (each_row g 256 (n - (i + 1)) (drop 256 t))
    ∙ ap (λ (l : List ℕ). a ++ (l ++ each_row g 256 (n - (i + 1)) (drop 256 t))) e'
    ∙ ap (λ (l : List ℕ). a ++ l) (sym (ap (λ (j : ℕ). each_row g 256 j t) z ∙ each_more g 256 (n - (i + 1)) t))

-- no row is left
pub each_end : (g : List ℕ → List ℕ) (s : List ℕ) (i n : ℕ) → n ≡ 0 → left g i n s ≡ s
each_end g s i n e =
    ap (λ (j : ℕ). left g i j s) e ∙ ap (λ (l : List ℕ). take (i * 256) s ++ l) (each_none g 256 (drop (i * 256) s)) ∙ lib.ListN.take-append-drop (i * 256) s

-- the whole loop is one change of all rows
pub each_all : (f : Raw → Raw) (n : ℕ) (s : List ℕ) → left (λ p. enc_raw (f (dec_raw p))) 0 n s ≡ encode n (change_all f (decode n s))
unfolding encode decode
each_all f n s = each_rows enc_raw no_raw dec_raw f 256 n s

-- a row lent as a part has 256 bytes
pub row_len : (n : ℕ) (s : List ℕ) (i : ℕ) → i < n → n * 256 ≤ length s → length (mid_of (i * 256) (i * 256 + 256 - i * 256) s) ≡ 256
row_len n s i h nl = mid_len (i * 256) (i * 256 + 256) s (omega arith) ∙ omega arith
