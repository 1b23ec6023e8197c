-- The windows of the records one after the other: one more looked at.
use Prim.Native.Nat.{ℕ, zero, suc, ◌+◌, ◌*◌, ◌-◌, ◌<◌, ◌≤◌}
use mathlib.Core.Path.{◌≡◌, refl, sym, ap, ap₂, ◌∙◌}
use mathlib.Core.List.{List}
use mathlib.Core.Bool.{Bool, true, false, not, cond, ◌&&◌, true≢false}
use native.Mathlib.Omega.{arith}
use native.Mathlib.Nat.{sub-zero}
use lib.Dec.{leb, ltb}
use lib.ListN.{length, get_or, take, drop}
use lib.Seq.{drop-drop, get_or-drop}
use borrow.Author.Tests.{le-leb, lt-leb, lt-ltb, le-ltb, ltb-true, ltb-false, not-true, not-false}
use Rattle.le.specs.Bytes.{part, all_zero}
use Rattle.operators.specs.Operators.{group_of, is_window}
use Rattle.operators.specs.Limits.{window_limit}
use Rattle.layout.specs.Record.{num, dec_raw, op_f, flag_f}
use Rattle.layout.specs.Windows.{window_length, area_length, window_start}
use Rattle.valid.specs.Valid.{windows_in, area_ok, windows_ok, tail_ok, counted_at, clear_at}
use Rattle.valid.proofs.Tests.{left}
use Rattle.valid.proofs.Link.{byte_in}

-- with j windows behind, those of m records from s on are as they may be
abbrev pub left_over : (j m : ℕ) → (s b : List ℕ) → Bool
left_over j m s b = leb (j + windows_in m s) window_limit && area_ok m s b

and_false : (x : Bool) → (x && false) ≡ false
and_false true = refl
and_false false = refl

-- one record more: whether it is clear, and what is left then
module _ (j m : ℕ) (s b : List ℕ) where
  abbrev clear : Bool → Bool
  clear false = true
  clear true = ltb j window_limit && all_zero (drop (get_or s 5 0 * 8) (take window_length b))

  abbrev rest : Bool → Bool
  rest w = left_over (counted_at w j) m (drop 256 s) (cond w (drop window_length b) b)

  over_more : (w : Bool) → is_window (group_of (get_or s 0 0)) ≡ w → j ≤ window_limit → left_over j (suc m) s b ≡ (clear w && rest w)
  unfolding windows_in area_ok
  over_more false e h = rw e
  over_more true e h =
      let q : j + suc (windows_in m (drop 256 s)) ≡ j + 1 + windows_in m (drop 256 s) = omega arith in
      let z : Bool = all_zero (drop (get_or s 5 0 * 8) (take window_length b)) in
      let a : Bool = area_ok m (drop 256 s) (drop window_length b) in
      rw (e, q) (go (ltb j window_limit) refl z a)
    where
      go : (l : Bool) → ltb j window_limit ≡ l → (z a : Bool) → (leb (j + 1 + windows_in m (drop 256 s)) window_limit && (z && a)) ≡ ((l && z) && (leb (j + 1 + windows_in m (drop 256 s)) window_limit && a))
      go true l true a = refl
      go true l false a = and_false (leb (j + 1 + windows_in m (drop 256 s)) window_limit)
      go false l z a = let g = ltb-false j window_limit l in rw (lt-leb (j + 1 + windows_in m (drop 256 s)) window_limit (omega arith))

pub over_none : (j m : ℕ) (s b : List ℕ) → m ≡ 0 → j ≤ window_limit → left_over j m s b ≡ all_zero b
unfolding windows_in area_ok
over_none j zero s b e h = let q : j + 0 ≡ j = omega arith in rw (q, le-leb j window_limit h)
over_none j (suc m) s b e h = absurd (omega arith)

-- ---- the loop, over the records of the bytes s

module _ (n : ℕ) (s : List ℕ) where
  -- what is left at record i, with j windows behind
  abbrev pub left_at : (i j : ℕ) → Bool
  left_at i j = left_over j (n - i) (drop (i * 256) s) (drop (window_start (length s) j) s)

  pub left_first : left_at 0 0 ≡ windows_ok n s
  unfolding windows_ok
  left_first =
      let q : 0 + windows_in n s ≡ windows_in n s = omega arith in
      let z : window_start (length s) 0 ≡ length s - area_length = omega arith in
      rw (sub-zero n, q, z)

  pub left_turn : (i j : ℕ) (w : Bool) → i < n → j ≤ window_limit → w ≡ is_window (group_of (get_or s (i * 256) 0)) → left_at i j ≡ (clear_at w j i s && left_at (i + 1) (counted_at w j))
  unfolding clear_at
  left_turn i j w h l e =
      let t = drop (i * 256) s in
      let b = drop (window_start (length s) j) s in
      let m = n - (i + 1) in
      let q : n - i ≡ suc m = omega arith in
      let z : i * 256 + 0 ≡ i * 256 = omega arith in
      let g : is_window (group_of (get_or t 0 0)) ≡ w = ap (λ (x : ℕ). is_window (group_of x)) (get_or-drop (i * 256) s 0 0 ∙ ap (λ (x : ℕ). get_or s x 0) z) ∙ sym e in
      let u : i * 256 + 256 ≡ (i + 1) * 256 = omega arith in
      let d : drop 256 t ≡ drop ((i + 1) * 256) s = drop-drop 256 (i * 256) s ∙ ap (λ (x : ℕ). drop x s) u in
      ap (λ (x : ℕ). left_over j x t b) q ∙ over_more j m t b w g l
      ∙ ap₂ ◌&&◌ (clears w) (ap₂ (left_over (counted_at w j) m) d (moves w))
    where
      clears : (w : Bool) → clear j (n - (i + 1)) (drop (i * 256) s) (drop (window_start (length s) j) s) w ≡ clear_at w j i s
      clears false = refl
      clears true = ap (λ (x : ℕ). ltb j window_limit && all_zero (drop (x * 8) (part s (window_start (length s) j) window_length))) (get_or-drop (i * 256) s 5 0)

      moves : (w : Bool) → cond w (drop window_length (drop (window_start (length s) j) s)) (drop (window_start (length s) j) s) ≡ drop (window_start (length s) (counted_at w j)) s
      moves true =
          let u : window_start (length s) j + window_length ≡ window_start (length s) (j + 1) = omega arith in
          drop-drop window_length (window_start (length s) j) s ∙ ap (λ (x : ℕ). drop x s) u
      moves false = refl

  pub left_end : (i j : ℕ) → n ≤ i → j ≤ window_limit → left_at i j ≡ all_zero (drop (window_start (length s) j) s)
  left_end i j h l = over_none j (n - i) (drop (i * 256) s) (drop (window_start (length s) j) s) (omega arith) l

-- ---- what the code finds of one window

pub clear_none : (w : Bool) (j i : ℕ) (s : List ℕ) → not w ≡ true → true ≡ clear_at w j i s
unfolding clear_at
clear_none false j i s e = refl
clear_none true j i s e = absurd (true≢false (sym e))

pub clear_ninth : (w : Bool) (j i : ℕ) (s : List ℕ) → not w ≡ false → j ≡ window_limit → false ≡ clear_at w j i s
unfolding clear_at
clear_ninth false j i s e h = absurd (true≢false e)
clear_ninth true j i s e h = rw (le-ltb j window_limit (omega arith))

pub clear_found : (w : Bool) (j i : ℕ) (s p : List ℕ) (at k fill : ℕ) (x : Bool) → not w ≡ false → (j ≡ window_limit → ⊥) → j ≤ window_limit → i * 256 + 256 ≤ length s
    → p ≡ part s (i * 256) 256 → fill ≡ num flag_f (dec_raw p) → at ≡ window_start (length s) j → k ≡ window_length → x ≡ all_zero (drop (fill * 8) (part s at k)) → x ≡ clear_at w j i s
unfolding clear_at
clear_found false j i s p at k fill x e n h l ep ef ea ek ex = absurd (true≢false e)
clear_found true j i s p at k fill x e n h l ep ef ea ek ex =
    let f : fill ≡ get_or s (i * 256 + 5) 0 = ef ∙ ap (λ (q : List ℕ). num flag_f (dec_raw q)) ep ∙ byte_in s i 5 l (omega arith) in
    rw (lt-ltb j window_limit (omega (arith, n))) (ex ∙ (λ u. all_zero (drop (f u * 8) (part s (ea u) (ek u)))))

pub counted_yes : (w : Bool) (j : ℕ) → w ≡ true → j + 1 ≡ counted_at w j
counted_yes w j e = rw e

pub counted_no : (w : Bool) (j : ℕ) → w ≡ false → j ≡ counted_at w j
counted_no w j e = rw e

pub counted_few : (w : Bool) (j i : ℕ) (s : List ℕ) → clear_at w j i s ≡ true → j ≤ window_limit → counted_at w j ≤ window_limit
unfolding clear_at
counted_few false j i s e h = h
counted_few true j i s e h =
    let z : Bool = all_zero (drop (get_or s (i * 256 + 5) 0 * 8) (part s (window_start (length s) j) window_length)) in
    let l = ltb-true j window_limit (left (ltb j window_limit) z e) in
    omega arith

-- the tail
pub tail_rubbish : (n : ℕ) (s : List ℕ) (x : Bool) → x ≡ all_zero (part s (n * 256) (length s - area_length - n * 256)) → not x ≡ true → false ≡ tail_ok n s
unfolding tail_ok
tail_rubbish n s x e h = sym (ap (λ (b : Bool). b && windows_ok n s) (sym e ∙ not-true x h))

pub tail_then : (n : ℕ) (s : List ℕ) (x y : Bool) → x ≡ all_zero (part s (n * 256) (length s - area_length - n * 256)) → not x ≡ false → y ≡ windows_ok n s → y ≡ tail_ok n s
unfolding tail_ok
tail_then n s x y e h q = q ∙ sym (ap (λ (b : Bool). b && windows_ok n s) (sym e ∙ not-false x h))

-- whether record i is a window, as the code reads it
pub is_window_lem : (s : List ℕ) (i : ℕ) (p : List ℕ) (x : ℕ) (w : Bool) → i * 256 + 256 ≤ length s → p ≡ part s (i * 256) 256 → x ≡ num op_f (dec_raw p) → w ≡ is_window (group_of x) → w ≡ is_window (group_of (get_or s (i * 256) 0))
is_window_lem s i p x w l ep ex ew =
    let z : i * 256 + 0 ≡ i * 256 = omega arith in
    ew ∙ ap (λ (y : ℕ). is_window (group_of y)) (ex ∙ ap (λ (q : List ℕ). num op_f (dec_raw q)) ep ∙ byte_in s i 0 l (omega arith) ∙ ap (λ (y : ℕ). get_or s y 0) z)
