-- The latest k of two lists, one after the other.
use Prim.Native.Nat.{ℕ, zero, suc, ◌+◌, ◌-◌, ◌<◌, ◌≤◌}
use mathlib.Core.Path.{◌≡◌, refl, sym, ap, ◌∙◌}
use mathlib.Core.List.{List, [], ◌∷◌, ◌++◌, map}
use native.Mathlib.Omega.{arith}
use lib.IntN.{ℤ}
use lib.ListN.{length, take, drop, length-map, length-append}
use lib.Seq.{slice, slice_empty, length-slice, length-take-le, drop-append-le, drop-append-add, drop-drop}
use mir.Syntax.{w64}
use mir.Val.{to_z}
use Rattle.meaning.specs.Table.{latest_of}
use Rattle.windows.specs.Window.{values_in}

pub map_drop : {A B : Type 0} (f : A → B) (n : ℕ) (l : List A) → map f (drop n l) ≡ drop n (map f l)
map_drop f zero l = refl
map_drop f (suc n) [] = refl
map_drop f (suc n) (x ∷ l) = map_drop f n l

-- all of them, if they are at most k; else the first go, and with them the whole first list or a part of it
module _ {A : Type 0} (k : ℕ) (xs ys : List A) where
  latest_drop : latest_of k (xs ++ ys) ≡ drop (length xs + length ys - k) (xs ++ ys)
  unfolding latest_of
  latest_drop = ap (λ (m : ℕ). drop (m - k) (xs ++ ys)) (length-append xs ys)

  pub latest_both : length xs + length ys ≤ k → latest_of k (xs ++ ys) ≡ xs ++ ys
  latest_both h = let e : length xs + length ys - k ≡ 0 = omega arith in latest_drop ∙ ap (λ (m : ℕ). drop m (xs ++ ys)) e

  pub latest_some : (m : ℕ) → m ≡ length xs + length ys - k → m ≤ length xs → latest_of k (xs ++ ys) ≡ drop m xs ++ ys
  latest_some m e h = latest_drop ∙ ap (λ (j : ℕ). drop j (xs ++ ys)) (sym e) ∙ drop-append-le m xs ys h

  pub latest_none : (m : ℕ) → length xs + m ≡ length xs + length ys - k → latest_of k (xs ++ ys) ≡ drop m ys
  latest_none m e = latest_drop ∙ ap (λ (j : ℕ). drop j (xs ++ ys)) (sym e) ∙ drop-append-add xs ys m

-- ---- the latest k of the first n words ws and of the words vs from p on, of the first q

module _ (k n p q : ℕ) (ws vs : List ℕ) (hn : n ≤ length ws) (hp : p < q) (hq : q ≤ length vs) where
  front : length (values_in 0 n ws) ≡ n
  front = length-map (take n ws) (to_z w64) ∙ length-take-le n ws hn

  back : length (values_in p q vs) ≡ q - p
  back = length-map (slice p q vs) (to_z w64) ∙ length-slice p q vs hq

  pub cut_none : n + (q - p) ≤ k → latest_of k (values_in 0 n ws ++ values_in p q vs) ≡ values_in 0 n ws ++ values_in p q vs
  cut_none h = latest_both k (values_in 0 n ws) (values_in p q vs) (rw (front, back) h)

  pub cut_front : (m : ℕ) → m ≡ n + (q - p) - k → m ≤ n → latest_of k (values_in 0 n ws ++ values_in p q vs) ≡ values_in m n ws ++ values_in p q vs
  cut_front m e h =
      latest_some k (values_in 0 n ws) (values_in p q vs) m (rw (front, back) e) (rw front h)
      ∙ ap (λ (l : List ℤ). l ++ values_in p q vs) (sym (map_drop (to_z w64) m (take n ws)))

  pub cut_back : (m : ℕ) → n + m ≡ n + (q - p) - k → latest_of k (values_in 0 n ws ++ values_in p q vs) ≡ values_in n n ws ++ values_in (p + m) q vs
  cut_back m e =
      latest_none k (values_in 0 n ws) (values_in p q vs) m (rw (front, back) e)
      ∙ sym (map_drop (to_z w64) m (slice p q vs)) ∙ ap (map (to_z w64)) (drop-drop m p (take q vs))
      ∙ ap (λ (l : List ℕ). map (to_z w64) l ++ values_in (p + m) q vs) (sym (slice_empty n ws))
