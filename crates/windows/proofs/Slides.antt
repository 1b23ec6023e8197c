-- A window slides: the words of the held events are gathered, and come in one by one.
use Prim.Native.Nat.{ℕ, suc, ◌+◌, ◌-◌, ◌^◌, ◌<◌, ◌≤◌, min}
use mathlib.Core.Path.{◌≡◌, refl, sym, ap, ap₂, ◌∙◌}
use mathlib.Core.List.{List, [], ◌∷◌, ◌++◌, map, map-append, append_assoc, append-nil}
use native.Mathlib.Omega.{arith}
use lib.IntN.{ℤ}
use lib.ListN.{length, get_or, take, drop, set, length-set, length-map, length-append, length-drop, take-append-drop}
use lib.Seq.{slice-cons, slice_empty, length-take-le, set_split, take-suc-set, take_at, drop_at, drop-drop}
use mir.Syntax.{w64}
use mir.Val.{to_z}
use mir.Facts.{of_z-to_z}
use borrow.Author.Tests.{lt-ltb, le-ltb}
use Rattle.le.specs.Bytes.{Bytes}
use Rattle.operators.specs.Limits.{width_limit}
use Rattle.machine.specs.State.{room}
use Rattle.meaning.specs.Events.{Event}
use Rattle.meaning.specs.Table.{latest_of, values}
use Rattle.machine.specs.Windows.{take_below}
use Rattle.machine.proofs.Lasts.{last_short, last_seam}
use Rattle.layout.specs.Record.{Slot, no_slot}
use Rattle.layout.specs.Windows.{window_length, enc_window, dec_window, pushed_word}
use Rattle.layout.proofs.Windows.{window_len, window_dec, window_many, window_small, window_enc}
use Rattle.encoding.specs.Back.{event_of}
use Rattle.encoding.specs.View.{words_of}
use Rattle.windows.specs.Window.{values_in, kept}
use Rattle.windows.proofs.Heights.{Words, words_append, words_take, words_drop}
use Rattle.windows.proofs.Latest.{map_drop, latest_both, latest_some}
use Rattle.windows.proofs.Fits.{events_in, events_more, events_none}

-- ---- one word more

module _ (k n v : ℕ) (ws : List ℕ) (many : length ws ≡ width_limit) (hk : k ≤ width_limit) (p : 1 ≤ k) where
  -- it goes behind the first n, or the oldest goes
  pub push_behind : n < k → set ws n v ≡ latest_of k (take n ws ++ (v ∷ [])) ++ drop (n + 1) ws
  push_behind h =
      let l : length (take n ws) ≡ n = length-take-le n ws (omega arith) in
      let q : suc n ≡ n + 1 = omega arith in
      set_split ws n v (omega arith) ∙ ap (λ (m : ℕ). take n ws ++ (v ∷ drop m ws)) q ∙ sym (append_assoc (take n ws) (v ∷ []) (drop (n + 1) ws))
      ∙ ap (λ (z : List ℕ). z ++ drop (n + 1) ws) (sym (latest_both k (take n ws) (v ∷ []) (omega arith)))

  pub push_full : n ≡ k → pushed_word k v ws ≡ latest_of k (take n ws ++ (v ∷ [])) ++ drop n ws
  push_full e =
      let l : length (take k ws) ≡ k = length-take-le k ws (omega arith) in
      sym
      (ap (λ (m : ℕ). latest_of k (take m ws ++ (v ∷ [])) ++ drop m ws) e
      ∙ ap (λ (z : List ℕ). z ++ drop k ws) (latest_some k (take k ws) (v ∷ []) 1 (omega arith) (omega arith))
      ∙ append_assoc (drop 1 (take k ws)) (v ∷ []) (drop k ws))

-- ---- words and values

words_back : (ws : List ℕ) → Words ws → words_of (map (to_z w64) ws) ≡ ws
words_back [] a = refl
words_back (v ∷ ws) a = ap₂ ◌∷◌ (of_z-to_z {w = w64} {n = v} (record { fits = a.0 })) (words_back ws a.1)

length_latest : {A : Type 0} (k : ℕ) (l : List A) → length (latest_of k l) ≡ min (length l) k
unfolding latest_of
length_latest k l = length-drop (length l - k) l ∙ omega arith

map_latest : (k : ℕ) (ws : List ℕ) → map (to_z w64) (latest_of k ws) ≡ latest_of k (map (to_z w64) ws)
unfolding latest_of
map_latest k ws = map_drop (to_z w64) (length ws - k) ws ∙ ap (λ (m : ℕ). drop (m - k) (map (to_z w64) ws)) (sym (length-map ws (to_z w64)))

words_latest : (k : ℕ) (ws : List ℕ) → Words ws → Words (latest_of k ws)
unfolding latest_of
words_latest k ws a = words_drop (length ws - k) ws a

-- ---- the loop

-- the bytes w with m words that are kept, and the words vs from i on, of the first c, give what all gives
pub record Slides (k c : ℕ) (w₀ vs : List ℕ) (all : List ℤ) (i m : ℕ) (w : List ℕ) : Type 0 where
  pub long : length w ≡ window_length
  pub bytes : Bytes w
  pub most : m ≤ k
  pub behind : drop m (dec_window w) ≡ drop m (dec_window w₀)
  pub left : latest_of k (kept m w ++ values_in i c vs) ≡ all

-- at first all are left
pub all_left : (c : ℕ) (vs : List ℕ) → values_in 0 c vs ≡ map (to_z w64) (take c vs)
all_left c vs = refl

module _ (k c : ℕ) (w₀ vs : List ℕ) (all : List ℤ) (i m : ℕ) (w : List ℕ) (p : 1 ≤ k) (hk : k ≤ width_limit) (s : Slides k c w₀ vs all i m w) where
  first_length : length (take m (dec_window w)) ≡ m
  first_length = length-take-le m (dec_window w) (rw (window_many w) (omega (arith, s.most)))

  kept_length : length (kept m w) ≡ m
  kept_length = length-map (take m (dec_window w)) (to_z w64) ∙ first_length

  -- nothing is left to do
  module _ (end : i ≡ c) where
    none : values_in i c vs ≡ []
    none = ap (λ (j : ℕ). values_in j c vs) end ∙ ap (map (to_z w64)) (slice_empty c vs)

    done : kept m w ≡ all
    done =
        sym (ap (latest_of k) (append-nil (kept m w)) ∙ last_short k (kept m w) (rw kept_length s.most))
        ∙ ap (λ (es : List ℤ). latest_of k (kept m w ++ es)) (sym none) ∙ s.left

    pub slides_done : w ≡ enc_window (words_of all ++ drop m (dec_window w₀))
    slides_done =
        sym (window_dec w s.long s.bytes) ∙ ap enc_window (sym (take-append-drop m (dec_window w)))
        ∙ ap₂ (λ (xs ys : List ℕ). enc_window (xs ++ ys))
        (sym (words_back (take m (dec_window w)) (words_take m (dec_window w) (window_small w s.bytes))) ∙ ap words_of done) s.behind

    pub slides_many : m ≡ length all
    slides_many = sym kept_length ∙ ap length done

  -- word i comes in
  pub slides_more : i < c → c ≤ length vs → (v m' : ℕ) (w' : List ℕ) → v ≡ get_or vs i 0 → v < 2 ^ 64 → Bytes w'
      → w' ≡ enc_window (latest_of k (take m (dec_window w) ++ (v ∷ [])) ++ drop m' (dec_window w)) → m' ≡ min (m + 1) k → Slides k c w₀ vs all (i + 1) m' w'
  slides_more h many v m' w' e small b new count =
      let ws = dec_window w in
      let few = s.most in
      let long : length ws ≡ width_limit = window_many w in
      let words : Words ws = window_small w s.bytes in
      let row = take m ws ++ (v ∷ []) in
      let first = latest_of k row in
      let rest = drop m' ws in
      let row_length : length row ≡ m + 1 = length-append (take m ws) (v ∷ []) ∙ ap (λ (j : ℕ). j + 1) first_length in
      let first-is : length first ≡ m' = length_latest k row ∙ ap (λ (j : ℕ). min j k) row_length ∙ sym count in
      let rest_is : length rest ≡ width_limit - m' = length-drop m' ws ∙ ap (λ (j : ℕ). j - m') long in
      let full : length (first ++ rest) ≡ width_limit = length-append first rest ∙ ap₂ ◌+◌ first-is rest_is ∙ omega arith in
      let good : Words (first ++ rest) = words_append first rest (words_latest k row (words_append (take m ws) (v ∷ []) (words_take m ws words) (small, tt))) (words_drop m' ws words) in
      let now_is : dec_window w' ≡ first ++ rest = ap dec_window new ∙ window_enc (first ++ rest) full good in
      let keeps : kept m' w' ≡ latest_of k (kept m w ++ (to_z w64 v ∷ [])) =
      ap (λ (l : List ℕ). map (to_z w64) (take m' l)) now_is ∙ ap (map (to_z w64)) (take_at first rest m' first-is) ∙ map_latest k row
      ∙ ap (latest_of k) (map-append (to_z w64) (take m ws) (v ∷ [])) in
      let es = values_in (i + 1) c vs in
      let q : suc i ≡ i + 1 = omega arith in
      let next : to_z w64 (get_or vs i 0) ∷ es ≡ values_in i c vs = ap (λ (j : ℕ). to_z w64 (get_or vs i 0) ∷ values_in j c vs) (sym q) ∙ ap (map (to_z w64)) (sym (slice-cons i c vs 0 h many)) in
      let more : m + (m' - m) ≡ m' = omega arith in
      record {
        long = ap length new ∙ window_len (first ++ rest);
        bytes = b;
        most = omega arith;
        behind = ap (drop m') now_is ∙ drop_at first rest m' first-is
            ∙ sym (drop-drop (m' - m) m ws ∙ ap (λ (j : ℕ). drop j ws) more) ∙ ap (drop (m' - m)) s.behind ∙ drop-drop (m' - m) m (dec_window w₀)
            ∙ ap (λ (j : ℕ). drop j (dec_window w₀)) more;
        left = ap (λ (l : List ℤ). latest_of k (l ++ es)) keeps ∙ last_seam k (kept m w ++ (to_z w64 v ∷ [])) es
            ∙ ap (latest_of k) (append_assoc (kept m w) (to_z w64 v ∷ []) es)
            ∙ ap (λ (u : ℕ). latest_of k (kept m w ++ (to_z w64 u ∷ es))) e
            ∙ ap (λ (l : List ℤ). latest_of k (kept m w ++ l)) next ∙ s.left;
      }

-- ---- the words that come in

-- the words got so far, and what the events from slot i on give, are what all the events give
pub record Gathers (x c : ℕ) (slots : List Slot) (all : List ℤ) (n i : ℕ) (v : List ℕ) : Type 0 where
  pub long : length v ≡ room
  pub left : map (to_z w64) (take n v) ++ values (take_below x (events_in i c slots)) ≡ all

module _ (x c : ℕ) (slots : List Slot) (all : List ℤ) (n i : ℕ) (v : List ℕ) (s : Gathers x c slots all n i v) where
  gathered : take_below x (events_in i c slots) ≡ [] → map (to_z w64) (take n v) ≡ all
  gathered none = sym (append-nil (map (to_z w64) (take n v))) ∙ ap (λ (es : List Event). map (to_z w64) (take n v) ++ values es) (sym none) ∙ s.left

  pub gathers_end : i ≡ c → map (to_z w64) (take n v) ≡ all
  unfolding take_below
  gathers_end e = gathered (ap (λ (j : ℕ). take_below x (events_in j c slots)) e ∙ ap (take_below x) (events_none c slots))

  -- the event of slot i
  module _ (h : i < c) (many : c ≤ length slots) (t : ℕ) (stamp : t ≡ (get_or slots i no_slot).stamp) where
    pub gathers_stop : x ≤ t → map (to_z w64) (take n v) ≡ all
    unfolding take_below
    gathers_stop q = gathered (ap (take_below x) (events_more i c slots h many) ∙ rw (sym stamp, le-ltb t x q))

    one_more : t < x → take_below x (events_in i c slots) ≡ event_of (get_or slots i no_slot) ∷ take_below x (events_in (i + 1) c slots)
    unfolding take_below
    one_more q = ap (take_below x) (events_more i c slots h many) ∙ rw (sym stamp, lt-ltb t x q)

    pub gathers_more : (u : ℕ) → t < x → u ≡ (get_or slots i no_slot).value → n < room → Gathers x c slots all (n + 1) (i + 1) (set v n u)
    gathers_more u q e k =
        let l = s.long in
        let es = values (take_below x (events_in (i + 1) c slots)) in
        let one : n + 1 ≡ suc n = omega arith in
        let got : take (n + 1) (set v n u) ≡ take n v ++ (u ∷ []) = ap (λ (j : ℕ). take j (set v n u)) one ∙ take-suc-set v n u (omega arith) in
        record {
          long = length-set v n u ∙ l;
          left = ap (λ (z : List ℕ). map (to_z w64) z ++ es) got ∙ ap (λ (z : List ℤ). z ++ es) (map-append (to_z w64) (take n v) (u ∷ []))
              ∙ append_assoc (map (to_z w64) (take n v)) (to_z w64 u ∷ []) es
              ∙ ap (λ (j : ℕ). map (to_z w64) (take n v) ++ (to_z w64 j ∷ es)) e
              ∙ ap (λ (z : List Event). map (to_z w64) (take n v) ++ values z) (sym (one_more q)) ∙ s.left;
        }
