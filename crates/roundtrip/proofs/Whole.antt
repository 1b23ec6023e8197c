-- Valid bytes are just the bytes of sound states.
use Prim.Native.Nat.{ℕ, zero, suc, ◌+◌, ◌*◌, ◌-◌, ◌<◌, ◌≤◌, ◌%◌}
use mathlib.Core.Path.{◌≡◌, refl, sym, ap, ap₂, ◌∙◌, subst}
use mathlib.Core.List.{List, [], ◌∷◌, ◌++◌, map, append_assoc}
use mathlib.Core.Bool.{Bool, true, false, cond, ◌&&◌}
use native.Mathlib.Omega.{arith}
use native.Mathlib.Nat.{zero-add}
use lib.Dec.{eqb, ltb, leb}
use lib.ListN.{length, get_or, take, drop, replicate, length-map, length-append, length-drop, length-replicate, take-append-drop}
use lib.Seq.{length-take-le, drop-drop, take_at, drop_at}
use borrow.Author.Tests.{ne_eqb, ltb-true, lt-ltb, leb-true, le-leb}
use Rattle.meaning.specs.Plan.{eqn_at}
use Rattle.meaning.specs.CycleTest.{acyclic}
use Rattle.meaning.proofs.Within.{reads_within}
use Rattle.meaning.proofs.CycleTest.{test_sound, test_complete}
use Rattle.machine.specs.State.{Cell, State, absent, cell_at, plan_of}
use Rattle.operators.specs.Operators.{number_of}
use Rattle.operators.specs.Limits.{window_limit, capacity}
use Rattle.operators.specs.Windows.{windows}
use Rattle.operators.proofs.Sizes.{capacity_few, capacity_area}
use Rattle.operators.proofs.Laws.{number_range}
use Rattle.le.specs.Bytes.{Bytes, part, all_zero, enc}
use Rattle.le.specs.Layout.{enc_fields, enc_rows}
use Rattle.le.proofs.Laws.{take_bytes, drop_bytes}
use Rattle.le.proofs.Fields.{length_rows}
use Rattle.le.proofs.RoundTrip.{All, all_at}
use Rattle.layout.specs.Record.{Raw, Raws, no_raw, enc_raw, dec_raw, encode, decode}
use Rattle.layout.specs.Windows.{window_length, area_length, enc_window, enc_windows}
use Rattle.layout.proofs.Windows.{window_len}
use Rattle.layout.proofs.Laws.{RawOk, RawsOk, raw_len, encode_decode, decode_encode, row_at_lem, rows_many}
use Rattle.encoding.specs.View.{of_cell, windows_of, words_of, behind, raws_of, bytes_of}
use Rattle.encoding.specs.Back.{to_cell, cells, area_of, state_of}
use Rattle.encoding.proofs.Cells.{state_length_lem}
use Rattle.encoding.specs.Sound.{SoundCell, Own, Sound}
use Rattle.encoding.proofs.Widths.{cell_raw}
use Rattle.valid.specs.Valid.{row_ok, all_rows, streams_in, count, plan_in, windows_in, area_ok, windows_ok, tail_ok, valid}
use Rattle.valid.proofs.Tests.{left, right}
use Rattle.valid.proofs.Link.{eqn_in, rows_at, count_few, count_fits, count_area}
use Rattle.roundtrip.proofs.Passes.{row_passes, zeros_zero}
use Rattle.roundtrip.proofs.Tail.{zero_list}
use Rattle.roundtrip.proofs.Back.{row_facts}
use Rattle.roundtrip.proofs.Rows.{row_back, row_sound, row_own, row_fill, row_within, row_fresh}
use Rattle.roundtrip.proofs.Windows.{rows_in, area_raw, windows_in_lem, area_in}
use Rattle.roundtrip.proofs.Cells.{Good, Backs, cells_are, cells_back, windows_pass, area_passes}

-- ---- from bytes to states

pub record ValidFacts (s : List ℕ) : Type 0 where
  pub size : 0 < capacity (length s)
  pub rows : all_rows (row_ok (count s)) (count s) s ≡ true
  pub between : all_zero (part s (count s * 256) (length s - area_length - count s * 256)) ≡ true
  pub few : windows_in (count s) s ≤ window_limit
  pub area : area_ok (count s) s (area_of s) ≡ true
  pub acyclic : acyclic (capacity (length s)) (plan_in (count s) s) ≡ true

pub valid_facts : (s : List ℕ) → valid s ≡ true → ValidFacts s
unfolding valid tail_ok windows_ok
valid_facts s e =
    let a : Bool = ltb 0 (capacity (length s)) in
    let c : Bool = all_rows (row_ok (count s)) (count s) s in
    let z : Bool = all_zero (part s (count s * 256) (length s - area_length - count s * 256)) in
    let w : Bool = leb (windows_in (count s) s) window_limit in
    let x : Bool = area_ok (count s) s (area_of s) in
    let f : Bool = acyclic (capacity (length s)) (plan_in (count s) s) in
    let e₁ = right a (c && ((z && (w && x)) && f)) e in
    let e₂ = right c ((z && (w && x)) && f) e₁ in
    let t = left (z && (w && x)) f e₂ in
    let t₁ = right z (w && x) t in
    record {
      size = ltb-true 0 (capacity (length s)) (left a (c && ((z && (w && x)) && f)) e);
      rows = left c ((z && (w && x)) && f) e₁;
      between = left z (w && x) t;
      few = leb-true (windows_in (count s) s) window_limit (left w x t₁);
      area = right w x t₁;
      acyclic = right (z && (w && x)) f e₂;
    }

-- what holds at every index holds of every record
all_raws : (P : Raw → Type 0) (l : List Raw) → ((i : ℕ) → i < length l → P (get_or l i no_raw)) → All P l
all_raws P [] h = tt
all_raws P (r ∷ l) h = (h 0 (omega arith), all_raws P l (λ i k. h (suc i) (omega arith)))

eqn_is : (r : Raw) → (to_cell r).eqn ≡ eqn_in r
unfolding to_cell
eqn_is r = refl

-- the windows' bytes are the last ones, of the whole and of what lies behind the records
area_same : (n : ℕ) (s : List ℕ) → n * 256 + area_length ≤ length s → area_of (drop (n * 256) s) ≡ area_of s
area_same n s h =
    let q : n * 256 + (length s - n * 256 - area_length) ≡ length s - area_length = omega arith in
    ap (λ (j : ℕ). drop (j - area_length) (drop (n * 256) s)) (length-drop (n * 256) s)
    ∙ drop-drop (length s - n * 256 - area_length) (n * 256) s ∙ ap (λ (j : ℕ). drop j s) q

module _ (s : List ℕ) (b : Bytes s) (ok : valid s ≡ true) where
  f : ValidFacts s
  f = valid_facts s ok

  fits : count s * 256 + area_length ≤ length s
  fits = count_area s f.size

  row_part : (i : ℕ) → i < count s → length (part s (i * 256) 256) ≡ 256
  row_part i h = length-take-le 256 (drop (i * 256) s) (rw (length-drop (i * 256) s) (omega (arith, count_fits s)))

  row_bytes : (i : ℕ) → Bytes (part s (i * 256) 256)
  row_bytes i = take_bytes 256 (drop (i * 256) s) (drop_bytes s (i * 256) b)

  good : (i : ℕ) → i < count s → Good (count s) (dec_raw (part s (i * 256) 256))
  good i h =
      let p = part s (i * 256) 256 in
      let l = row_part i h in
      let y = row_bytes i in
      let g = row_facts (count s) p (rows_at (row_ok (count s)) (count s) i s f.rows h) in
      record {
        eqn = eqn_is (dec_raw p);
        back = λ xs e. sym (row_back (count s) p l y g xs e);
        sound = row_sound (count s) p l y g;
        own = row_own (count s) p l y g;
        fill = row_fill (count s) p l y g;
        within = row_within (count s) p l y g;
        fresh = row_fresh (count s) p l y g;
      }

  area_length_lem : length (area_of s) ≡ window_limit * window_length
  area_length_lem = length-drop (length s - area_length) s ∙ omega (arith, fits)

  rows_are : (decode (count s) s).rows ≡ rows_in (count s) s
  unfolding decode
  rows_are = refl

  spare_is : (decode (count s) s).spare ≡ drop (count s * 256) s
  unfolding decode
  spare_is = refl

  state_is : state_of (count s) s ≡ cells (rows_in (count s) s) (area_of s)
  unfolding state_of
  state_is = ap₂ cells rows_are (ap area_of spare_is ∙ area_same (count s) s fits)

  backs : Backs (count s) window_limit (rows_in (count s) s) (area_of s) (cells (rows_in (count s) s) (area_of s))
  backs =
      let l = rows_in (count s) s in
      let n : length l ≡ count s = ap length (sym rows_are) ∙ rows_many (count s) s in
      cells_are (count s) window_limit l (area_of s)
      (all_raws (Good (count s)) l (λ i h. let k : i < count s = omega arith in subst (Good (count s)) (sym (ap (λ (x : List Raw). get_or x i no_raw) (sym rows_are) ∙ row_at_lem (count s) s i k)) (good i k)))
      area_length_lem (drop_bytes s (length s - area_length) b)
      (rw (sym (windows_in_lem (count s) s (count_fits s))) f.few)
      (sym (area_in (count s) s (area_of s) (count_fits s)) ∙ f.area)

  rows_back : (decode (count s) s).rows ≡ map of_cell (state_of (count s) s)
  rows_back = rows_are ∙ sym backs.rows ∙ ap (map of_cell) (sym state_is)

  spare_back : (decode (count s) s).spare ≡ behind (length s) (state_of (count s) s)
  unfolding behind enc_windows
  spare_back =
      let n = count s in
      let k = length s - area_length - n * 256 in
      let t = drop (n * 256) s in
      let q : n * 256 + k ≡ length s - area_length = omega (arith, fits) in
      let zl : length (take k t) ≡ k = length-take-le k t (rw (length-drop (n * 256) s) (omega (arith, fits))) in
      spare_is ∙ sym (take-append-drop k t)
      ∙ ap₂ ◌++◌
      (zero_list (take k t) f.between ∙ ap (λ (j : ℕ). replicate {A = ℕ} j 0) (zl ∙ ap (λ (x : ℕ). length s - area_length - x * 256) (sym (state_length_lem n s))))
      (drop-drop k (n * 256) s ∙ ap (λ (j : ℕ). drop j s) q ∙ sym backs.area ∙ ap (λ (M : State). enc_rows enc_window [] window_limit (map words_of (windows_of M))) (sym state_is))

  pub decoded : decode (count s) s ≡ raws_of (length s) (state_of (count s) s)
  unfolding raws_of
  decoded = λ i. record { rows = rows_back i; spare = spare_back i }

  -- valid bytes are the bytes of the state that they give
  pub valid_bytes : s ≡ bytes_of (length s) (state_of (count s) s)
  unfolding bytes_of
  valid_bytes =
      sym (encode_decode (count s) s (count_fits s) b) ∙ ap (encode (count s)) decoded
      ∙ ap (λ (n : ℕ). encode n (raws_of (length s) (state_of (count s) s))) (sym (state_length_lem (count s) s))

  -- and that state is sound
  pub valid_sound : Sound (capacity (length s)) (state_of (count s) s)
  valid_sound =
      let n = state_length_lem (count s) s in
      let m : length (cells (rows_in (count s) s) (area_of s)) ≡ count s = ap length (sym state_is) ∙ n in
      record {
        size = f.size;
        few = rw n (count_few s);
        each = λ i h. rw n (rw state_is (all_at (SoundCell (count s)) (cells (rows_in (count s) s) (area_of s)) i absent backs.sound (omega arith)));
        own = λ i h. rw state_is (all_at Own (cells (rows_in (count s) s) (area_of s)) i absent backs.own (omega arith));
        windows = rw (ap (λ (M : State). windows (plan_of M)) state_is ∙ backs.many ∙ sym (windows_in_lem (count s) s (count_fits s))) f.few;
        acyclic = test_sound (capacity (length s)) (plan_in (count s) s) f.acyclic;
      }

-- ---- from states to bytes

-- what holds at every index holds of every cell
all_cells : (P : Cell → Type 0) (M : State) → ((i : ℕ) → i < length M → P (cell_at M i)) → All P M
all_cells P [] h = tt
all_cells P (c ∷ M) h = (h 0 (omega arith), all_cells P M (λ i k. h (suc i) (omega arith)))

all_rows_lem : (P : Cell → Type 0) (Q : Raw → Type 0) → ((c : Cell) → P c → Q (of_cell c)) → (M : State) → All P M → All Q (map of_cell M)
all_rows_lem P Q g [] h = tt
all_rows_lem P Q g (c ∷ M) h = (g c h.0, all_rows_lem P Q g M h.1)

-- a record's first byte is the operator's number, which is not 0
first_byte : (c : Cell) (z : List ℕ) → get_or (enc_raw (of_cell c) ++ z) 0 0 ≡ number_of c.eqn % 256
unfolding enc_raw of_cell enc_fields enc
first_byte c z = refl

byte_not_zero : (c : Cell) → number_of c.eqn % 256 ≡ 0 → ⊥
byte_not_zero c q =
    let r = number_range c.eqn in
    omega arith

abbrev rows_of : State → List ℕ
rows_of M = enc_rows enc_raw no_raw (length M) (map of_cell M)

in_more : (m : ℕ) (s : List ℕ) → streams_in (suc m) s ≡ cond (eqb (get_or s 0 0) 0) 0 (suc (streams_in m (drop 256 s)))
unfolding streams_in
in_more m s = refl

rows_more : (f : List ℕ → Bool) (m : ℕ) (s : List ℕ) → all_rows f (suc m) s ≡ (f (take 256 s) && all_rows f m (drop 256 s))
unfolding all_rows
rows_more f m s = refl

enc_more : (c : Cell) (M : State) (z : List ℕ) → rows_of (c ∷ M) ++ z ≡ enc_raw (of_cell c) ++ (rows_of M ++ z)
unfolding enc_rows
enc_more c M z = append_assoc (enc_raw (of_cell c)) (rows_of M) z

-- no operator in zeros
zeros_in : (k : ℕ) (z : List ℕ) → streams_in k (replicate (k * 256) 0 ++ z) ≡ 0
unfolding streams_in
zeros_in zero z = refl
zeros_in (suc k) z =
    let q : suc k * 256 ≡ suc (255 + k * 256) = omega arith in
    ap (λ (j : ℕ). cond (eqb (get_or (replicate j 0 ++ z) 0 0) 0) 0 (suc (streams_in k (drop 256 (replicate j 0 ++ z))))) q

counted : (M : State) (k : ℕ) (z : List ℕ) → streams_in (length M + k) (rows_of M ++ (replicate (k * 256) 0 ++ z)) ≡ length M
counted [] k z = rw (zero-add k) (go k z)
  where
    go : (k : ℕ) (z : List ℕ) → streams_in k (rows_of [] ++ (replicate (k * 256) 0 ++ z)) ≡ 0
    go k z = unfold enc_rows in zeros_in k z
counted (c ∷ M) k z =
    let e : suc (length M) + k ≡ suc (length M + k) = omega arith in
    let t = replicate (k * 256) 0 ++ z in
    let y = rows_of M ++ t in
    let n : eqb (get_or (enc_raw (of_cell c) ++ y) 0 0) 0 ≡ false = ne_eqb (get_or (enc_raw (of_cell c) ++ y) 0 0) 0 (λ q. byte_not_zero c (sym (first_byte c y) ∙ q)) in
    ap (λ (m : ℕ). streams_in m (rows_of (c ∷ M) ++ t)) e ∙ ap (streams_in (suc (length M + k))) (enc_more c M t)
    ∙ in_more (length M + k) (enc_raw (of_cell c) ++ y)
    ∙ rw n (ap suc (ap (streams_in (length M + k)) (drop_at (enc_raw (of_cell c)) y 256 (raw_len (of_cell c))) ∙ counted M k z))

rows_pass : (f : List ℕ → Bool) (M : State) (z : List ℕ) → All (λ c. f (enc_raw (of_cell c)) ≡ true) M → all_rows f (length M) (rows_of M ++ z) ≡ true
rows_pass f [] z h = unfold all_rows in refl
rows_pass f (c ∷ M) z h =
    let t = take_at (enc_raw (of_cell c)) (rows_of M ++ z) 256 (raw_len (of_cell c)) in
    let d = drop_at (enc_raw (of_cell c)) (rows_of M ++ z) 256 (raw_len (of_cell c)) in
    ap (all_rows f (suc (length M))) (enc_more c M z) ∙ rows_more f (length M) (enc_raw (of_cell c) ++ (rows_of M ++ z))
    ∙ ap₂ (λ (x y : List ℕ). f x && all_rows f (length M) y) t d ∙ rw (h.0, rows_pass f M z h.1)

eqn_at_lem : (M : State) (s : ℕ) → eqn_at (plan_of M) s ≡ (cell_at M s).eqn
eqn_at_lem [] s = refl
eqn_at_lem (c ∷ M) zero = refl
eqn_at_lem (c ∷ M) (suc s) = eqn_at_lem M s

-- a state within the capacity of this many bytes
module _ (size : ℕ) (M : State) (ok : Sound (capacity size) M) where
  sounds : All (SoundCell (length M)) M
  sounds = all_cells (SoundCell (length M)) M ok.each

  small : length M ≤ 256
  small = omega (arith, ok.few, capacity_few size)

  pub raws_ok : RawsOk (length M) (raws_of size M)
  unfolding raws_of
  raws_ok = record { many = length-map M of_cell; good = all_rows_lem (SoundCell (length M)) RawOk (λ c h. cell_raw (length M) c small h) M sounds }

  pub bytes_decoded : decode (length M) (bytes_of size M) ≡ raws_of size M
  unfolding bytes_of
  bytes_decoded = decode_encode (length M) (raws_of size M) raws_ok

  -- behind the records: as many zeros as there is room for further records, and the windows
  size_is : capacity size * 256 + area_length ≡ size
  size_is = capacity_area size ok.size

  abbrev area : List ℕ
  area = enc_rows enc_window [] window_limit (map words_of (windows_of M))

  area_len : length (area) ≡ area_length
  area_len = length_rows enc_window [] window_length window_len window_limit (map words_of (windows_of M))

  gap : size - area_length - length M * 256 ≡ (capacity size - length M) * 256
  gap = let h = ok.few in let e = size_is in omega arith

  behind_is : behind size M ≡ replicate ((capacity size - length M) * 256) 0 ++ area
  unfolding behind enc_windows
  behind_is = ap (λ (j : ℕ). replicate j 0 ++ area) gap

  behind_len : length (behind size M) ≡ (capacity size - length M) * 256 + area_length
  behind_len =
      let k = (capacity size - length M) * 256 in
      ap length behind_is ∙ length-append (replicate k 0) (area) ∙ ap₂ ◌+◌ (length-replicate {A = ℕ} k 0) area_len

  area_of_lem : area_of (behind size M) ≡ area
  area_of_lem =
      let k = (capacity size - length M) * 256 in
      let q : k + area_length - area_length ≡ k = omega arith in
      ap₂ (λ (j : ℕ) (l : List ℕ). drop (j - area_length) l) behind_len behind_is ∙ ap (λ (j : ℕ). drop j (replicate k 0 ++ area)) q
      ∙ drop_at (replicate k 0) (area) k (length-replicate {A = ℕ} k 0)

  -- the state that a sound state's bytes give
  pub bytes_state : state_of (length M) (bytes_of size M) ≡ M
  unfolding state_of
  bytes_state = ap (λ (r : Raws). cells r.rows (area_of r.spare)) bytes_decoded ∙ rows
    where
      rows : cells (raws_of size M).rows (area_of (raws_of size M).spare) ≡ M
      rows = unfold raws_of in ap (cells (map of_cell M)) area_of_lem ∙ cells_back (length M) window_limit M sounds ok.windows

  bytes_are : bytes_of size M ≡ rows_of M ++ behind size M
  unfolding bytes_of raws_of encode
  bytes_are = refl

  rows_length : length (rows_of M) ≡ length M * 256
  rows_length = length_rows enc_raw no_raw 256 raw_len (length M) (map of_cell M)

  pub bytes_length : length (bytes_of size M) ≡ size
  bytes_length =
      let h = ok.few in
      let e = size_is in
      ap length bytes_are ∙ length-append (rows_of M) (behind size M) ∙ ap₂ ◌+◌ rows_length behind_len ∙ omega arith

  pub bytes_count : count (bytes_of size M) ≡ length M
  bytes_count =
      let h = ok.few in
      let e : capacity size ≡ length M + (capacity size - length M) = omega arith in
      ap₂ streams_in (ap capacity bytes_length ∙ e) (bytes_are ∙ ap (λ (l : List ℕ). rows_of M ++ l) behind_is) ∙ counted M (capacity size - length M) area

  plan_length : length (plan_of M) ≡ length M
  plan_length = length-map M (λ c. c.eqn)

  -- the cycle test, as deep as there is room for streams, passes a sound state
  test_passes : acyclic (capacity size) (plan_of M) ≡ true
  test_passes =
      test_complete (capacity size) (plan_of M) ok.acyclic
      (reads_within (plan_of M) (λ s l. rw (plan_length, eqn_at_lem M s) (ok.each s (rw plan_length at l)).arguments))
      (rw plan_length ok.few)

  fits_in : length M * 256 + area_length ≤ length (bytes_of size M)
  fits_in = let h = ok.few in let e = size_is in rw bytes_length (omega arith)

  -- what lies behind the records passes
  rows_in_lem : rows_in (length M) (bytes_of size M) ≡ map of_cell M
  unfolding raws_of decode
  rows_in_lem = ap (λ (r : Raws). r.rows) bytes_decoded

  bytes_area : area_of (bytes_of size M) ≡ area
  bytes_area =
      sym (area_same (length M) (bytes_of size M) fits_in)
      ∙ ap area_of (ap (drop (length M * 256)) bytes_are ∙ drop_at (rows_of M) (behind size M) (length M * 256) rows_length) ∙ area_of_lem

  tail_passes : tail_ok (length M) (bytes_of size M) ≡ true
  unfolding tail_ok windows_ok
  tail_passes =
      let s = bytes_of size M in
      let k = (capacity size - length M) * 256 in
      let g : length s - area_length - length M * 256 ≡ k = ap (λ (j : ℕ). j - area_length - length M * 256) bytes_length ∙ gap in
      let z : all_zero (part s (length M * 256) (length s - area_length - length M * 256)) ≡ true =
      ap all_zero (ap (λ (j : ℕ). part s (length M * 256) j) g
      ∙ ap (take k) (ap (drop (length M * 256)) bytes_are ∙ drop_at (rows_of M) (behind size M) (length M * 256) rows_length ∙ behind_is)
      ∙ take_at (replicate k 0) area k (length-replicate {A = ℕ} k 0)) ∙ zeros_zero k in
      let l : length M * 256 ≤ length s = let y = fits_in in omega arith in
      let w : leb (windows_in (length M) s) window_limit ≡ true = le-leb (windows_in (length M) s) window_limit (rw (windows_in_lem (length M) s l, rows_in_lem, windows_pass (length M) M) ok.windows) in
      let a : area_ok (length M) s (area_of s) ≡ true = area_in (length M) s (area_of s) l ∙ ap₂ area_raw rows_in_lem bytes_area ∙ area_passes (length M) window_limit M sounds ok.windows in
      rw (z, w) a

  -- a sound state's bytes are valid
  pub bytes_valid : valid (bytes_of size M) ≡ true
  unfolding valid
  bytes_valid =
      let room : ltb 0 (capacity (length (bytes_of size M))) ≡ true = ap (λ (x : ℕ). ltb 0 (capacity x)) bytes_length ∙ lt-ltb 0 (capacity size) ok.size in
      let rows : all_rows (row_ok (length M)) (length M) (bytes_of size M) ≡ true =
      ap (all_rows (row_ok (length M)) (length M)) bytes_are
      ∙ rows_pass (row_ok (length M)) M (behind size M) (all_rows' M sounds (all_cells Own M ok.own)) in
      let cyc : acyclic (capacity (length (bytes_of size M))) (plan_in (length M) (bytes_of size M)) ≡ true = ap₂ (λ (x : ℕ) (N : State). acyclic (capacity x) (plan_of N)) bytes_length bytes_state ∙ test_passes in
      rw (room, bytes_count, rows, tail_passes) cyc
    where
      all_rows' : (N : State) → All (SoundCell (length M)) N → All Own N → All (λ c. row_ok (length M) (enc_raw (of_cell c)) ≡ true) N
      all_rows' [] h w = tt
      all_rows' (c ∷ N) h w = (row_passes (length M) c small h.0 w.0, all_rows' N h.1 w.1)
