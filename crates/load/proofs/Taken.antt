-- A taken text fills the state with the streams that it declares: a sound state, of a plan that keeps the rules.
use Prim.Native.Nat.{ℕ, zero, suc, ◌+◌, ◌*◌, ◌-◌, ◌<◌, ◌≤◌, ◌%◌}
use mathlib.Core.Path.{◌≡◌, refl, sym, ap, ap₂, ◌∙◌}
use mathlib.Core.Bool.{Bool, true, false, cond}
use mathlib.Core.List.{List, [], ◌∷◌, ◌++◌, map, append_assoc}
use native.Mathlib.Omega.{arith}
use native.Mathlib.Nat.{mod-eq_of_lt}
use lib.Dec.{eqb}
use lib.IntN.{ℤ}
use lib.ListN.{length, get_or, set, replicate, length-map, length-append, length-replicate, replicate-append-replicate}
use mir.Syntax.{w64}
use mir.Val.{of_z, to_z}
use mir.Facts.{of_z-to_z}
use Rattle.le.specs.Bytes.{Bytes, le}
use Rattle.le.specs.Layout.{enc_rows, dec_fields, dec_rows}
use Rattle.le.proofs.RoundTrip.{All}
use Rattle.layout.specs.Record.{Raw, Raws, no_slot, no_raw, change, enc_raw, dec_raw, dec_slot, encode, decode}
use Rattle.layout.specs.Windows.{window_length, area_length, enc_window, enc_windows}
use Rattle.layout.proofs.Laws.{RawOk, raw_ok, raw_dec, decode_encode}
use Rattle.meaning.specs.Plan.{Eqn, input, nil, unit, one, two, last, delay, signal, window}
use Rattle.meaning.specs.Arguments.{arg_a, arg_b}
use Rattle.machine.specs.State.{State, Declared, no_kept, no_passed, fresh, loaded}
use Rattle.operators.specs.Operators.{number_of, value_of}
use Rattle.operators.specs.Limits.{window_limit, capacity}
use Rattle.operators.specs.Windows.{is_window_eqn}
use Rattle.operators.proofs.Sizes.{capacity_fits, capacity_few, capacity_area}
use Rattle.operators.proofs.Laws.{number_back}
use Rattle.operators.proofs.Tests.{left, right}
use Rattle.encoding.specs.View.{KeptNums, no_nums, kept_nums, flag, pad_to, raw_of, of_cell, windows_of, words_of, behind, raws_of, bytes_of}
use Rattle.roundtrip.proofs.Windows.{none_window, none_windows}
use Rattle.text.specs.declared.Fields.{Fields}
use Rattle.std.specs.Prelude.{Result, Ok, Err}
use Rattle.refusal.specs.declared.Refusal.{Refusal}
use Rattle.text.specs.Grammar.{stream}
use Rattle.render.proofs.Heads.{head_fits}
use Rattle.plan.specs.Rules.{keeps, all_keep, formed, streams, eqn_from, declared_from, declared, number}
use Rattle.plan.proofs.Forms.{fields_in}
use Rattle.plan.proofs.Noted as noted
use Rattle.plan.proofs.Taken.{value_of_lem, first_of, second_of, taken_parts, parts_declared}
use Rattle.plan.proofs.Second.{none_refused, next_read, Stored, taken_stored}
use Rattle.load.specs.Filled.{stored, next, written, filled, filled_head}

-- ---- a cleared record

zeros_bytes : (n : ℕ) → Bytes (replicate n 0)
zeros_bytes zero i = omega arith
zeros_bytes (suc n) zero = omega arith
zeros_bytes (suc n) (suc i) = zeros_bytes n i

abbrev blank : Raw
blank = dec_raw (replicate 256 0)

blank_ok : RawOk blank
blank_ok = raw_ok (replicate 256 0) (zeros_bytes 256)

blank_zeros : enc_raw blank ≡ replicate 256 0
blank_zeros = raw_dec (replicate 256 0) (length-replicate {A = ℕ} 256 0) (zeros_bytes 256)

-- ---- one stream

-- a record with these fields, and all else 0
abbrev plain : ℕ → ℕ → ℕ → ℕ → ℕ → Raw
plain op a b out k = record { nums = op ∷ a ∷ b ∷ out ∷ 0 ∷ 0 ∷ 0 ∷ 0 ∷ k ∷ 0 ∷ 0 ∷ 0 ∷ 0 ∷ 0 ∷ 0 ∷ []; slots = replicate 16 no_slot }

stored_plain : (f : Fields) → stored f blank ≡ plain f.op (f.a % 256) (f.b % 256) (f.out % 256) f.k
unfolding stored dec_raw dec_fields dec_rows dec_slot le
stored_plain f = refl

kept_fresh : (e : Eqn) → kept_nums e no_kept no_passed ≡ no_nums
kept_fresh input = refl
kept_fresh nil = refl
kept_fresh unit = refl
kept_fresh (one f a) = refl
kept_fresh (two g a b) = refl
kept_fresh (last a b) = refl
kept_fresh (delay a b) = refl
kept_fresh (signal c a b) = refl
kept_fresh (window f k a) = refl

fresh_plain : (d : Declared) → of_cell (fresh d) ≡ plain (number_of d.eqn) (arg_a d.eqn) (arg_b d.eqn) (flag d.out) (of_z w64 (value_of d.eqn))
unfolding of_cell pad_to
fresh_plain d = ap (λ (k : KeptNums). raw_of d.eqn d.out 0 [] 0 k 0) (kept_fresh d.eqn)

out_flag : (o : ℕ) → o ≤ 1 → o % 256 ≡ flag (eqb o 1)
out_flag zero h = refl
out_flag (suc zero) h = refl
out_flag (suc (suc o)) h = absurd (omega arith)

-- the fields of a stream that keeps rule 5 make its fresh record
stored_fresh : (n : ℕ) (f : Fields) → keeps n f ≡ true → Stored f → stored f blank ≡ of_cell (fresh (declared_from f))
stored_fresh n f e s =
    let h = s.op in
    let o : f.op ≡ number_of (eqn_from f) = sym (number_back f.a f.b (to_z w64 f.k) f.op h.0 h.1) in
    let a : f.a % 256 ≡ arg_a (eqn_from f) = mod-eq_of_lt s.a ∙ sym (first_of n f h e) in
    let b : f.b % 256 ≡ arg_b (eqn_from f) = mod-eq_of_lt s.b ∙ sym (second_of n f h e) in
    let k : f.k ≡ of_z w64 (value_of (eqn_from f)) = sym (ap (of_z w64) (value_of_lem n f h e) ∙ of_z-to_z {w = w64} {n = f.k} (record { fits = s.k })) in
    let r : plain f.op (f.a % 256) (f.b % 256) (f.out % 256) f.k ≡ plain (number_of (eqn_from f)) (arg_a (eqn_from f)) (arg_b (eqn_from f)) (flag (eqb f.out 1)) (of_z w64 (value_of (eqn_from f))) =
    λ i. plain (o i) (a i) (b i) (out_flag f.out s.out i) (k i) in
    stored_plain f ∙ r ∙ sym (fresh_plain (declared_from f))

-- ---- all streams

set_mid : (l rest : List Raw) (x : Raw) (g : Raw → Raw) → set (l ++ x ∷ rest) (length l) (g (get_or (l ++ x ∷ rest) (length l) no_raw)) ≡ l ++ g x ∷ rest
set_mid [] rest x g = refl
set_mid (y ∷ l) rest x g = ap (λ (t : List Raw). y ∷ t) (set_mid l rest x g)

module _ (text z : List ℕ) where
  abbrev rows : List Raw → Raws
  rows l = record { rows = l; spare = z }

  change_mid : (l rest : List Raw) (x : Raw) (g : Raw → Raw) (i : ℕ) → i ≡ length l → change i g (rows (l ++ x ∷ rest)) ≡ rows (l ++ g x ∷ rest)
  change_mid l rest x g i e = ap (λ (j : ℕ). change j g (rows (l ++ x ∷ rest))) e ∙ ap rows (set_mid l rest x g)

  -- the pass over a text whose lines are well formed
  pass_rows : (m p i end : ℕ) (fs : List Fields) (l : List Raw) → i ≡ length l → streams text p m ≡ formed fs end
      → written text p m i (rows (l ++ replicate m blank)) ≡ rows (l ++ map (λ f. stored f blank) fs)
  unfolding streams written
  pass_rows zero p i end fs l q e = ap (λ (gs : List Fields). rows (l ++ map (λ f. stored f blank) gs)) (ap fields_in e)
  pass_rows (suc m) p i end fs l q e = by (λ p i end fs l q e. pass_rows m p i end fs l q e) (stream text p) refl
    where
      by : ((p i end : ℕ) (fs : List Fields) (l : List Raw) → i ≡ length l → streams text p m ≡ formed fs end → written text p m i (rows (l ++ replicate m blank)) ≡ rows (l ++ map (λ f. stored f blank) fs))
          → (x : Result Fields Refusal) → stream text p ≡ x → next x i (rows (l ++ blank ∷ replicate m blank)) (λ f u. written text f.next m (i + 1) u) ≡ rows (l ++ map (λ f. stored f blank) fs)
      by ih (Err r) g = absurd (none_refused text p (suc m) fs end (omega arith) e r g)
      by ih (Ok f) g =
          let t = next_read text p (suc m) fs end (omega arith) e f g in
          let one = l ++ (stored f blank ∷ []) in
          let k : suc m - 1 ≡ m = omega arith in
          ap (written text f.next m (i + 1)) (change_mid l (replicate m blank) blank (stored f) i q ∙ ap rows (sym (append_assoc l (stored f blank ∷ []) (replicate m blank))))
          ∙ ih f.next (i + 1) end t.0 one (rw (length-append l (stored f blank ∷ [])) (omega arith)) (ap (streams text f.next) (sym k) ∙ t.2)
          ∙ ap rows (append_assoc l (stored f blank ∷ []) (map (λ f. stored f blank) t.0) ∙ ap (λ (gs : List Fields). l ++ map (λ f. stored f blank) gs) (sym t.1))

all_fresh : (n : ℕ) (fs : List Fields) → all_keep n fs ≡ true → noted.All Stored fs → map (λ f. stored f blank) fs ≡ map of_cell (loaded (map declared_from fs))
unfolding all_keep loaded
all_fresh n [] e h = refl
all_fresh n (f ∷ fs) e h = ap₂ ◌∷◌ (stored_fresh n f (left (keeps n f) (all_keep n fs) e) h.0) (all_fresh n fs (right (keeps n f) (all_keep n fs) e) h.1)

-- ---- a cleared state

zero_rows : (n : ℕ) → enc_rows enc_raw no_raw n (replicate n blank) ≡ replicate (n * 256) 0
unfolding enc_rows
zero_rows zero = refl
zero_rows (suc n) =
    let e : suc n * 256 ≡ 256 + n * 256 = omega arith in
    ap₂ ◌++◌ blank_zeros (zero_rows n) ∙ replicate-append-replicate {A = ℕ} 256 (n * 256) 0 ∙ ap (λ (j : ℕ). replicate {A = ℕ} j 0) (sym e)

all_blank : (n : ℕ) → All RawOk (replicate n blank)
all_blank zero = tt
all_blank (suc n) = (blank_ok, all_blank n)

cleared : (size n : ℕ) → n * 256 ≤ size → decode n (replicate size 0) ≡ record { rows = replicate n blank; spare = replicate (size - n * 256) 0 }
unfolding encode
cleared size n h =
    let z = replicate {A = ℕ} (size - n * 256) 0 in
    let st : Raws = record { rows = replicate n blank; spare = z } in
    let e : n * 256 + (size - n * 256) ≡ size = omega arith in
    let b : encode n st ≡ replicate size 0 =
    ap (λ (l : List ℕ). l ++ z) (zero_rows n) ∙ replicate-append-replicate {A = ℕ} (n * 256) (size - n * 256) 0 ∙ ap (λ (j : ℕ). replicate {A = ℕ} j 0) e in
    ap (decode n) (sym b) ∙ decode_encode n st (record { many = length-replicate {A = Raw} n blank; good = all_blank n })

-- ---- the whole text

pub many : (ds : List Declared) → length (loaded ds) ≡ length ds
unfolding loaded
many ds = length-map ds fresh

-- a fresh state's windows keep nothing, so behind its records every byte is 0
windows_fresh : (m : ℕ) (ds : List Declared) → enc_rows enc_window [] m (map words_of (windows_of (map fresh ds))) ≡ replicate (m * window_length) 0
unfolding enc_rows
windows_fresh m [] = none_windows m
windows_fresh m (d ∷ ds) = go (is_window_eqn d.eqn) m (λ j. windows_fresh j ds)
  where
    rest : List (List ℤ)
    rest = windows_of (map fresh ds)

    go : (w : Bool) (m : ℕ) → ((j : ℕ) → enc_rows enc_window [] j (map words_of rest) ≡ replicate (j * window_length) 0) → enc_rows enc_window [] m (map words_of (cond w ([] ∷ rest) rest)) ≡ replicate (m * window_length) 0
    go false m ih = ih m
    go true zero ih = refl
    go true (suc m) ih =
        let q : window_length + m * window_length ≡ suc m * window_length = omega arith in
        ap₂ ◌++◌ none_window (ih m) ∙ replicate-append-replicate {A = ℕ} window_length (m * window_length) 0 ∙ ap (λ (j : ℕ). replicate {A = ℕ} j 0) q

behind_fresh : (size : ℕ) (ds : List Declared) → length (loaded ds) * 256 + area_length ≤ size → behind size (loaded ds) ≡ replicate (size - length (loaded ds) * 256) 0
unfolding behind enc_windows loaded
behind_fresh size ds h =
    let k = size - area_length - length (map fresh ds) * 256 in
    let q : k + area_length ≡ size - length (map fresh ds) * 256 = omega arith in
    ap (λ (l : List ℕ). replicate k 0 ++ l) (windows_fresh window_limit ds) ∙ replicate-append-replicate {A = ℕ} k area_length 0 ∙ ap (λ (j : ℕ). replicate {A = ℕ} j 0) q

-- Load "fills a fresh state, all bounds 0": the bytes of the fresh state of the streams declared
pub taken_filled : (text s : List ℕ) → 0 < capacity (length s) → number (capacity (length s)) text ≡ 0 → filled (capacity (length s)) text s ≡ bytes_of (length s) (loaded (declared (capacity (length s)) text))
unfolding filled bytes_of raws_of
taken_filled text s l e =
    let size = length s in
    let most = capacity size in
    let p = taken_parts most text e in
    let n = p.count in
    let fs = p.fields in
    let t = taken_stored most (capacity_few size) text p in
    let h = head_fits most text n p.start p.opens in
    let z = replicate {A = ℕ} (size - n * 256) 0 in
    let ds = map declared_from fs in
    let M : State = loaded ds in
    let m : length M ≡ n = many ds ∙ length-map fs declared_from ∙ t.1 in
    ap (λ (x : Result (ℕ × ℕ) Refusal). filled_head text x s) p.opens
    ∙ ap (λ (st : Raws). encode n (written text p.start n 0 st)) (cleared size n (omega (arith, h, capacity_fits size)))
    ∙ ap (encode n) (pass_rows text z n p.start 0 (length text) fs [] refl p.lists ∙ ap (λ (l : List Raw). rows text z l) (all_fresh n fs p.kept t.0))
    ∙ ap (λ (j : ℕ). encode j (record { rows = map of_cell M; spare = replicate (size - j * 256) 0 })) (sym m)
    ∙ ap (λ (b : List ℕ). encode (length M) (record { rows = map of_cell M; spare = b })) (sym (behind_fresh size ds (omega (arith, h, m, capacity_area size l))))
    ∙ ap (λ (ds : List Declared). bytes_of size (loaded ds)) (sym (parts_declared most text p))
