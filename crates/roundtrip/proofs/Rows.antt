-- A record that passes is the record of the cell that it gives, and that cell is sound.
use Prim.Native.Nat.{ℕ, zero, suc, ◌-◌, ◌<◌, ◌≤◌, min}
use mathlib.Core.Path.{◌≡◌, refl, sym, ap, ◌∙◌, subst}
use mathlib.Core.List.{List, [], ◌∷◌, map}
use mathlib.Core.Bool.{Bool, true, false, not, cond, ◌&&◌, true≢false}
use native.Mathlib.Omega.{arith}
use lib.Dec.{eqb, leb, lit<, lit≤, T}
use lib.IntN.{ℤ}
use lib.ListN.{length, take, length-map}
use lib.Seq.{length-take-le}
use borrow.Author.Tests.{eqb-true, ltb-true, leb-true, ne_eqb}
use mir.Syntax.{w64}
use mir.Val.{of_z, to_z}
use Rattle.meaning.specs.Plan.{Eqn, input, nil, unit, one, two, last, delay, signal, window, is_input}
use Rattle.meaning.specs.Table.{width}
use Rattle.machine.specs.State.{Kept, Passed, Cell, room, no_kept, with_window, with_passed}
use Rattle.operators.specs.Operators.{group_of, is_last, is_delay, is_signal, is_window, eqn_group, uses_k, number_of, value_of}
use Rattle.operators.proofs.Widths.{width_is, bits_width}
use Rattle.operators.specs.declared.Group.{Group}
use Rattle.operators.specs.declared.Group.TheVariants.{Absent, Input, Plain, One, Two, Last, Delay, Signal, Window}
use Rattle.operators.specs.Limits.{width_limit}
use Rattle.operators.specs.Windows.{width_ok}
use Rattle.operators.proofs.Laws.{group_of_lem, number_back, value_back, input_by_number, lacks_fields}
use Rattle.operators.proofs.Rules.{value_ok_lem, out_ok_lem, fields_first, fields_second, fields_value, fields_reads}
use Rattle.le.specs.Bytes.{Bytes}
use Rattle.le.specs.Layout.{dec_fields}
use Rattle.layout.specs.Record.{Raw, no_slot, num, slot_at, dec_raw, op_f, a_f, b_f, out_f, count_f, flag_f, prior_flag_f, k_f, bound_f, next_f, kept_f, value_f, prior_f, counts_f}
use Rattle.layout.proofs.Laws.{RawOk, raw_ok}
use Rattle.layout.proofs.Slots.{slots_many}
use Rattle.encoding.specs.View.{KeptNums, no_nums, last_nums, delay_nums, signal_nums, window_nums, kept_nums, slot_of, pad_to, of_cell}
use Rattle.encoding.specs.Back.{event_of, held_of, kept_of, to_cell, counts_in}
use Rattle.encoding.specs.Sound.{IsValue, Rising, IsNext, LastKept, DelayKept, SignalKept, IsKept, IsPassed, SoundCell, Own}
use Rattle.valid.specs.Valid.{next_ok, last_ok, own_ok, delay_ok, signal_ok, window_ok, none_ok, kept_ok}
use Rattle.valid.proofs.Link.{eqn_in}
use Rattle.roundtrip.proofs.Counts.{counts_word_lem, counts_sound}
use Rattle.roundtrip.proofs.Tail.{slots_back, stamps_back, stamps_under}
use Rattle.valid.proofs.Tests.{right}
use Rattle.roundtrip.proofs.Back.{RowFacts, WindowFacts, k_is, k_value, out_is, no_input_lem, word, last_kept, delay_kept_lem, signal_kept_lem, own_kept, other_kept, window_kept, none_kept}

-- ---- kept data by the equation's group

is_kept : (e : Eqn) (y : ℕ) (k : Kept) → (is_last (eqn_group e) ≡ true → LastKept y k) → (is_last (eqn_group e) ≡ false → is_delay (eqn_group e) ≡ true → DelayKept y k)
    → (is_last (eqn_group e) ≡ false → is_delay (eqn_group e) ≡ false → is_signal (eqn_group e) ≡ true → SignalKept y k)
    → (is_last (eqn_group e) ≡ false → is_delay (eqn_group e) ≡ false → is_signal (eqn_group e) ≡ false → k ≡ no_kept) → IsKept e y k
is_kept input y k l d x n = n refl refl refl
is_kept nil y k l d x n = n refl refl refl
is_kept unit y k l d x n = n refl refl refl
is_kept (one f a) y k l d x n = n refl refl refl
is_kept (two g a b) y k l d x n = n refl refl refl
is_kept (last a b) y k l d x n = l refl
is_kept (delay a b) y k l d x n = d refl refl
is_kept (signal c a b) y k l d x n = x refl refl refl
is_kept (window f w a) y k l d x n = n refl refl refl

a_delay : (e : Eqn) → T (is_delay (eqn_group e)) → (is_last (eqn_group e) ≡ false) × (is_delay (eqn_group e) ≡ true)
a_delay input t = absurd t
a_delay nil t = absurd t
a_delay unit t = absurd t
a_delay (one f a) t = absurd t
a_delay (two g a b) t = absurd t
a_delay (last a b) t = absurd t
a_delay (delay a b) t = (refl, refl)
a_delay (signal c a b) t = absurd t
a_delay (window f k a) t = absurd t

abbrev stored_nums : Raw → KeptNums
stored_nums r = record { flag = num flag_f r; prior_flag = num prior_flag_f r; kept = num kept_f r; value = num value_f r; prior = num prior_f r }

module _ (r : Raw) (ok : RawOk r) (e : kept_ok r ≡ true) where
  as_last : is_last (group_of (num op_f r)) ≡ true → last_ok r ≡ true
  unfolding kept_ok
  as_last l = rw l at e

  as_delay : is_last (group_of (num op_f r)) ≡ false → is_delay (group_of (num op_f r)) ≡ true → delay_ok r ≡ true
  unfolding kept_ok
  as_delay l d = rw (l, d) at e

  as_signal : is_last (group_of (num op_f r)) ≡ false → is_delay (group_of (num op_f r)) ≡ false → is_signal (group_of (num op_f r)) ≡ true → signal_ok r ≡ true
  unfolding kept_ok
  as_signal l d x = rw (l, d, x) at e

  pub as_window : is_last (group_of (num op_f r)) ≡ false → is_delay (group_of (num op_f r)) ≡ false → is_signal (group_of (num op_f r)) ≡ false → is_window (group_of (num op_f r)) ≡ true → window_ok r ≡ true
  unfolding kept_ok
  as_window l d x w = rw (l, d, x, w) at e

  as_none : is_last (group_of (num op_f r)) ≡ false → is_delay (group_of (num op_f r)) ≡ false → is_signal (group_of (num op_f r)) ≡ false → is_window (group_of (num op_f r)) ≡ false → none_ok r ≡ true
  unfolding kept_ok
  as_none l d x w = rw (l, d, x, w) at e

  -- q is the equation whose stored number the record has
  module _ (q : Eqn) (n : number_of q ≡ num op_f r) where
    same_group : group_of (num op_f r) ≡ eqn_group q
    same_group = sym (ap group_of n) ∙ group_of_lem q

    kept_sound : IsKept q (num bound_f r) (kept_of r)
    kept_sound =
        is_kept q (num bound_f r) (kept_of r)
        (λ l. let l' = ap is_last same_group ∙ l in (last_kept r ok (as_last l') l').0)
        (λ l d. let l' = ap is_last same_group ∙ l in let d' = ap is_delay same_group ∙ d in (delay_kept_lem r ok (as_delay l' d') l' d').0)
        (λ l d x. let l' = ap is_last same_group ∙ l in let d' = ap is_delay same_group ∙ d in let x' = ap is_signal same_group ∙ x in (signal_kept_lem r ok (as_signal l' d' x') l' d' x').0)
        (λ l d x. let l' = ap is_last same_group ∙ l in let d' = ap is_delay same_group ∙ d in let x' = ap is_signal same_group ∙ x in other_kept r ok l' d' x')

    -- w: what it keeps outside the record, if it is a window
    kept_nums_lem : (w : Passed) → (is_window (group_of (num op_f r)) ≡ true → length w.window ≡ num flag_f r) → kept_nums q (kept_of r) w ≡ stored_nums r
    kept_nums_lem w fill = sym (ap (λ (g : Group). nums_by g) same_group) ∙ go (is_last (group_of (num op_f r))) refl (is_delay (group_of (num op_f r))) refl (is_signal (group_of (num op_f r))) refl (is_window (group_of (num op_f r))) refl
      where
        nums_by : Group → KeptNums
        nums_by g = cond (is_last g) (last_nums (kept_of r)) (cond (is_delay g) (delay_nums (kept_of r)) (cond (is_signal g) (signal_nums (kept_of r)) (cond (is_window g) (window_nums w) no_nums)))

        go : (l : Bool) → is_last (group_of (num op_f r)) ≡ l → (d : Bool) → is_delay (group_of (num op_f r)) ≡ d → (x : Bool) → is_signal (group_of (num op_f r)) ≡ x → (v : Bool) → is_window (group_of (num op_f r)) ≡ v → nums_by (group_of (num op_f r)) ≡ stored_nums r
        go true l d m x n v o = rw l (last_kept r ok (as_last l) l).1
        go false l true m x n v o = rw (l, m) (delay_kept_lem r ok (as_delay l m) l m).1
        go false l false m true n v o = rw (l, m, n) (signal_kept_lem r ok (as_signal l m n) l m n).1
        go false l false m false n true o =
            rw (l, m, n, o) (ap (λ (j : ℕ). record { flag = j; prior_flag = 0; kept = 0; value = 0; prior = 0 }) (fill o) ∙ (window_kept r ok (as_window l m n o)).nums)
        go false l false m false n false o = rw (l, m, n, o) (none_kept r ok (as_none l m n o))

window_alone : (g : Group) → is_window g ≡ true → (is_last g ≡ false) × ((is_delay g ≡ false) × (is_signal g ≡ false))
window_alone Absent e = (refl, (refl, refl))
window_alone Input e = (refl, (refl, refl))
window_alone Plain e = (refl, (refl, refl))
window_alone One e = (refl, (refl, refl))
window_alone Two e = (refl, (refl, refl))
window_alone Last e = absurd (true≢false (sym e))
window_alone Delay e = absurd (true≢false (sym e))
window_alone Signal e = absurd (true≢false (sym e))
window_alone Window e = (refl, (refl, refl))

wide : (op k : ℕ) → is_window (group_of op) ≡ true → width_ok op k ≡ true → k ≤ width_limit
unfolding width_ok
wide op k e h = let t : (leb 1 k && leb k width_limit) ≡ true = rw e at h in leb-true k width_limit (right (leb 1 k) (leb k width_limit) t)

-- ---- the record

nums_eta : (p : List ℕ) → (let r = dec_raw p in r.nums ≡ num 0 r ∷ num 1 r ∷ num 2 r ∷ num 3 r ∷ num 4 r ∷ num 5 r ∷ num 6 r ∷ num 7 r ∷ num 8 r ∷ num 9 r ∷ num 10 r ∷ num 11 r ∷ num 12 r ∷ num 13 r ∷ num 14 r ∷ [])
unfolding dec_raw dec_fields
nums_eta p = refl

-- the cell of a record, with these values in its window
abbrev pub cell_in : List ℤ → Raw → Cell
cell_in xs r = with_passed (with_window xs (counts_in r)) (to_cell r)

module _ (n : ℕ) (p : List ℕ) (len : length p ≡ 256) (b : Bytes p) (f : RowFacts n p) where
  raw : Raw
  raw = dec_raw p

  count_is : min (num count_f (dec_raw p)) room ≡ num count_f (dec_raw p)
  count_is = let c = f.count in omega arith

  held_is : held_of (dec_raw p) ≡ map event_of (take (num count_f (dec_raw p)) (dec_raw p).slots)
  unfolding held_of
  held_is = ap (λ (j : ℕ). map event_of (take j (dec_raw p).slots)) count_is

  -- with what a window keeps beside it
  pub row_back : (xs : List ℤ) → (is_window (group_of (num op_f (dec_raw p))) ≡ true → length xs ≡ num flag_f (dec_raw p)) → dec_raw p ≡ of_cell (cell_in xs (dec_raw p))
  unfolding to_cell of_cell
  row_back xs fill =
      let r = dec_raw p in
      let ok = raw_ok p b in
      let op = num op_f r in
      let g = f.plan in
      let k = to_z w64 (num k_f r) in
      let o = number_back (num a_f r) (num b_f r) k op g.least g.most in
      let a = fields_first n (num op_f r) (num a_f r) (num b_f r) (num k_f r) (num out_f r) g.fields k in
      let s = fields_second n (num op_f r) (num a_f r) (num b_f r) (num k_f r) (num out_f r) g.fields k in
      let v = ap (of_z w64) (value_back (num a_f r) (num b_f r) k op) ∙ k_is (uses_k op) (num k_f r) (word r ok k_f (lit≤ tt) (lit< tt)) (value_ok_lem n (num op_f r) (num a_f r) (num b_f r) (num k_f r) (num out_f r) g.fields) in
      let out = out_is (group_of op) (num out_f r) (out_ok_lem n (num op_f r) (num a_f r) (num b_f r) (num k_f r) (num out_f r) g.fields) in
      let kb = kept_nums_lem r ok f.kept (eqn_in r) o (cell_in xs r).passed fill in
      let cn = ap length held_is ∙ length-map (take (num count_f r) r.slots) event_of ∙ length-take-le (num count_f r) r.slots (rw (slots_many p) f.count) in
      let sl = ap (λ (l : List Rattle.meaning.specs.Events.Event). pad_to room no_slot (map slot_of l)) held_is ∙ slots_back p (num count_f r) len f.count ok.good f.zeros in
      sym ((λ i. record {
        nums = o i ∷ a i ∷ s i ∷ out i ∷ cn i ∷ (kb i).flag ∷ (kb i).prior_flag ∷ sym f.small i ∷ v i ∷ num 9 r ∷ num 10 r ∷ (kb i).kept ∷ (kb i).value ∷ (kb i).prior ∷ counts_word_lem r i ∷ [];
        slots = sl i;
      }) ∙ (λ i. record { nums = sym (nums_eta p) i; slots = r.slots }))

  next_sound : (o : ℕ) → next_ok o (num next_f (dec_raw p)) (num bound_f (dec_raw p)) ≡ true → IsNext (not (eqb o 0)) (num next_f (dec_raw p)) (num bound_f (dec_raw p))
  next_sound zero e = eqb-true (num next_f (dec_raw p)) 0 e
  next_sound (suc o) e =
      let q : eqb (suc o) 0 ≡ false = ne_eqb (suc o) 0 (λ z. omega arith) in
      rw q (leb-true (num next_f (dec_raw p)) (num bound_f (dec_raw p)) (rw q at e))

  -- of a delay, whose newest held event lies below since
  module _ (l : is_last (group_of (num op_f (dec_raw p))) ≡ false) (d : is_delay (group_of (num op_f (dec_raw p))) ≡ true) where
    newest_below : (j : ℕ) → suc j ≡ num count_f (dec_raw p) → (slot_at j (dec_raw p)).stamp < num kept_f (dec_raw p)
    unfolding own_ok
    newest_below j e =
        let r = dec_raw p in
        let q : num count_f r - 1 ≡ j = omega arith in
        ltb-true (slot_at j r).stamp (num kept_f r) (rw (ne_eqb (num count_f r) 0 (λ z. omega arith), q) at (own_kept r (raw_ok p b) (as_delay r (raw_ok p b) f.kept l d)))

    own_below : Rising 0 (kept_of (dec_raw p)).since (held_of (dec_raw p))
    unfolding kept_of
    own_below =
        let r = dec_raw p in
        let many : num count_f r ≤ length r.slots = rw (slots_many p) f.count in
        rw (l, d, held_is) (stamps_back 0 (num kept_f r) (num count_f r) r.slots many (raw_ok p b).good (stamps_under 0 (num bound_f r) (num kept_f r) (num count_f r) r.slots many (λ z. omega arith) newest_below f.stamps))

  pub row_sound : (xs : List ℤ) → IsPassed (eqn_in (dec_raw p)) (num bound_f (dec_raw p)) (cell_in xs (dec_raw p)).passed → SoundCell n (cell_in xs (dec_raw p))
  unfolding to_cell
  row_sound xs ps =
      let r = dec_raw p in
      let ok = raw_ok p b in
      let g = f.plan in
      let k = to_z w64 (num k_f r) in
      let o = number_back (num a_f r) (num b_f r) k (num op_f r) g.least g.most in
      record {
        arguments = fields_reads n (num op_f r) (num a_f r) (num b_f r) (num k_f r) (num out_f r) g.fields k;
        value = subst IsValue (sym (value_back (num a_f r) (num b_f r) k (num op_f r))) (k_value (uses_k (num op_f r)) (num k_f r) (word r ok k_f (lit≤ tt) (lit< tt)));
        width = width_is (num op_f r) (num a_f r) (num b_f r) (num k_f r) g.width;
        out = λ t. no_input_lem (group_of (num op_f r)) (num out_f r) (out_ok_lem n (num op_f r) (num a_f r) (num b_f r) (num k_f r) (num out_f r) g.fields) (sym (input_by_number (num a_f r) (num b_f r) k (num op_f r)) ∙ is_true (is_input (eqn_in r)) t);
        bound = f.bound;
        few = rw held_is (rw (length-map (take (num count_f r) r.slots) event_of, length-take-le (num count_f r) r.slots (rw (slots_many p) f.count)) f.count);
        held = rw held_is (stamps_back 0 (num bound_f r) (num count_f r) r.slots (rw (slots_many p) f.count) ok.good f.stamps);
        next = next_sound (num out_f r) f.next;
        kept = kept_sound r ok f.kept (eqn_in r) o;
        passed = ps;
        counts = λ q. rw (lacks_fields (num a_f r) (num b_f r) k (num op_f r)) (counts_sound r (word r ok counts_f (lit≤ tt) (lit< tt)) f.counts xs q);
      }
    where
      is_true : (q : Bool) → T q → q ≡ true
      is_true true t = refl
      is_true false t = absurd t

  pub row_own : Own (to_cell (dec_raw p))
  unfolding to_cell
  row_own t =
      let r = dec_raw p in
      let g = same_group r (raw_ok p b) f.kept (eqn_in r) (number_back (num a_f r) (num b_f r) (to_z w64 (num k_f r)) (num op_f r) f.plan.least f.plan.most) in
      let d = a_delay (eqn_in r) t in
      own_below (ap is_last g ∙ d.0) (ap is_delay g ∙ d.1)

  -- of a window: what it keeps is within its width, and nothing with bound 0
  module _ (e : is_window (group_of (num op_f (dec_raw p))) ≡ true) where
    stored : WindowFacts (dec_raw p)
    stored = let r = dec_raw p in let a = window_alone (group_of (num op_f r)) e in window_kept r (raw_ok p b) (as_window r (raw_ok p b) f.kept a.0 a.1.0 a.1.1 e)

    k_small : num k_f (dec_raw p) ≤ width_limit
    k_small = let r = dec_raw p in wide (num op_f r) (num k_f r) e f.plan.width

    pub row_fill : num flag_f (dec_raw p) ≤ width_limit
    row_fill = let h = stored.few in let k = k_small in omega arith

    pub row_within : num flag_f (dec_raw p) ≤ width (value_of (eqn_in (dec_raw p)))
    row_within =
        let r = dec_raw p in
        rw (fields_value n (num op_f r) (num a_f r) (num b_f r) (num k_f r) (num out_f r) f.plan.fields, bits_width (num k_f r) k_small) stored.few

    pub row_fresh : num bound_f (dec_raw p) ≡ 0 → num flag_f (dec_raw p) ≡ 0
    row_fresh = stored.fresh
