-- What a move counts, on the whole buffer: a record with other counts is looked at as before, and keeps within its widths.
use Prim.Native.Nat.{ℕ, suc, ◌+◌, ◌*◌, ◌/◌, ◌%◌, ◌^◌, ◌<◌, ◌≤◌, min}
use mathlib.Core.Path.{◌≡◌, refl, sym, ap, ap₂, ◌∙◌, subst}
use mathlib.Core.Bool.{Bool, true, false, not, cond, ◌&&◌}
use mathlib.Core.List.{List, [], ◌∷◌, ◌++◌}
use lib.Dec.{ltb}
use lib.IntN.{ℤ}
use Rattle.meaning.specs.Events.{Event, has}
use Rattle.meaning.specs.Table.{folded, latest_of}
use Rattle.meaning.specs.Table as meaning
use Rattle.machine.specs.Reach.{view}
use Rattle.machine.specs.Step.{hears, drop_below}
use Rattle.machine.specs.Windows.{take_below}
use Rattle.sliding.specs.Slide.{missing_row}
use native.Mathlib.Omega.{arith}
use lib.ListN.{length, set}
use lib.Seq.{set-get_or, get_or-set_other, get_or-set_same}
use mir.Syntax.{w64}
use mir.Val.{to_z}
use Rattle.meaning.specs.Plan.{Fold, wsum, wmin, wmax, Eqn, input, nil, unit, one, two, last, delay, signal, window}
use Rattle.meaning.specs.Arguments.{arg_a, arg_b}
use Rattle.meaning.specs.Missing.{Reason, Outside, ZeroDivisor, said_for, can_lack, count_limit}
use Rattle.machine.specs.State.{Cell, Kept}
use Rattle.machine.specs.Counting.{tally_of, sum_tally, tallied}
use Rattle.operators.specs.Operators.{lacks_at}
use Rattle.operators.proofs.Laws.{lacks_fields}
use Rattle.le.specs.Bytes.{Bytes}
use Rattle.layout.specs.Record.{Raw, Raws, no_raw, num, with_num, encode, decode, row_at, change, op_f, a_f, b_f, k_f, counts_f}
use Rattle.layout.proofs.Laws.{RawOk, RawsOk, raws_ok, row_ok_lem, change_ok, num_ok, encode_decode}
use Rattle.encoding.specs.Back.{to_cell, held_of, kept_of}
use Rattle.apply.specs.declared.Fold as code
use Rattle.apply.specs.declared.Fold.TheVariants.{Sum, Least, Greatest}
use Rattle.apply.specs.Named.{folding}
use Rattle.streams.specs.declared.Op.{Op}
use Rattle.streams.specs.Look.{look_of, equation, plain, own_cell, arg_cell}
use Rattle.streams.proofs.Laws.{look_eqn}
use Rattle.counting.specs.Tally.{count_in, counted_row}
use Rattle.counting.proofs.Laws.{of, counted_none}
use Rattle.passing.specs.Pass.{own_in, other_in, arg_in, summed_for, passing, Quiet, missed_raw, counted_raw}
use Rattle.passing.proofs.Arms.{Other, no_window, plain_is}

-- ---- what is looked at

pub counted_look : (m n : ℕ) (r : Raw) → look_of (counted_row m n r) ≡ look_of r
unfolding look_of to_cell held_of kept_of counted_row
counted_look m n r =
    simp (o 0 (λ q. omega arith), o 1 (λ q. omega arith), o 2 (λ q. omega arith), o 3 (λ q. omega arith), o 4 (λ q. omega arith), o 5 (λ q. omega arith), o 6 (λ q. omega arith), o 8 (λ q. omega arith), o 9 (λ q. omega arith), o 10 (λ q. omega arith), o 11 (λ q. omega arith), o 12 (λ q. omega arith), o 13 (λ q. omega arith))
  where
    v : ℕ
    v = min count_limit (num counts_f r % 2 ^ 32 + m) + min count_limit (num counts_f r / 2 ^ 32 + n) * 2 ^ 32

    o : (j : ℕ) → (j ≡ counts_f → ⊥) → num j (with_num counts_f v r) ≡ num j r
    o j h = get_or-set_other r.nums counts_f j v 0 h

counted_wide : (m n : ℕ) (r : Raw) → RawOk r → RawOk (counted_row m n r)
unfolding counted_row
counted_wide m n r ok = num_ok r counts_f _ ok (omega arith)

module _ (n i : ℕ) (e : Eqn) (k : Kept) (y x : ℕ) (st : Raws) where
  pub counted_own : i < length st.rows → own_in i (counted_raw n i e k y x st) ≡ own_in i st
  unfolding counted_raw
  counted_own l = go (can_lack e)
    where
      m : ℕ
      m = missed_raw Outside n i e k y x st

      z : ℕ
      z = missed_raw ZeroDivisor n i e k y x st

      go : (b : Bool) → own_in i (cond b (change i (counted_row m z) st) st) ≡ own_in i st
      go true = ap look_of (get_or-set_same st.rows i (counted_row m z (row_at st i)) no_raw l) ∙ counted_look m z (row_at st i)
      go false = refl

  pub counted_ok : i < n → RawsOk n st → RawsOk n (counted_raw n i e k y x st)
  unfolding counted_raw
  counted_ok h ok = go (can_lack e)
    where
      m : ℕ
      m = missed_raw Outside n i e k y x st

      z : ℕ
      z = missed_raw ZeroDivisor n i e k y x st

      go : (b : Bool) → RawsOk n (cond b (change i (counted_row m z) st) st)
      go true = change_ok n st i (counted_row m z) ok (counted_wide m z (row_at st i) (row_ok_lem n st i ok h))
      go false = ok

-- ---- the ways out

-- who counts is told by the stored number
pub lacks_row : (r : Raw) → can_lack (look_of r).eqn ≡ lacks_at (num op_f r)
lacks_row r = ap can_lack (look_eqn r) ∙ lacks_fields (num a_f r) (num b_f r) (to_z w64 (num k_f r)) (num op_f r)

module _ (n i : ℕ) (e : Eqn) (k : Kept) (y x : ℕ) (s : List ℕ) (fits : n * 256 ≤ length s) (b : Bytes s) where
  abbrev st : Raws
  st = decode n s

  -- its events are never missing
  pub counted_other : can_lack e ≡ false → s ≡ encode n (counted_raw n i e k y x (decode n s))
  unfolding counted_raw
  counted_other q = rw q (sym (encode_decode n s fits b))

  -- none is missing now
  pub counted_none_is : i < n → missed_raw Outside n i e k y x (decode n s) ≡ 0 → missed_raw ZeroDivisor n i e k y x (decode n s) ≡ 0 → s ≡ encode n (counted_raw n i e k y x (decode n s))
  unfolding counted_raw
  counted_none_is h p q = sym (ap (encode n) (go (can_lack e)) ∙ encode_decode n s fits b)
    where
      row : counted_row (missed_raw Outside n i e k y x (decode n s)) (missed_raw ZeroDivisor n i e k y x (decode n s)) (row_at (decode n s) i) ≡ row_at (decode n s) i
      row = ap₂ (λ (u w : ℕ). counted_row u w (row_at (decode n s) i)) p q ∙ counted_none (row_at (decode n s) i) (row_ok_lem n (decode n s) i (raws_ok n s b) h)

      go : (c : Bool) → cond c (change i (counted_row (missed_raw Outside n i e k y x (decode n s)) (missed_raw ZeroDivisor n i e k y x (decode n s))) (decode n s)) (decode n s) ≡ decode n s
      go true = ap (λ (l : List Raw). record { rows = l; spare = (decode n s).spare }) (ap (set (decode n s).rows i) row ∙ set-get_or (decode n s).rows i no_raw)
      go false = refl

  pub counted_some : can_lack e ≡ true → (s₁ : List ℕ) (u w : ℕ) → u ≡ missed_raw Outside n i e k y x (decode n s) → w ≡ missed_raw ZeroDivisor n i e k y x (decode n s)
      → s₁ ≡ encode n (change i (counted_row u w) (decode n s)) → s₁ ≡ encode n (counted_raw n i e k y x (decode n s))
  unfolding counted_raw
  counted_some q s₁ u w p r h = h ∙ rw (q, p, r)

-- ---- at how many stamps

-- only held events of the arguments are looked at
tallied_near : (q : Reason) (e : Eqn) (o a b : Cell) (x : ℕ) → tallied q e o a b x ≡ tallied q e o (arg_cell 0 a.held) (arg_cell 0 b.held) x
tallied_near q input o a b x = refl
tallied_near q nil o a b x = refl
tallied_near q unit o a b x = refl
tallied_near q (one f c) o a b x = refl
tallied_near q (two g c d) o a b x = refl
tallied_near q (last c d) o a b x = refl
tallied_near q (delay c d) o a b x = refl
tallied_near q (signal g c d) o a b x = refl
tallied_near q (window f k c) o a b x = refl

held_look : (r : Raw) → (look_of r).held ≡ held_of r
unfolding look_of to_cell
held_look r = refl

pub missed_other : (q : Reason) (n i : ℕ) (op : Op) (k : Kept) (y x : ℕ) (st : Raws) → Other op
    → tallied q (plain op) (own_cell nil y k) (arg_cell 0 (held_of (row_at st (arg_in n (arg_a (equation op)))))) (arg_cell 0 (held_of (row_at st (arg_in n (arg_b (equation op)))))) x
    ≡ missed_raw q n i (equation op) k y x st
missed_other q n i op k y x st h =
    let o = own_cell nil y k in
    let a = other_in n (arg_a (equation op)) st in
    let b = other_in n (arg_b (equation op)) st in
    (λ j. tallied q (plain_is op h j) o (arg_cell 0 (sym (held_look (row_at st (arg_in n (arg_a (equation op))))) j)) (arg_cell 0 (sym (held_look (row_at st (arg_in n (arg_b (equation op))))) j)) x)
    ∙ sym (tallied_near q (equation op) o a b x) ∙ sym (rw (no_window op h))

-- a window's, by its fold
pub summed_least : (q : Reason) {f : code.Fold} (m : ℕ) → f ≡ Least → count_in q (of 0 0) ≡ summed_for q (folding f) m
summed_least Outside m e = rw e
summed_least ZeroDivisor m e = refl

pub summed_greatest : (q : Reason) {f : code.Fold} (m : ℕ) → f ≡ Greatest → count_in q (of 0 0) ≡ summed_for q (folding f) m
summed_greatest Outside m e = rw e
summed_greatest ZeroDivisor m e = refl

pub summed_sum : (q : Reason) {f : code.Fold} (c m : ℕ) → f ≡ Sum → c ≡ m → count_in q (of c 0) ≡ summed_for q (folding f) m
summed_sum Outside c m e d = rw e d
summed_sum ZeroDivisor c m e d = refl

-- ---- where no event is passed nothing is missing

no_sum : (k x : ℕ) (w : List ℤ) (es : List Event) → take_below x es ≡ [] → sum_tally k x w es ≡ 0
unfolding take_below sum_tally
no_sum k x w [] h = refl
no_sum k x w (e ∷ es) h = go (ltb e.stamp x) h
  where
    now : List ℤ
    now = w ++ e.value ∷ []

    go : (b : Bool) → cond b (e ∷ take_below x es) [] ≡ [] → cond b (cond (has (meaning.value_of (folded wsum (latest_of k now)))) (sum_tally k x now es) (suc (sum_tally k x now es))) 0 ≡ 0
    go true h = let z : ◌≡◌ {A = ℕ} 0 1 = cc in absurd (omega arith)
    go false h = refl

summed_none : (q : Reason) (f : Fold) (m : ℕ) → m ≡ 0 → summed_for q f m ≡ 0
summed_none Outside wsum m e = e
summed_none Outside wmin m e = refl
summed_none Outside wmax m e = refl
summed_none ZeroDivisor f m e = refl

none_tallied : (f : ℕ → Bool) (es : List Event) → es ≡ [] → tally_of f es ≡ 0
unfolding tally_of
none_tallied f es e = rw e

pub quiet_none : (n i : ℕ) (e : Eqn) (k : Kept) (y x : ℕ) (st : Raws) → Quiet n e y x st → (q : Reason) → missed_raw q n i e k y x st ≡ 0
unfolding missing_row
quiet_none n i input k y x st h q = refl
quiet_none n i nil k y x st h q = refl
quiet_none n i unit k y x st h q = refl
quiet_none n i (one f a) k y x st h q = none_tallied _ (passing y x (other_in n a st)) h
quiet_none n i (two g a b) k y x st h q = none_tallied _ (passing y x (other_in n a st)) h
quiet_none n i (last a b) k y x st h q = refl
quiet_none n i (delay a b) k y x st h q = refl
quiet_none n i (signal c a b) k y x st h q = let u = none_tallied (λ t. said_for q (hears (signal c a b) (own_cell nil y k) (other_in n a st) (other_in n b st) t)) (passing y x (other_in n a st)) h.0 in let w = none_tallied (λ t. not (has (view (other_in n a st) t)) && said_for q (hears (signal c a b) (own_cell nil y k) (other_in n a st) (other_in n b st) t)) (passing y x (other_in n b st)) h.1 in omega (arith, u, w)
quiet_none n i (window f m a) k y x st h q = summed_none q f _ (no_sum _ x _ (drop_below y (other_in n a st).held) h)

-- an arm of a match on the operator
pub quiet_arm : (n y x : ℕ) (st : Raws) {p r : Op} → p ≡ r → Quiet n (equation r) y x st → Quiet n (equation p) y x st
quiet_arm n y x st e h = subst (λ (o : Op). Quiet n (equation o) y x st) (sym e) h

pub none_held : (n a y x : ℕ) (st : Raws) → take_below x (drop_below y (held_of (row_at st (arg_in n a)))) ≡ [] → passing y x (other_in n a st) ≡ []
unfolding look_of to_cell
none_held n a y x st h = h
