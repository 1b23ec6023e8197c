-- The kept data of each operator, and the record that holds them.
use Prim.Native.Nat.{ℕ, ◌<◌, ◌^◌}
use mathlib.Core.Path.{◌≡◌, refl, sym, ap, ◌∙◌}
use mathlib.Core.Bool.{Bool, false, cond, false≢true}
use Rattle.std.specs.Prelude.{Option, None}
use mathlib.Core.List.{List}
use lib.IntN.{ℤ}
use lib.ListN.{get_or}
use borrow.Author.Tests.{eq-eqb, ne_eqb}
use Rattle.meaning.specs.Plan.{Calc, Eqn, input, nil, unit, one, two, last, delay, signal, window}
use Rattle.meaning.specs.Events.{Event}
use Rattle.machine.specs.State.{Kept, Passed, Cell, with_kept}
use Rattle.machine.specs.Reach.{value_at}
use Rattle.machine.specs.Step.{later, absorb}
use Rattle.layout.specs.Record.{Raw, head_widths, with_num, flag_f, prior_flag_f, kept_f, value_f, prior_f}
use Rattle.layout.proofs.Laws.{RawOk, num_ok}
use Rattle.encoding.specs.View.{flag_of, bits_of, kept_nums, counts_word, raw_of, of_cell}
use Rattle.streams.specs.Look.{arg_cell}
use Rattle.streams.proofs.Laws.{keeps}
use Rattle.keeping.specs.Keep.{moved_cell, value_kept, delay_kept, signal_kept, kept_row}

-- z is the latest set point, x a's event just below the bound
module _ (o a b : Cell) (z : ℕ) (ez : z ≡ later o b) (x : Option ℤ) (ex : x ≡ (absorb (delay 0 0) o a b).prior) where
  pub delay_none : z ≡ 0 → record { prev = o.kept.prev; prev_b = o.kept.prev_b; since = z; value = None; prior = x } ≡ absorb (delay 0 0) o a b
  delay_none h =
      let v : None ≡ (absorb (delay 0 0) o a b).value = sym (ap (λ (c : Bool). cond c None (value_at o a (later o b))) (eq-eqb (later o b) 0 (sym ez ∙ h))) in
      λ i. record { prev = o.kept.prev; prev_b = o.kept.prev_b; since = ez i; value = v i; prior = ex i }

  pub delay_some : (v : Option ℤ) → v ≡ value_at o a z → (z ≡ 0 → ⊥) → record { prev = o.kept.prev; prev_b = o.kept.prev_b; since = z; value = v; prior = x } ≡ absorb (delay 0 0) o a b
  delay_some v ev h =
      let w : v ≡ (absorb (delay 0 0) o a b).value =
      ev ∙ ap (value_at o a) ez ∙ sym (ap (λ (c : Bool). cond c None (value_at o a (later o b))) (ne_eqb (later o b) 0 (λ q. h (ez ∙ q)))) in
      λ i. record { prev = o.kept.prev; prev_b = o.kept.prev_b; since = ez i; value = w i; prior = ex i }

-- no more of the cells is needed than this
pub absorb_near : (e : Eqn) (o a b : Cell) (x y : ℕ) → absorb e (moved_cell o.bound o.held o.kept) (arg_cell x a.held) (arg_cell y b.held) ≡ absorb e o a b
absorb_near input o a b x y = refl
absorb_near nil o a b x y = refl
absorb_near unit o a b x y = refl
absorb_near (one f _) o a b x y = refl
absorb_near (two g _ _) o a b x y = refl
absorb_near (last _ _) o a b x y = refl
absorb_near (delay _ _) o a b x y = refl
absorb_near (signal c _ _) o a b x y = refl
absorb_near (window f k _) o a b x y = refl

-- ---- the record

-- the flag and the bits stored are those of the value
pub value_stored : (f j : ℕ) (x : Option ℤ) (has bits : ℕ) (r : Raw) → has ≡ flag_of x → bits ≡ bits_of x → value_kept f j (flag_of x) (bits_of x) r ≡ with_num j bits (with_num f has r)
unfolding value_kept
value_stored f j x has bits r e q = rw (e, q)

module _ (f j has bits : ℕ) (r : Raw) where
  pub value_is : value_kept f j has bits r ≡ with_num j bits (with_num f has r)
  unfolding value_kept
  value_is = refl

  pub value_ok_lem : has < 256 ^ get_or head_widths f 0 → bits < 256 ^ get_or head_widths j 0 → RawOk r → RawOk (value_kept f j has bits r)
  unfolding value_kept
  value_ok_lem h b ok = num_ok (with_num f has r) j bits (num_ok r f has ok h) b

module _ (k : Kept) (r : Raw) where
  pub delay_is : delay_kept k r ≡ value_kept prior_flag_f prior_f (flag_of k.prior) (bits_of k.prior) (value_kept flag_f value_f (flag_of k.value) (bits_of k.value) (with_num kept_f k.since r))
  unfolding delay_kept
  delay_is = refl

  pub signal_is : signal_kept k r ≡ value_kept prior_flag_f value_f (flag_of k.prev_b) (bits_of k.prev_b) (value_kept flag_f kept_f (flag_of k.prev) (bits_of k.prev) r)
  unfolding signal_kept
  signal_is = refl

  pub row_last : (a b : ℕ) → kept_row (last a b) k r ≡ value_kept flag_f kept_f (flag_of k.prev) (bits_of k.prev) r
  unfolding kept_row
  row_last a b = refl

  pub row_delay : (a b : ℕ) → kept_row (delay a b) k r ≡ delay_kept k r
  unfolding kept_row
  row_delay a b = refl

  pub row_signal : (c : Calc) (a b : ℕ) → kept_row (signal c a b) k r ≡ signal_kept k r
  unfolding kept_row
  row_signal c a b = refl

  -- an equation that keeps nothing
  pub row_none : (e : Eqn) → keeps e ≡ false → kept_row e k r ≡ r
  unfolding kept_row
  row_none input h = refl
  row_none nil h = refl
  row_none unit h = refl
  row_none (one f a) h = refl
  row_none (two g a b) h = refl
  row_none (last a b) h = absurd (false≢true (sym h))
  row_none (delay a b) h = absurd (false≢true (sym h))
  row_none (signal c a b) h = absurd (false≢true (sym h))
  row_none (window f n a) h = refl

-- ---- a cell's record with other kept data is the record of the cell with them

row_of : (k j : Kept) (w : Passed) (e : Eqn) (out : Bool) (y : ℕ) (es : List Event) (n z : ℕ) → kept_row e k (raw_of e out y es n (kept_nums e j w) z) ≡ raw_of e out y es n (kept_nums e k w) z
unfolding kept_row
row_of k j w input out y es n z = refl
row_of k j w nil out y es n z = refl
row_of k j w unit out y es n z = refl
row_of k j w (one f a) out y es n z = refl
row_of k j w (two g a b) out y es n z = refl
row_of k j w (last a b) out y es n z = refl
row_of k j w (delay a b) out y es n z = refl
row_of k j w (signal c a b) out y es n z = refl
row_of k j w (window f m a) out y es n z = refl

pub kept_cell : (k : Kept) (c : Cell) → kept_row c.eqn k (of_cell c) ≡ of_cell (with_kept k c)
unfolding of_cell
kept_cell k c = row_of k c.kept c.passed c.eqn c.out c.bound c.held c.next (counts_word c.passed)
