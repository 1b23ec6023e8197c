-- What is brought up to date keeps within the widths of the record's fields.
use Prim.Native.Nat.{ℕ, zero, suc, pred, ◌^◌, ◌<◌, ◌≤◌, min}
use mathlib.Core.Bool.{Bool, true, false, cond}
use Rattle.std.specs.Prelude.{Option, None, Some}
use mathlib.Core.List.{List, [], ◌∷◌, map}
use native.Mathlib.Omega.{arith}
use lib.Dec.{eqb, lit<}
use lib.IntN.{ℤ}
use lib.ListN.{take}
use mir.Syntax.{w64}
use mir.Val.{to_z}
use mir.Facts.{sfits_to_z}
use Rattle.meaning.specs.Plan.{Eqn, input, nil, unit, one, two, last, delay, signal, window}
use Rattle.meaning.specs.Events.{found, horizon}
use Rattle.machine.specs.State.{Cell, Kept, room, no_kept}
use Rattle.machine.specs.Reach.{view, value_at}
use Rattle.machine.specs.Step.{later, absorb}
use Rattle.machine.proofs.Window.{past_le}
use Rattle.le.proofs.RoundTrip.{All}
use Rattle.operators.specs.Operators.{group_of, is_last, is_delay, is_signal}
use Rattle.layout.specs.Record.{Slot, Raw, num, with_num, op_f, count_f, flag_f, prior_flag_f, kept_f, value_f, prior_f}
use Rattle.layout.proofs.Laws.{RawOk, SlotOk, num_small, num_ok}
use Rattle.encoding.specs.View.{flag_of, bits_of}
use Rattle.encoding.specs.Back.{optional, event_of, held_of, last_of, delay_of, signal_of, kept_of, to_cell}
use Rattle.encoding.specs.Sound.{IsValue, IsOptional}
use Rattle.encoding.proofs.Widths.{bits_below}
use Rattle.preserve.proofs.Values.{or_value, cond_value, held_latest_lem, Holds}
use Rattle.streams.specs.Look.{look_of}
use Rattle.keeping.proofs.Laws.{value_ok_lem}
use Rattle.keeping.specs.Keep.{value_kept, delay_kept, signal_kept, kept_row}

-- ---- values read from a record

bits_value : (u : ℕ) → u < 2 ^ 64 → IsValue (to_z w64 u)
bits_value u h = (sfits_to_z {w = w64} {n = u} (record { fits = h })).sfits

optional_value : (h u : ℕ) → u < 2 ^ 64 → IsOptional (optional h u)
optional_value h u l = cond_value (eqb h 0) None (Some (to_z w64 u)) tt (bits_value u l)

slots_value : (c : ℕ) (l : List Slot) → All SlotOk l → (t : ℕ) → IsOptional (found (map event_of (take c l)) t)
slots_value zero l h t = tt
slots_value (suc c) [] h t = tt
slots_value (suc c) (e ∷ l) h t =
    cond_value (eqb e.stamp t) (Some (to_z w64 e.value)) (found (map event_of (take c l)) t) (bits_value e.value h.0.1) (slots_value c l h.1 t)

pub look_holds : (r : Raw) → RawOk r → Holds (look_of r)
unfolding look_of to_cell held_of
look_holds r ok = slots_value (min (num count_f r) room) r.slots ok.good

-- what may be stored as kept data
pub record KeptFits (k : Kept) : Type 0 where
  pub prev : IsOptional k.prev
  pub prev_b : IsOptional k.prev_b
  pub since : k.since ≤ horizon
  pub value : IsOptional k.value
  pub prior : IsOptional k.prior

kept_of_lem : (r : Raw) → RawOk r → IsOptional (kept_of r).prev × IsOptional (kept_of r).prev_b × IsOptional (kept_of r).value × IsOptional (kept_of r).prior
unfolding kept_of
kept_of_lem r ok = go (is_last (group_of (num op_f r))) (is_delay (group_of (num op_f r))) (is_signal (group_of (num op_f r)))
  where
    -- a value that number f flags and word j holds
    value : (f j : ℕ) → num j r < 2 ^ 64 → IsOptional (optional (num f r) (num j r))
    value f j h = optional_value (num f r) (num j r) h

    go : (x y z : Bool)
        → (let k = cond x (last_of r) (cond y (delay_of r) (cond z (signal_of r) no_kept)) in
        IsOptional k.prev × IsOptional k.prev_b × IsOptional k.value × IsOptional k.prior)
    go true y z = (value flag_f kept_f (num_small r kept_f ok (lit< tt)), tt, tt, tt)
    go false true z = (tt, tt, value flag_f value_f (num_small r value_f ok (lit< tt)), value prior_flag_f prior_f (num_small r prior_f ok (lit< tt)))
    go false false true = (value flag_f kept_f (num_small r kept_f ok (lit< tt)), value prior_flag_f value_f (num_small r value_f ok (lit< tt)), tt, tt)
    go false false false = (tt, tt, tt, tt)

pub look_kept : (r : Raw) → RawOk r → KeptFits (look_of r).kept
unfolding look_of to_cell
look_kept r ok = let k = kept_of_lem r ok in record { prev = k.0; prev_b = k.1; since = omega arith; value = k.2; prior = k.3 }

pub absorb_fits : (e : Eqn) (o a b : Cell) → o.bound ≤ horizon → KeptFits o.kept → Holds a → Holds b → KeptFits (absorb e o a b)
absorb_fits input o a b h k ha hb = k
absorb_fits nil o a b h k ha hb = k
absorb_fits unit o a b h k ha hb = k
absorb_fits (one f _) o a b h k ha hb = k
absorb_fits (two g _ _) o a b h k ha hb = k
absorb_fits (window f n _) o a b h k ha hb = k
absorb_fits (last _ _) o a b h k ha hb =
    record { prev = held_latest_lem a o.bound o.kept.prev ha k.prev; prev_b = k.prev_b; since = k.since; value = k.value; prior = k.prior }
absorb_fits (delay _ _) o a b h k ha hb =
    let s = k.since in
    let p = past_le (view b) o.bound in
    let q = past_le (view o) o.bound in
    record {
      prev = k.prev;
      prev_b = k.prev_b;
      since = omega arith;
      value = cond_value (eqb (later o b) 0) None (value_at o a (later o b)) tt
          (or_value (view a (pred (later o b))) (cond (eqb (later o b) o.kept.since) o.kept.value None) (ha (pred (later o b))) (cond_value (eqb (later o b) o.kept.since) o.kept.value None k.value tt));
      prior = ha (pred o.bound);
    }
absorb_fits (signal c _ _) o a b h k ha hb =
    record {
      prev = held_latest_lem a o.bound o.kept.prev ha k.prev;
      prev_b = held_latest_lem b o.bound o.kept.prev_b hb k.prev_b;
      since = k.since;
      value = k.value;
      prior = k.prior;
    }

-- ---- stored

flag_below : (o : Option ℤ) → flag_of o < 256
flag_below None = lit< tt
flag_below (Some v) = lit< tt

bits_small : (o : Option ℤ) → IsOptional o → bits_of o < 2 ^ 64
bits_small None h = lit< tt
bits_small (Some v) h = bits_below v h

pub kept_ok_lem : (e : Eqn) (k : Kept) (r : Raw) → KeptFits k → RawOk r → RawOk (kept_row e k r)
unfolding kept_row delay_kept signal_kept
kept_ok_lem input k r f ok = ok
kept_ok_lem nil k r f ok = ok
kept_ok_lem unit k r f ok = ok
kept_ok_lem (one g _) k r f ok = ok
kept_ok_lem (two g _ _) k r f ok = ok
kept_ok_lem (window h n _) k r f ok = ok
kept_ok_lem (last _ _) k r f ok = value_ok_lem flag_f kept_f (flag_of k.prev) (bits_of k.prev) r (flag_below k.prev) (bits_small k.prev f.prev) ok
kept_ok_lem (delay _ _) k r f ok =
    let s = f.since in
    let r₁ = with_num kept_f k.since r in
    let r₂ = value_kept flag_f value_f (flag_of k.value) (bits_of k.value) r₁ in
    value_ok_lem prior_flag_f prior_f (flag_of k.prior) (bits_of k.prior) r₂ (flag_below k.prior) (bits_small k.prior f.prior)
    (value_ok_lem flag_f value_f (flag_of k.value) (bits_of k.value) r₁ (flag_below k.value) (bits_small k.value f.value) (num_ok r kept_f k.since ok (omega arith)))
kept_ok_lem (signal c _ _) k r f ok =
    value_ok_lem prior_flag_f value_f (flag_of k.prev_b) (bits_of k.prev_b) (value_kept flag_f kept_f (flag_of k.prev) (bits_of k.prev) r) (flag_below k.prev_b) (bits_small k.prev_b f.prev_b)
    (value_ok_lem flag_f kept_f (flag_of k.prev) (bits_of k.prev) r (flag_below k.prev) (bits_small k.prev f.prev) ok)
