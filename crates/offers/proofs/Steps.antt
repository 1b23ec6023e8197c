-- The steps of collect one after the other.
use Rattle.machine.specs.State.{room}
use Prim.Native.Nat.{ℕ, ◌+◌, ◌<◌}
use mathlib.Core.Path.{◌≡◌}
use mathlib.Core.List.{List}
use native.Mathlib.Omega.{arith}
use Rattle.le.specs.Bytes.{Bytes}
use Rattle.le.proofs.RoundTrip.{all_at}
use Rattle.layout.specs.Record.{Raw, no_slot, with_num, slot_at, encode, decode, row_at, change, next_f}
use Rattle.layout.proofs.Laws.{RawOk, SlotOk, raws_ok, row_ok_lem, change_ok, num_ok, whole_then}
use Rattle.readers.specs.Step.{released_row}
use Rattle.offers.specs.Numbers.{collected_raw}

marked_ok : (j : ℕ) → j < room → (r : Raw) → RawOk r → RawOk (with_num next_f ((slot_at j r).stamp + 1) r)
marked_ok j h r ok =
    let s : SlotOk (slot_at j r) = all_at SlotOk r.slots j no_slot ok.good (rw ok.many h) in
    num_ok r next_f ((slot_at j r).stamp + 1) ok (omega (arith, s.0))

pub collect_is : (n : ℕ) (s s₁ s₂ : List ℕ) (i j : ℕ) → Bytes s → i < n → j < room
    → s₁ ≡ encode n (change i (λ r. with_num next_f ((slot_at j r).stamp + 1) r) (decode n s)) → s₂ ≡ encode n (released_row i (decode n s₁))
    → s₂ ≡ encode n (collected_raw i j (decode n s))
unfolding collected_raw
collect_is n s s₁ s₂ i j b hi hj e₁ e₂ =
    let g : Raw → Raw = λ r. with_num next_f ((slot_at j r).stamp + 1) r in
    let ok₀ = raws_ok n s b in
    let ok₁ = change_ok n (decode n s) i g ok₀ (marked_ok j hj (row_at (decode n s) i) (row_ok_lem n (decode n s) i ok₀ hi)) in
    whole_then n s s₁ s₂ (change i g) (released_row i) e₁ ok₁ e₂
