-- The steps that a move makes on the whole buffer, one after the other.
use Prim.Native.Nat.{ℕ, zero, suc, ◌+◌, ◌-◌, ◌*◌, ◌^◌, ◌<◌, ◌≤◌, min}
use mathlib.Core.Path.{◌≡◌, refl, sym, ap, ◌∙◌}
use mathlib.Core.Bool.{Bool, true, false, cond}
use mathlib.Core.List.{List, [], ◌∷◌}
use native.Mathlib.Omega.{arith}
use lib.Dec.{leb, ltb, lit<}
use lib.ListN.{length, set}
use lib.Seq.{set-get_or}
use borrow.Author.Tests.{ltb-true}
use Rattle.meaning.specs.Plan.{Eqn}
use Rattle.meaning.specs.Events.{horizon}
use Rattle.machine.specs.State.{room, Kept}
use Rattle.machine.specs.Reach.{Next, event, silent}
use Rattle.machine.specs.Step.{absorb}
use Rattle.meaning.specs.Arguments.{reads, arg_a, arg_b}
use Rattle.le.specs.Bytes.{Bytes}
use Rattle.layout.specs.Record.{Slot, Raw, Raws, no_raw, num, with_num, dropped, encode, decode, row_at, change, change_all, count_f, bound_f}
use Rattle.layout.proofs.Laws.{RawOk, RawsOk, raws_ok, row_ok_lem, change_ok, change_all_ok, num_ok, num_small, whole_then, encode_decode}
use Rattle.layout.proofs.Slots.{shift_ok}
use Rattle.encoding.specs.Back.{held_of}
use Rattle.preserve.proofs.Values.{Holds}
use Rattle.streams.proofs.Laws.{keeps}
use Rattle.keeping.specs.Keep.{moved_cell, kept_row}
use Rattle.keeping.proofs.Laws.{row_none}
use Rattle.queue.specs.Queue.{pushed, below, released}
use Rattle.readers.specs.Step.{told_row, least_row, waiting_row, released_row}
use Rattle.queue.proofs.Drops.{push_ok}
use Rattle.readers.proofs.Leaves.{told_ok}
use Rattle.passing.specs.Pass.{arg_in, own_in, other_in}
use Rattle.making.specs.Make.{kept_raw, absorbed_raw, released_args, bound_raw, released_all, silent_raw, event_raw, step_raw}
use Rattle.making.proofs.Fits.{KeptFits, look_holds, look_kept, absorb_fits, kept_ok_lem}

-- ---- an equation that keeps nothing

absorb_none : (n i : ℕ) (e : Eqn) (k : Kept) (y : ℕ) (st : Raws) → keeps e ≡ false → absorbed_raw n i e k y st ≡ st
unfolding absorbed_raw
absorb_none n i e k y st h =
    ap (λ (l : List Raw). record { rows = l; spare = st.spare }) (ap (set st.rows i) (row_none (kept_raw n i e k y st) (row_at st i) e h) ∙ set-get_or st.rows i no_raw)

pub absorb_stays : (n i : ℕ) (e : Eqn) (k : Kept) (y : ℕ) (s : List ℕ) → n * 256 ≤ length s → Bytes s → keeps e ≡ false → s ≡ encode n (absorbed_raw n i e k y (decode n s))
absorb_stays n i e k y s l b h = sym (ap (encode n) (absorb_none n i e k y (decode n s) h) ∙ encode_decode n s l b)

-- ---- the records keep within their widths

below_le : (w n : ℕ) (l : List Slot) → below w n l ≤ n
unfolding below
below_le w zero l = omega arith
below_le w (suc n) [] = omega arith
below_le w (suc n) (e ∷ l) = go (ltb e.stamp w) (below_le w n l)
  where
    go : (b : Bool) → below w n l ≤ n → cond b (suc (below w n l)) 0 ≤ suc n
    go true h = omega arith
    go false h = omega arith

released_ok : (w : ℕ) (r : Raw) → RawOk r → RawOk (released w r)
unfolding released
released_ok w r ok =
    let k = below w (min (num count_f r) room) r.slots in
    let h = below_le w (min (num count_f r) room) r.slots in
    let c = num_small r count_f ok (lit< tt) in
    num_ok (dropped k (min (num count_f r) room) r) count_f (num count_f r - k) (shift_ok r k (min (num count_f r) room) ok (omega arith) (omega arith)) (omega arith)

pub arg_in_below : (n a : ℕ) → 0 < n → arg_in n a < n
arg_in_below n a h = go (ltb a n) refl
  where
    go : (b : Bool) → ltb a n ≡ b → cond b a 0 < n
    go true e = ltb-true a n e
    go false e = h

module _ (n : ℕ) (i : ℕ) (hi : i < n) where
  release_ok : (j : ℕ) → j < n → (st : Raws) → RawsOk n st → RawsOk n (released_row j st)
  unfolding released_row
  release_ok j hj st ok = change_ok n st j (released (waiting_row (least_row j st.rows) (row_at st j))) ok (released_ok (waiting_row (least_row j st.rows) (row_at st j)) (row_at st j) (row_ok_lem n st j ok hj))

  absorbed_ok : (e : Eqn) (k : Kept) (y : ℕ) → KeptFits k → y ≤ horizon → (st : Raws) → RawsOk n st → RawsOk n (absorbed_raw n i e k y st)
  unfolding absorbed_raw
  absorbed_ok e k y f h st ok =
      let r = row_at st i in
      let a = other_in n (arg_a e) st in
      let b = other_in n (arg_b e) st in
      let o = moved_cell y (held_of r) k in
      let holds : (x : ℕ) → Holds (other_in n x st) = λ x. look_holds (row_at st (arg_in n x)) (row_ok_lem n st (arg_in n x) ok (arg_in_below n x (omega arith))) in
      change_ok n st i (kept_row e (absorb e o a b)) ok (kept_ok_lem e (absorb e o a b) r (absorb_fits e o a b h f (holds (arg_a e)) (holds (arg_b e))) (row_ok_lem n st i ok hi))

  bound_ok : (y : ℕ) → y ≤ horizon → (st : Raws) → RawsOk n st → RawsOk n (change i (with_num bound_f y) st)
  bound_ok y h st ok = change_ok n st i (with_num bound_f y) ok (num_ok (row_at st i) bound_f y (row_ok_lem n st i ok hi) (omega arith))

  -- ---- let go: nothing, one argument, two

  module _ (s : List ℕ) (b : Bytes s) where
    pub args_one : (a j : ℕ) (s₁ : List ℕ) → j ≡ arg_in n a → s₁ ≡ encode n (released_row j (decode n s)) → s₁ ≡ encode n (released_args n (a ∷ []) (decode n s))
    unfolding released_args
    args_one a j s₁ q e = e ∙ ap (λ (x : ℕ). encode n (released_row x (decode n s))) q

    pub args_two : (a c : ℕ) (s₁ s₂ : List ℕ) → s₁ ≡ encode n (released_args n (a ∷ []) (decode n s)) → s₂ ≡ encode n (released_args n (c ∷ []) (decode n s₁))
        → s₂ ≡ encode n (released_args n (a ∷ c ∷ []) (decode n s))
    unfolding released_args
    args_two a c s₁ s₂ e₁ e₂ =
        whole_then n s s₁ s₂ (released_row (arg_in n a)) (released_row (arg_in n c)) e₁
        (release_ok (arg_in n a) (arg_in_below n a (omega arith)) (decode n s) (raws_ok n s b)) e₂

    pub args_none : n * 256 ≤ length s → s ≡ encode n (released_args n [] (decode n s))
    unfolding released_args
    args_none h = sym (encode_decode n s h b)

    pub all_is : (e : Eqn) (s₁ s₂ : List ℕ) → s₁ ≡ encode n (released_row i (decode n s)) → s₂ ≡ encode n (released_args n (reads e) (decode n s₁)) → s₂ ≡ encode n (released_all n i e (decode n s))
    unfolding released_all
    all_is e s₁ s₂ e₁ e₂ = whole_then n s s₁ s₂ (released_row i) (released_args n (reads e)) e₁ (release_ok i hi (decode n s) (raws_ok n s b)) e₂

    -- what stream i kept, as it was looked at, fits
    fits : (k : Kept) → k ≡ (own_in i (decode n s)).kept → KeptFits k
    fits k q = rw q (look_kept (row_at (decode n s) i) (row_ok_lem n (decode n s) i (raws_ok n s b) hi))

    -- ---- the two kinds of move

    pub silent_is : (e : Eqn) (k : Kept) → k ≡ (own_in i (decode n s)).kept → (y : ℕ) (s₁ s₂ s₃ : List ℕ) → y ≤ horizon → s₁ ≡ encode n (change i (with_num bound_f y) (decode n s))
        → s₂ ≡ encode n (absorbed_raw n i e k y (decode n s₁)) → s₃ ≡ encode n (released_all n i e (decode n s₂)) → s₃ ≡ encode n (silent_raw n i e k y (decode n s))
    unfolding silent_raw
    silent_is e k q y s₁ s₂ s₃ h e₁ e₂ e₃ =
        let ok₁ = bound_ok y h (decode n s) (raws_ok n s b) in
        let p = whole_then n s s₁ s₂ (change i (with_num bound_f y)) (absorbed_raw n i e k y) e₁ ok₁ e₂ in
        whole_then n s s₂ s₃ (λ st. absorbed_raw n i e k y (change i (with_num bound_f y) st)) (released_all n i e) p (absorbed_ok e k y (fits k q) h (change i (with_num bound_f y) (decode n s)) ok₁) e₃

    pub event_is : (e : Eqn) (k : Kept) → k ≡ (own_in i (decode n s)).kept → (t v : ℕ) (s₁ s₂ s₃ s₄ : List ℕ) → t < 2 ^ 32 → v < 2 ^ 64 → s₁ ≡ encode n (change i (pushed t v) (decode n s))
        → s₂ ≡ encode n (absorbed_raw n i e k (t + 1) (decode n s₁)) → s₃ ≡ encode n (change_all (told_row i t v) (decode n s₂)) → s₄ ≡ encode n (released_all n i e (decode n s₃))
        → s₄ ≡ encode n (event_raw n i e k t v (decode n s))
    unfolding event_raw
    event_is e k q t v s₁ s₂ s₃ s₄ ht hv e₁ e₂ e₃ e₄ =
        let st = decode n s in
        let ok₁ = change_ok n st i (pushed t v) (raws_ok n s b) (push_ok v hv t ht (row_at st i) (row_ok_lem n st i (raws_ok n s b) hi)) in
        let ok₂ = absorbed_ok e k (t + 1) (fits k q) (omega arith) (change i (pushed t v) st) ok₁ in
        let ok₃ = change_all_ok n (absorbed_raw n i e k (t + 1) (change i (pushed t v) st)) (told_row i t v) ok₂ (told_ok v hv i t ht) in
        let p₂ = whole_then n s s₁ s₂ (change i (pushed t v)) (absorbed_raw n i e k (t + 1)) e₁ ok₁ e₂ in
        let p₃ = whole_then n s s₂ s₃ (λ x. absorbed_raw n i e k (t + 1) (change i (pushed t v) x)) (change_all (told_row i t v)) p₂ ok₂ e₃ in
        whole_then n s s₃ s₄ (λ x. change_all (told_row i t v) (absorbed_raw n i e k (t + 1) (change i (pushed t v) x))) (released_all n i e) p₃ ok₃ e₄

-- ---- a full stream only shifts its bound

pub step_full : (n i : ℕ) (e : Eqn) (k : Kept) (x : Next) (held : ℕ) (st : Raws) → leb room held ≡ true → silent_raw n i e k (bound_raw x held) st ≡ step_raw n i e k x held st
step_full n i e k (silent r) held st h = refl
step_full n i e k (event t v) held st h = rw h
