-- An event appended, the slots below a stamp, and what is left when they are dropped.
use Prim.Native.Nat.{ℕ, zero, suc, ◌+◌, ◌-◌, ◌^◌, ◌<◌, ◌≤◌, min}
use mathlib.Core.Path.{◌≡◌, refl, sym, ap, ap₂, ◌∙◌}
use mathlib.Core.List.{List, [], ◌∷◌}
use mathlib.Core.Bool.{Bool, true, false, cond}
use native.Mathlib.Omega.{arith}
use native.Mathlib.Nat.{sub-zero}
use lib.Dec.{ltb}
use lib.ListN.{length, get_or, drop, take-append-drop}
use lib.Seq.{drop-cons, set-get_or}
use borrow.Author.Tests.{lt-ltb, le-ltb, ltb-true}
use Rattle.machine.specs.State.{room}
use Rattle.layout.specs.Record.{Slot, Raw, no_slot, num, with_num, with_slot, dropped, count_f, bound_f}
use Rattle.layout.proofs.Laws.{RawOk}
use Rattle.layout.proofs.Slots.{slot_ok}
use Rattle.layout.proofs.Stores.{stored_ok}
use Rattle.queue.specs.Queue.{pushed, below, shed, released}

-- ---- an event appended

module _ (t v : ℕ) (r : Raw) where
  pub push_full : room ≤ num count_f r → pushed t v r ≡ r
  unfolding pushed
  push_full h = simp (le-ltb (num count_f r) room h)

  -- n is the count read before the stores
  pub push_is : (n : ℕ) → n ≡ num count_f r → n < room → pushed t v r ≡ with_num bound_f (t + 1) (with_num count_f (n + 1) (with_slot n t v r))
  unfolding pushed
  push_is n e h =
      let k : num count_f r < room = rw (sym e) h in
      rw (e, lt-ltb (num count_f r) room k)

pub push_ok : (v : ℕ) → v < 2 ^ 64 → (t : ℕ) → t < 2 ^ 32 → (r : Raw) → RawOk r → RawOk (pushed t v r)
unfolding pushed
push_ok v hv t ht r ok = go (ltb (num count_f r) room) refl
  where
    full : Raw
    full = with_num bound_f (t + 1) (with_num count_f (num count_f r + 1) (with_slot (num count_f r) t v r))

    go : (b : Bool) → ltb (num count_f r) room ≡ b → RawOk (cond b full r)
    go false e = ok
    go true e =
        let h : num count_f r < room = ltb-true (num count_f r) room e in
        stored_ok bound_f count_f (t + 1) (num count_f r + 1) (with_slot (num count_f r) t v r) (omega arith) (omega arith)
        (slot_ok r (num count_f r) (record { stamp = t; value = v }) ok (omega arith, omega (arith, hv)))

-- ---- the leading slots below w

below_more : (w n : ℕ) (e : Slot) (l : List Slot) → below w (suc n) (e ∷ l) ≡ cond (ltb e.stamp w) (suc (below w n l)) 0
unfolding below
below_more w n e l = refl

pub below_none : (w : ℕ) (l : List Slot) → below w 0 l ≡ 0
unfolding below
below_none w l = refl

below_turn : (w n i : ℕ) (l : List Slot) → i < n → n ≤ length l
    → below w (n - i) (drop i l) ≡ cond (ltb (get_or l i no_slot).stamp w) (suc (below w (n - (i + 1)) (drop (i + 1) l))) 0
below_turn w n i l h k =
    let e : n - i ≡ suc (n - (i + 1)) = omega arith in
    let f : i + 1 ≡ suc i = omega arith in
    ap₂ (below w) e (drop-cons l i no_slot (omega arith)) ∙ below_more w (n - (i + 1)) (get_or l i no_slot) (drop (suc i) l)
    ∙ ap (λ (j : ℕ). cond (ltb (get_or l i no_slot).stamp w) (suc (below w (n - (i + 1)) (drop j l))) 0) (sym f)

module _ (w n i : ℕ) (l : List Slot) (h : i < n) (k : n ≤ length l) (inv : i + below w (n - i) (drop i l) ≡ below w n l) where
  pub below_stop : w ≤ (get_or l i no_slot).stamp → i ≡ below w n l
  below_stop q =
      let z : below w (n - i) (drop i l) ≡ 0 = below_turn w n i l h k ∙ rw (le-ltb (get_or l i no_slot).stamp w q) in
      omega arith

  pub below_go : (get_or l i no_slot).stamp < w → (i + 1) + below w (n - (i + 1)) (drop (i + 1) l) ≡ below w n l
  below_go q =
      let z : below w (n - i) (drop i l) ≡ suc (below w (n - (i + 1)) (drop (i + 1) l)) = below_turn w n i l h k ∙ rw (lt-ltb (get_or l i no_slot).stamp w q) in
      omega arith

pub below_end : (w n i : ℕ) (l : List Slot) → i ≡ n → i + below w (n - i) (drop i l) ≡ below w n l → n ≡ below w n l
below_end w n i l e inv =
    let d : n - i ≡ 0 = omega arith in
    let z : below w (n - i) (drop i l) ≡ 0 = ap (λ (j : ℕ). below w j (drop i l)) d ∙ below_none w (drop i l) in
    omega arith

-- n and m are the count and the held read before the stores
pub shed_is : (k n m : ℕ) (r : Raw) → n ≡ num count_f r → m ≡ min (num count_f r) room → shed k r ≡ with_num count_f (n - k) (dropped k m r)
shed_is k n m r e h = rw (h, e)

pub release_is : (w m k : ℕ) (r : Raw) → m ≡ min (num count_f r) room → k ≡ below w m r.slots → released w r ≡ shed k r
unfolding released
release_is w m k r h q = rw (q, h)

pub release_none : (w m : ℕ) (r : Raw) → m ≡ min (num count_f r) room → 0 ≡ below w m r.slots → released w r ≡ r
release_none w m r h q =
    release_is w m 0 r h q ∙ shed_is 0 (num count_f r) m r refl h
    ∙ ap₂ (λ (l : List ℕ) (k : List Slot). record { nums = l; slots = k }) (rw sub-zero (set-get_or r.nums count_f 0)) (take-append-drop m r.slots)

-- none below a stamp that is not above the first
pub below_first : (w n : ℕ) (l : List Slot) → w ≤ (get_or l 0 no_slot).stamp → below w n l ≡ 0
unfolding below
below_first w zero l h = refl
below_first w (suc n) [] h = refl
below_first w (suc n) (e ∷ l) h = rw (le-ltb e.stamp w h)
