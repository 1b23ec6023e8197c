-- Collect on raw records is the machine's.
use Prim.Native.Nat.{ℕ, zero, suc, ◌+◌, ◌<◌, ◌≤◌, min}
use mathlib.Core.Path.{◌≡◌, refl, sym, ap, ◌∙◌}
use mathlib.Core.List.{List, [], ◌∷◌, map}
use mathlib.Core.Bool.{Bool, true, false, not, cond}
use Rattle.std.specs.Prelude.{None, Some}
use native.Mathlib.Omega.{arith}
use native.Mathlib.Numerals.{add-one}
use lib.Dec.{ltb, eqb}
use lib.ListN.{length, get_or, set, length-set}
use lib.Seq.{get_or-set_same}
use borrow.Author.Tests.{lt-ltb, le-ltb, le-leb, lt-leb, ltb-true, ltb-false}
use Rattle.meaning.specs.Events.{Event}
use Rattle.machine.specs.State.{Cell, State, absent, cell_at, room, with_next}
use Rattle.machine.specs.Step.{release}
use Rattle.machine.specs.Calls.{Outcome, unless, oldest, hand_out, collect}
use Rattle.layout.specs.Record.{Slot, Raw, no_slot, num, with_num, slot_at, row_at, out_f, count_f, next_f}
use Rattle.encoding.specs.View.{flag, slot_of, pad_to, of_cell, raws_of}
use Rattle.queue.specs.Queue.{below}
use Rattle.readers.specs.Step.{released_row}
use Rattle.offers.specs.Numbers.{waiting_slot, collect_row, collect_raw, collected_raw}
use Rattle.refine.proofs.Queues.{next_of}
use Rattle.refine.proofs.Whole.{row_of, change_of, release_row_of}
use Rattle.refine.proofs.Calls.{absent_at}

abbrev slots : ℕ → List Event → List Slot
slots n es = pad_to n no_slot (map slot_of es)

-- how many held events are collected already
abbrev gone : ℕ → ℕ → List Event → ℕ
gone w n es = below w (length es) (slots n es)

-- the oldest waiting event: none, or the one in the first slot that is not collected
pub data Waiting (w n : ℕ) (es : List Event) : Type 0 where
  nothing : oldest w es ≡ None → gone w n es ≡ length es → Waiting w n es
  waits : (e : Event) → oldest w es ≡ Some e → gone w n es < length es → get_or (slots n es) (gone w n es) no_slot ≡ slot_of e → Waiting w n es

gone_cons : (w n : ℕ) (e : Event) (es : List Event) → gone w (suc n) (e ∷ es) ≡ cond (ltb e.stamp w) (suc (gone w n es)) 0
unfolding below pad_to
gone_cons w n e es = refl

slots_cons : (n : ℕ) (e : Event) (es : List Event) → slots (suc n) (e ∷ es) ≡ slot_of e ∷ slots n es
unfolding pad_to
slots_cons n e es = refl

pub waiting_is : (w n : ℕ) (es : List Event) → length es ≤ n → Waiting w n es
waiting_is w n [] h = nothing refl (unfold below in refl)
waiting_is w zero (e ∷ es) h = absurd (omega arith)
waiting_is w (suc n) (e ∷ es) h = go (ltb e.stamp w) refl (waiting_is w n es (omega arith))
  where
    go : (b : Bool) → ltb e.stamp w ≡ b → Waiting w n es → Waiting w (suc n) (e ∷ es)
    go false q r =
        let l = le-leb w e.stamp (ltb-false e.stamp w q) in
        let g : gone w (suc n) (e ∷ es) ≡ 0 = gone_cons w n e es ∙ rw q in
        waits e (rw l) (rw g (omega arith)) (rw (g, slots_cons n e es))
    go true q (nothing o g) =
        let l = lt-leb w e.stamp (ltb-true e.stamp w q) in
        nothing (rw l o) (gone_cons w n e es ∙ rw q (ap suc g))
    go true q (waits x o g s) =
        let l = lt-leb w e.stamp (ltb-true e.stamp w q) in
        let k : gone w (suc n) (e ∷ es) ≡ suc (gone w n es) = gone_cons w n e es ∙ rw q in
        waits x (rw l o) (rw k (omega arith)) (rw (k, slots_cons n e es) s)

out_in : (c : Cell) → eqb (num out_f (of_cell c)) 0 ≡ not c.out
unfolding of_cell
out_in c = go c.out
  where
    go : (o : Bool) → eqb (flag o) 0 ≡ not o
    go true = refl
    go false = refl

pub slot_in : (c : Cell) → length c.held ≤ room → waiting_slot (of_cell c) ≡ gone c.next room c.held
unfolding waiting_slot of_cell
slot_in c h =
    let m : min (length c.held) room ≡ length c.held = omega arith in
    rw m

held_in : (c : Cell) → length c.held ≤ room → min (num count_f (of_cell c)) room ≡ length c.held
unfolding of_cell
held_in c h = omega arith

row_number : (c : Cell) (i : ℕ) (M : State) → length c.held ≤ room → collect_row (of_cell c) ≡ cond (not c.out) 13 (hand_out (oldest c.next c.held) i M).number
unfolding collect_row
row_number c i M h = rw (out_in c, slot_in c h, held_in c h) (ap (cond (not c.out) 13) (go (waiting_is c.next room c.held h)))
  where
    go : Waiting c.next room c.held → cond (ltb (gone c.next room c.held) (length c.held)) 0 14 ≡ (hand_out (oldest c.next c.held) i M).number
    go (nothing o g) = rw (o, g, le-ltb (length c.held) (length c.held) (omega arith))
    go (waits e o g s) = rw (o, lt-ltb (gone c.next room c.held) (length c.held) g)

cond_unless : (b : Bool) (n : ℕ) (M : State) (o : Outcome) → (unless b n M o).number ≡ cond b n o.number
cond_unless true n M o = refl
cond_unless false n M o = refl

module _ (size : ℕ) (M : State) (i : ℕ) where
  pub collect_number : ((j : ℕ) → j < length M → length (cell_at M j).held ≤ room) → collect_raw (length M) (raws_of size M) i ≡ (collect i M).number
  unfolding collect_raw collect
  collect_number few = go (ltb i (length M)) refl
    where
      c : Cell
      c = cell_at M i

      out : Outcome
      out = hand_out (oldest c.next c.held) i M

      row : i < length M → row_at (raws_of size M) i ≡ of_cell c
      row h = unfold raws_of in row_of M i h

      go : (b : Bool) → ltb i (length M) ≡ b → cond (ltb i (length M)) (collect_row (row_at (raws_of size M) i)) 13 ≡ (unless (not c.out) 13 M out).number
      go true e =
          let h = ltb-true i (length M) e in
          rw e (ap collect_row (row h) ∙ row_number c i M (few i h) ∙ sym (cond_unless (not c.out) 13 M out))
      go false e = rw e (sym (cond_unless (not c.out) 13 M out ∙ ap (λ (d : Cell). cond (not d.out) 13 (hand_out (oldest d.next d.held) i M).number) (absent_at M i (ltb-false i (length M) e))))

  -- the event e in slot j collected
  pub collect_of : (j : ℕ) (e : Event) → i < length M → length (cell_at M i).held ≤ room → slot_at j (of_cell (cell_at M i)) ≡ slot_of e
      → collected_raw i j (raws_of size M) ≡ raws_of size (release i (set M i (with_next (suc e.stamp) (cell_at M i))))
  unfolding collected_raw
  collect_of j e h k s =
      let c = cell_at M i in
      let c' = with_next (suc e.stamp) c in
      let g : Raw → Raw = λ r. with_num next_f ((slot_at j r).stamp + 1) r in
      let p : g (of_cell c) ≡ of_cell c' = ap (λ (x : Slot). with_num next_f (x.stamp + 1) (of_cell c)) s ∙ ap (λ (n : ℕ). with_num next_f n (of_cell c)) (add-one e.stamp) ∙ next_of (suc e.stamp) c in
      ap (released_row i) (change_of size M i g c' h p refl refl)
      ∙ release_row_of size (set M i c') i (rw (length-set M i c') h) (rw (get_or-set_same M i c' absent h) k)
