-- The answers of move on a state, case by case.
use Prim.Native.Nat.{ℕ, ◌<◌}
use mathlib.Core.Path.{◌≡◌, refl, sym, ap, ap₂, ◌∙◌}
use mathlib.Core.List.{List}
use mathlib.Core.Bool.{Bool, true, false, not, cond}
use native.Mathlib.Omega.{arith}
use lib.Dec.{ltb}
use lib.ListN.{length}
use borrow.Author.Tests.{ltb-true}
use Rattle.meaning.specs.Plan.{is_input}
use Rattle.machine.specs.State.{cell_at}
use Rattle.machine.specs.Step.{can_move, comes_in, move}
use Rattle.machine.specs.Calls.{moving, refused, done, arrivals, no_equation, move_one, call}
use Rattle.le.specs.Bytes.{Bytes}
use Rattle.operators.specs.Operators.{group_of, is_in}
use Rattle.layout.specs.Record.{Raw, Raws, num, encode, decode, row_at, op_f}
use Rattle.encoding.specs.View.{of_cell, raws_of, bytes_of}
use Rattle.roundtrip.specs.In.{state_in, IsState}
use Rattle.roundtrip.proofs.In.{streams, raws, stays}
use Rattle.moves.specs.Move.{can_raw, moved_raw}
use Rattle.refine.proofs.Whole.{row_of}
use Rattle.refine.proofs.Calls.{op_of}
use Rattle.calls.specs.Equation.{equation_raw}
use Rattle.calls.specs.Reply.{plain, reply_in}
use Rattle.calls.proofs.Turns as turns
use Rattle.calls.proofs.Replies.{reply_of_lem}

module _ (s : List ℕ) (b : Bytes s) (n : ℕ) (ok : IsState s n) where
  module _ (i : ℕ) where
    -- whether the stream is an equation, by the code
    equation_is : equation_raw n (decode n s) i ≡ not (no_equation i (state_in s))
    unfolding equation_raw
    equation_is =
        ap₂ (λ (m : ℕ) (st : Raws). cond (ltb i m) (not (is_in (group_of (num op_f (row_at st i))))) false) (streams s b n ok) (raws s b n ok)
        ∙ go (ltb i (length (state_in s))) refl
      where
        row : i < length (state_in s) → row_at (raws_of (length s) (state_in s)) i ≡ of_cell (cell_at (state_in s) i)
        row l = unfold raws_of in row_of (state_in s) i l

        go : (p : Bool) → ltb i (length (state_in s)) ≡ p
            → cond (ltb i (length (state_in s))) (not (is_in (group_of (num op_f (row_at (raws_of (length s) (state_in s)) i))))) false ≡ not (cond (ltb i (length (state_in s))) (is_input (cell_at (state_in s) i).eqn) true)
        go true q = rw q (ap not (ap (λ (r : Raw). is_in (group_of (num op_f r))) (row (ltb-true i (length (state_in s)) q)) ∙ op_of (cell_at (state_in s) i)))
        go false q = rw q

    module _ (r : Bool) (er : r ≡ equation_raw n (decode n s) i) where
      not_true_is : (p : Bool) → not p ≡ false → p ≡ true
      not_true_is true h = refl
      not_true_is false h = sym h

      pub move_11 : r ≡ false → plain 11 s ≡ reply_in (moving i) s
      move_11 h =
          let q : no_equation i (state_in s) ≡ true = not_true_is (no_equation i (state_in s)) (sym equation_is ∙ sym er ∙ h) in
          let o : call (moving i) (state_in s) ≡ refused 11 (state_in s) = refused_11 q in
          ap (plain 11) (stays s b n ok) ∙ sym (reply_of_lem (moving i) s (refused 11 (state_in s)) o)
        where
          refused_11 : no_equation i (state_in s) ≡ true → call (moving i) (state_in s) ≡ refused 11 (state_in s)
          refused_11 q = unfold call move_one in rw q

      module _ (t : r ≡ true) where
        is_equation_lem : no_equation i (state_in s) ≡ false
        is_equation_lem = flip (no_equation i (state_in s)) (sym equation_is ∙ sym er ∙ t)
          where
            flip : (p : Bool) → not p ≡ true → p ≡ false
            flip true q = sym q
            flip false q = refl

        pub move_there : i < n
        move_there = rw (streams s b n ok) (there (ltb i (length (state_in s))) refl is_equation_lem)
          where
            there : (p : Bool) → ltb i (length (state_in s)) ≡ p → cond p (is_input (cell_at (state_in s) i).eqn) true ≡ false → i < length (state_in s)
            there true q k = ltb-true i (length (state_in s)) q
            there false q k = let w : ◌≡◌ {A = ℕ} 1 0 = ap (λ (x : Bool). cond x 1 0) k in absurd (omega arith)

        module _ (m : Bool) (s' : List ℕ) (em : m ≡ can_raw n i (decode n s)) (es : s' ≡ cond (can_raw n i (decode n s)) (encode n (moved_raw n i (decode n s))) s) where
          can_is : can_raw n i (decode n s) ≡ can_move i (state_in s)
          can_is = turns.can_is s b n ok i move_there

          pub move_12 : m ≡ false → plain 12 s' ≡ reply_in (moving i) s
          move_12 k =
              let c : can_raw n i (decode n s) ≡ false = sym em ∙ k in
              let q : s' ≡ s = es ∙ rw c in
              let o : call (moving i) (state_in s) ≡ refused 12 (state_in s) = refused_12 (sym can_is ∙ c) in
              ap (plain 12) (q ∙ stays s b n ok) ∙ sym (reply_of_lem (moving i) s (refused 12 (state_in s)) o)
            where
              refused_12 : can_move i (state_in s) ≡ false → call (moving i) (state_in s) ≡ refused 12 (state_in s)
              refused_12 c = unfold call move_one in rw (is_equation_lem, c)

          pub move_done : m ≡ true → plain 0 s' ≡ reply_in (moving i) s
          move_done k =
              let c : can_raw n i (decode n s) ≡ true = sym em ∙ k in
              let d : can_move i (state_in s) ≡ true = sym can_is ∙ c in
              let q : s' ≡ bytes_of (length s) (move i (state_in s)) = es ∙ ap (λ (p : Bool). cond p (encode n (moved_raw n i (decode n s))) s) c ∙ turns.moved_bytes s b n ok i move_there d in
              let o : call (moving i) (state_in s) ≡ done (arrivals i (comes_in i (state_in s))) (move i (state_in s)) = moved d in
              ap (plain 0) q ∙ sym (reply_of_lem (moving i) s (done (arrivals i (comes_in i (state_in s))) (move i (state_in s))) o)
            where
              moved : can_move i (state_in s) ≡ true → call (moving i) (state_in s) ≡ done (arrivals i (comes_in i (state_in s))) (move i (state_in s))
              moved d = unfold call move_one in rw (is_equation_lem, d)
