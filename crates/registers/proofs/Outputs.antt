-- Whether an output waits: what the definition says, and as the code asks it.
use Prim.Native.Nat.{ℕ, ◌+◌, ◌<◌, ◌≤◌}
use mathlib.Core.Path.{◌≡◌, refl, sym, ap, ◌∙◌}
use mathlib.Core.Logic.{◌↔◌}
use mathlib.Core.Bool.{Bool, true, false}
use mathlib.Core.List.{List}
use native.Mathlib.Omega.{arith}
use lib.Dec.{eqb}
use lib.ListN.{length}
use borrow.Author.Tests.{eqb-true, eqb-false, eq-eqb}
use Rattle.meaning.proofs.Firing.{any_hit, any_put}
use Rattle.meaning.proofs.Tests.{is_true, true_is}
use Rattle.machine.specs.Calls.{collecting, collect, call}
use Rattle.operators.specs.Limits.{most_streams}
use Rattle.operators.proofs.Sizes.{capacity_few}
use Rattle.le.specs.Bytes.{Bytes}
use Rattle.layout.specs.Record.{decode}
use Rattle.valid.specs.Valid.{count, valid}
use Rattle.valid.proofs.Link.{count_few}
use Rattle.roundtrip.specs.In.{state_in, IsState}
use Rattle.encoding.proofs.Cells.{state_length_lem}
use Rattle.offers.specs.Numbers.{collect_raw}
use Rattle.calls.specs.Reply.{Reply, reply_in, reply}
use Rattle.calls.proofs.Replies.{collect_stream, collect_k}
use Rattle.calls.proofs.Answers.{reply_state, reply_none}
use Rattle.registers.specs.Write.{waiting}
use Rattle.registers.specs.Laws.{Waits}

-- the number of a collect on a state is the machine's
collect_on : (s : List ℕ) (i : ℕ) → valid s ≡ true → (reply (collecting i) s).number ≡ (collect i (state_in s)).number
collect_on s i v = ap (λ (y : Reply). y.number) (reply_state (collecting i) s v) ∙ (unfold reply_in call in refl)

-- a collect that would be done is of one of the streams
done_below : (s : List ℕ) (i : ℕ) → (reply (collecting i) s).number ≡ 0 → i < count s
done_below s i e = go (valid s) refl
  where
    go : (p : Bool) → valid s ≡ p → i < count s
    go true v =
        let l = collect_stream i (state_in s) (sym (collect_on s i v) ∙ e) in
        let k = state_length_lem (count s) s in
        omega arith
    go false v = let z = sym (ap (λ (y : Reply). y.number) (reply_none (collecting i) s v)) ∙ e in absurd (omega arith)

-- which stands in the definition
done_few : (s : List ℕ) (i : ℕ) → (reply (collecting i) s).number ≡ 0 → i < most_streams
done_few s i e = omega (arith, done_below s i e, count_few s, capacity_few (length s))

pub waiting_is : (s : List ℕ) → (waiting s ≡ true) ↔ Waits s
unfolding waiting
waiting_is s = (found, put)
  where
    found : waiting s ≡ true → Waits s
    found h =
        let f = any_hit most_streams (λ i. eqb (reply (collecting i) s).number 0) (is_true _ h) in
        (f.0, eqb-true (reply (collecting f.0) s).number 0 (true_is _ f.2))

    put : Waits s → waiting s ≡ true
    put w = true_is _ (any_put most_streams (λ i. eqb (reply (collecting i) s).number 0) w.0 (done_few s w.0 w.1) (is_true _ (eq-eqb (reply (collecting w.0) s).number 0 w.1)))

-- nothing waits in bytes that are no state
pub waiting_none : (s : List ℕ) → valid s ≡ false → waiting s ≡ false
waiting_none s v = go (waiting s) refl
  where
    go : (p : Bool) → waiting s ≡ p → waiting s ≡ false
    go false e = e
    go true e =
        let w = (waiting_is s).0 e in
        let z = sym (ap (λ (y : Reply). y.number) (reply_none (collecting w.0) s v)) ∙ w.1 in
        absurd (omega arith)

-- none of the streams below i waits
abbrev pub NoneBelow : List ℕ → ℕ → Type 0
NoneBelow s i = (j : ℕ) → j < i → (reply (collecting j) s).number ≡ 0 → ⊥

module _ (s : List ℕ) (b : Bytes s) (n : ℕ) (ok : IsState s n) where
  -- the number that the code finds is that of a collect
  number_is : (i k : ℕ) → k ≡ collect_raw n (decode n s) i → k ≡ (reply (collecting i) s).number
  number_is i k q = collect_k s b n ok i k q ∙ sym (collect_on s i ok.is_valid)

  pub waits_found : (i k : ℕ) → k ≡ collect_raw n (decode n s) i → k ≡ 0 → true ≡ waiting s
  waits_found i k q z = sym ((waiting_is s).1 (i, sym (number_is i k q) ∙ z))

  pub waits_next : (i k : ℕ) → k ≡ collect_raw n (decode n s) i → (k ≡ 0 → ⊥) → NoneBelow s i → NoneBelow s (i + 1)
  waits_next i k q z h j l e = go (eqb j i) refl
    where
      go : (p : Bool) → eqb j i ≡ p → ⊥
      go true p = let m = eqb-true j i p in z (number_is i k q ∙ ap (λ (y : ℕ). (reply (collecting y) s).number) (sym m) ∙ e)
      go false p = h j (omega (arith, eqb-false j i p)) e

  pub waits_none : (i : ℕ) → n ≤ i → NoneBelow s i → false ≡ waiting s
  waits_none i l h = go (waiting s) refl
    where
      go : (p : Bool) → waiting s ≡ p → false ≡ waiting s
      go false e = sym e
      go true e =
          let w = (waiting_is s).0 e in
          let k = ok.streams in
          absurd (h w.0 (omega (arith, done_below s w.0 w.1)) w.1)
