-- The calls that commands start, and what their answers put into the block.
use Prim.Native.Nat.{ℕ, ◌<◌, ◌≤◌}
use mathlib.Core.Path.{◌≡◌, refl, sym, ap, ◌∙◌, subst}
use mathlib.Core.Bool.{Bool, true, false, cond, ◌&&◌}
use mathlib.Core.List.{List}
use native.Mathlib.Omega.{arith}
use lib.Dec.{eqb, leb}
use lib.IntN.{ℤ}
use lib.ListN.{set}
use borrow.Author.Tests.{eq-eqb, ne_eqb, le-leb, leb-true}
use mir.Syntax.{w64}
use mir.Val.{SFits}
use Rattle.le.specs.Bytes.{Bytes}
use Rattle.machine.specs.State.{State}
use Rattle.machine.specs.Calls.{Call, reading, running, collecting, Outcome, call}
use Rattle.block.specs.Block.{stream_in, stamp_in, value_in, command_at, filled, ended}
use Rattle.encoding.specs.Sound.{IsValue}
use Rattle.valid.specs.Valid.{valid}
use Rattle.roundtrip.specs.In.{state_in, IsState}
use Rattle.calls.specs.Reply.{Reply, reply_in, reply}
use Rattle.calls.proofs.Replies.{Ended, was_refused, was_done, call_ended}
use Rattle.calls.proofs.Answers.{reply_state, reply_none, collect_is_value}
use Rattle.registers.specs.Write.{is_command, call_in, answered, waiting, commanded}
use Rattle.registers.proofs.Outputs.{waiting_none}

-- ---- every number fits a byte

call_small : (c : Call) (M : State) → (call c M).number < 15
call_small c M = go (call c M) (call_ended c M)
  where
    go : (o : Outcome) → Ended M o → o.number < 15
    go o (was_refused k z e) = let q = ap (λ (x : Outcome). x.number) e in let l = z.1 in omega arith
    go o (was_done e) = omega arith

pub state_small : (c : Call) (s : List ℕ) (k : ℕ) → k ≡ (reply_in c s).number → k < 15
unfolding reply_in
state_small c s k e = let h = call_small c (state_in s) in omega arith

pub reply_small : (c : Call) (s : List ℕ) → (reply c s).number ≤ 15
reply_small c s = go (valid s) refl
  where
    go : (p : Bool) → valid s ≡ p → (reply c s).number ≤ 15
    go true v = let h = state_small c s (reply c s).number (ap (λ (y : Reply). y.number) (reply_state c s v)) in omega arith
    go false v = let h = ap (λ (y : Reply). y.number) (reply_none c s v) in omega arith

-- what a collect on a state hands out is a value
pub value_fits : (s : List ℕ) → Bytes s → (n : ℕ) → IsState s n → (i : ℕ) (v : ℤ) → v ≡ (reply_in (collecting i) s).value → SFits w64 v
value_fits s b n ok i v e =
    let r = ap (λ (y : Reply). y.value) (reply_state (collecting i) s ok.is_valid) in
    record { sfits = subst IsValue (r ∙ sym e) (collect_is_value s b i) }

-- ---- which bytes are commands

pub is_command_lem : (x : ℕ) → 1 ≤ x → x ≤ 3 → is_command x ≡ true
is_command_lem x l h = rw (le-leb 1 x l, le-leb x 3 h)

pub no_command : (x : ℕ) → (1 ≤ x → x ≤ 3 → ⊥) → is_command x ≡ false
no_command x h = go (leb 1 x) (leb x 3) refl refl
  where
    go : (p q : Bool) → leb 1 x ≡ p → leb x 3 ≡ q → (p && q) ≡ false
    go false q e f = refl
    go true false e f = refl
    go true true e f = absurd (h (leb-true 1 x e) (leb-true x 3 f))

-- ---- the three calls

module _ (b : List ℕ) (x : ℕ) where
  pub call_1 : x ≡ 1 → call_in b x ≡ reading (stream_in b) (stamp_in b) (value_in b)
  unfolding call_in
  call_1 e = rw (eq-eqb x 1 e)

  pub call_2 : x ≡ 2 → call_in b x ≡ collecting (stream_in b)
  unfolding call_in
  call_2 e = rw (ne_eqb x 1 (λ q. omega arith), eq-eqb x 2 e)

  pub call_3 : (x ≡ 1 → ⊥) → (x ≡ 2 → ⊥) → call_in b x ≡ running 64
  unfolding call_in
  call_3 d e = rw (ne_eqb x 1 d, ne_eqb x 2 e)

  pub answered_other : (r : Reply) → (x ≡ 2 → ⊥) → answered x r b ≡ b
  unfolding answered
  answered_other r d = rw (ne_eqb x 2 d)

  pub answered_refused : (r : Reply) → (r.number ≡ 0 → ⊥) → answered x r b ≡ b
  unfolding answered
  answered_refused r d = rw (ne_eqb r.number 0 d) (go (eqb x 2))
    where
      go : (p : Bool) → cond (p && false) (filled r.stamp r.value b) b ≡ b
      go true = refl
      go false = refl

  pub answered_done : (r : Reply) → x ≡ 2 → r.number ≡ 0 → answered x r b ≡ filled r.stamp r.value b
  unfolding answered
  answered_done r e d = rw (eq-eqb x 2 e, eq-eqb r.number 0 d)

-- ---- a command on bytes: tested, performed, ended

module _ (s b : List ℕ) (x : ℕ) where
  -- what a command returns and leaves
  abbrev pub Answers : ℕ → List ℕ → List ℕ → Type 0
  Answers k b' s' = let w = commanded s b x in (k ≡ w.number) × ((b' ≡ w.block) × (s' ≡ w.state))

  pub command_state : (n : ℕ) → IsState s n → (k : ℕ) (b₁ b₂ s' : List ℕ) (w : Bool) → k ≡ (reply_in (call_in b x) s).number → s' ≡ (reply_in (call_in b x) s).buffer
      → b₁ ≡ answered x (reply_in (call_in b x) s) b → w ≡ waiting s' → b₂ ≡ ended k w (set b₁ command_at x) → Answers k b₂ s'
  unfolding commanded
  command_state n ok k b₁ b₂ s' w ek es e₁ ew e₂ =
      let r = reply_state (call_in b x) s ok.is_valid in
      let ek' = ek ∙ sym (ap (λ (y : Reply). y.number) r) in
      let es' = es ∙ sym (ap (λ (y : Reply). y.buffer) r) in
      let e₁' = e₁ ∙ sym (ap (λ (y : Reply). answered x y b) r) in
      (ek', (e₂ ∙ (λ y. ended (ek' y) ((ew ∙ ap waiting es') y) (set (e₁' y) command_at x)), es'))

  pub command_none : (b₂ : List ℕ) → valid s ≡ false → b₂ ≡ ended 15 false (set b command_at x) → Answers 15 b₂ s
  unfolding commanded
  command_none b₂ v e₂ =
      let r = reply_none (call_in b x) s v in
      let a : answered x (reply (call_in b x) s) b ≡ b = answered_refused b x (reply (call_in b x) s) (λ q. let z = sym (ap (λ (y : Reply). y.number) r) ∙ q in omega arith) in
      let ek = sym (ap (λ (y : Reply). y.number) r) in
      let es = sym (ap (λ (y : Reply). y.buffer) r) in
      let ew : false ≡ waiting (reply (call_in b x) s).buffer = sym (waiting_none s v) ∙ ap waiting es in
      (ek, (e₂ ∙ (λ y. ended (ek y) (ew y) (set (sym a y) command_at x)), es))
