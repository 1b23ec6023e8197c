-- The flags after a write: what sets them, what clears them, and that the other bits stay.
use Prim.Native.Nat.{ℕ, zero, suc, ◌<◌, ◌≤◌}
use mathlib.Core.Path.{◌≡◌, refl, sym, ap, ◌∙◌, subst}
use mathlib.Core.Bool.{Bool, true, false, not, cond, ◌&&◌, ◌||◌, false≢true}
use mathlib.Core.List.{List}
use native.Mathlib.Omega.{arith}
use lib.Dec.{eqb}
use lib.ListN.{length, set, length-set}
use lib.Seq.{get_or-set_same, get_or-set_other}
use borrow.Author.Tests.{ne_eqb}
use Rattle.block.specs.Block.{block_length, command_at, flags_at, flags_in, filled, bit, cleared, raised, ended}
use Rattle.block.proofs.Bits.{raised_zero, raised_one, raised_others, cleared_zero, cleared_one, cleared_others}
use Rattle.block.proofs.Places.{ended_flags, filled_length, filled_flags}
use Rattle.calls.specs.Reply.{Reply, reply}
use Rattle.registers.specs.Write.{Written, call_in, answered, waiting, commanded, refused, stored, write, starts}
use Rattle.registers.specs.Laws.{Waits, Flags}
use Rattle.registers.proofs.Outputs.{waiting_is}
use Rattle.registers.proofs.Ways.{Way, was_command, was_refused, was_flags, was_stored, way}

-- ---- the block behind a command's answer

pub answered_length : (x : ℕ) (r : Reply) (b : List ℕ) → length (answered x r b) ≡ length b
unfolding answered
answered_length x r b = go (eqb x 2 && eqb r.number 0)
  where
    go : (p : Bool) → length (cond p (filled r.stamp r.value b) b) ≡ length b
    go true = filled_length r.stamp r.value b
    go false = refl

answered_flags : (x : ℕ) (r : Reply) (b : List ℕ) → flags_in (answered x r b) ≡ flags_in b
unfolding answered
answered_flags x r b = go (eqb x 2 && eqb r.number 0)
  where
    go : (p : Bool) → flags_in (cond p (filled r.stamp r.value b) b) ≡ flags_in b
    go true = filled_flags r.stamp r.value b
    go false = refl

-- ---- the flags of each way

module _ (b : List ℕ) (l : length b ≡ block_length) where
  pub command_flags : (s : List ℕ) (x : ℕ) → (let r = reply (call_in b x) s in flags_in (commanded s b x).block ≡ raised (flags_in b) r.number (waiting r.buffer))
  unfolding commanded
  command_flags s x =
      let r = reply (call_in b x) s in
      let a = answered x r b in
      ended_flags r.number (waiting r.buffer) (set a command_at x) (length-set a command_at x ∙ answered_length x r b ∙ l)
      ∙ ap (λ (f : ℕ). raised f r.number (waiting r.buffer)) (get_or-set_other a command_at flags_at x 0 (λ e. omega arith) ∙ answered_flags x r b)

  pub refused_flags : flags_in (ended 17 false b) ≡ raised (flags_in b) 17 false
  refused_flags = ended_flags 17 false b l

  clear_flags : (v : ℕ) → flags_in (set b flags_at v) ≡ v
  clear_flags v = get_or-set_same b flags_at v 0 (omega arith)

  store_flags : (at v : ℕ) → (flags_at ≡ at → ⊥) → flags_in (set b at v) ≡ flags_in b
  store_flags at v d = get_or-set_other b at flags_at v 0 d

-- ---- what is known of flags that were raised, cleared, or left

or_true : (p q : Bool) → q ≡ true → (p || q) ≡ true
or_true true q e = refl
or_true false q e = e

or_right : (p q : Bool) → p ≡ false → (p || q) ≡ true → q ≡ true
or_right true q e h = absurd (false≢true (sym e))
or_right false q e h = h

or_keeps : {A : Type 0} (p q : Bool) → p ≡ true → (p || q) ≡ false → A
or_keeps true q e h = absurd (false≢true (sym h))
or_keeps false q e h = absurd (false≢true e)

and_left : {A : Type 0} (p q : Bool) → p ≡ false → (p && q) ≡ true → A
and_left true q e h = absurd (false≢true (sym e))
and_left false q e h = absurd (false≢true h)

and_off : (p q : Bool) → q ≡ true → (p && not q) ≡ false
and_off true true e = refl
and_off true false e = sym e
and_off false q e = refl

and_cleared : (p q : Bool) → p ≡ true → (p && not q) ≡ false → q ≡ true
and_cleared true true e h = refl
and_cleared true false e h = absurd (false≢true (sym h))
and_cleared false q e h = absurd (false≢true e)

not_zero : (k : ℕ) → (k ≡ 0 → ⊥) → not (eqb k 0) ≡ true
not_zero k d = ap not (ne_eqb k 0 d)

is_nonzero : (k : ℕ) → not (eqb k 0) ≡ true → k ≡ 0 → ⊥
is_nonzero k h e = false≢true (ap (λ (y : ℕ). not (eqb y 0)) (sym e) ∙ h)

differ : {A : Type 0} (p q : Bool) → p ≡ q → p ≡ false → q ≡ true → A
differ p q e f t = absurd (false≢true (sym f ∙ e ∙ t))

-- a command or a refused write
module _ (b : List ℕ) (at x : ℕ) (w : Written) (wt : Bool) (g : flags_in w.block ≡ raised (flags_in b) w.number wt)
    (put : starts b at x ≡ true → Waits w.state → wt ≡ true) (back : wt ≡ true → (starts b at x ≡ true) × Waits w.state) (other : at ≡ flags_at → ⊥) where
  zero_is : bit 0 (flags_in w.block) ≡ (bit 0 (flags_in b) || not (eqb w.number 0))
  zero_is = ap (bit 0) g ∙ raised_zero (flags_in b) w.number wt

  one_is : bit 1 (flags_in w.block) ≡ (bit 1 (flags_in b) || wt)
  one_is = ap (bit 1) g ∙ raised_one (flags_in b) w.number wt

  others_are : (i : ℕ) → 2 ≤ i → bit i (flags_in w.block) ≡ bit i (flags_in b)
  others_are i h = ap (bit i) g ∙ raised_others (flags_in b) w.number wt i h

  keeps : (i : ℕ) → bit i (flags_in b) ≡ true → bit i (flags_in w.block) ≡ false → (at ≡ flags_at) × (bit i x ≡ true)
  keeps zero e h = or_keeps (bit 0 (flags_in b)) (not (eqb w.number 0)) e (sym zero_is ∙ h)
  keeps (suc zero) e h = or_keeps (bit 1 (flags_in b)) wt e (sym one_is ∙ h)
  keeps (suc (suc i)) e h = differ (bit (suc (suc i)) (flags_in w.block)) (bit (suc (suc i)) (flags_in b)) (others_are (suc (suc i)) (omega arith)) h e

  raises : Flags b at x w
  raises = record {
    failed = λ d. zero_is ∙ or_true (bit 0 (flags_in b)) (not (eqb w.number 0)) (not_zero w.number d);
    waits = λ q h. one_is ∙ or_true (bit 1 (flags_in b)) wt (put q h);
    failed_only = λ e h. is_nonzero w.number (or_right (bit 0 (flags_in b)) (not (eqb w.number 0)) e (sym zero_is ∙ h));
    waits_only = λ e h. back (or_right (bit 1 (flags_in b)) wt e (sym one_is ∙ h));
    clears = λ q. absurd (other q);
    clears_only = keeps;
    others = others_are;
  }

-- the flags that have a 1 are cleared
module _ (b : List ℕ) (at x : ℕ) (w : Written) (g : flags_in w.block ≡ cleared (flags_in b) x) (k : w.number ≡ 0) (off : starts b at x ≡ false) (here : at ≡ flags_at) where
  c_zero : bit 0 (flags_in w.block) ≡ (bit 0 (flags_in b) && not (bit 0 x))
  c_zero = ap (bit 0) g ∙ cleared_zero (flags_in b) x

  c_one : bit 1 (flags_in w.block) ≡ (bit 1 (flags_in b) && not (bit 1 x))
  c_one = ap (bit 1) g ∙ cleared_one (flags_in b) x

  c_others : (i : ℕ) → 2 ≤ i → bit i (flags_in w.block) ≡ bit i (flags_in b)
  c_others i h = ap (bit i) g ∙ cleared_others (flags_in b) x i h

  gone : (i : ℕ) → i < 2 → bit i x ≡ true → bit i (flags_in w.block) ≡ false
  gone zero h e = c_zero ∙ and_off (bit 0 (flags_in b)) (bit 0 x) e
  gone (suc zero) h e = c_one ∙ and_off (bit 1 (flags_in b)) (bit 1 x) e
  gone (suc (suc i)) h e = absurd (omega arith)

  only : (i : ℕ) → bit i (flags_in b) ≡ true → bit i (flags_in w.block) ≡ false → (at ≡ flags_at) × (bit i x ≡ true)
  only zero e h = (here, and_cleared (bit 0 (flags_in b)) (bit 0 x) e (sym c_zero ∙ h))
  only (suc zero) e h = (here, and_cleared (bit 1 (flags_in b)) (bit 1 x) e (sym c_one ∙ h))
  only (suc (suc i)) e h = differ (bit (suc (suc i)) (flags_in w.block)) (bit (suc (suc i)) (flags_in b)) (c_others (suc (suc i)) (omega arith)) h e

  clears_some : Flags b at x w
  clears_some = record {
    failed = λ d. absurd (d k);
    waits = λ q h. absurd (false≢true (sym off ∙ q));
    failed_only = λ e h. and_left (bit 0 (flags_in b)) (not (bit 0 x)) e (sym c_zero ∙ h);
    waits_only = λ e h. and_left (bit 1 (flags_in b)) (not (bit 1 x)) e (sym c_one ∙ h);
    clears = λ q. gone;
    clears_only = only;
    others = c_others;
  }

-- the flags are left
module _ (b : List ℕ) (at x : ℕ) (w : Written) (g : flags_in w.block ≡ flags_in b) (k : w.number ≡ 0) (off : starts b at x ≡ false) (other : flags_at ≡ at → ⊥) where
  left_as : {A : Type 0} (i : ℕ) → bit i (flags_in b) ≡ false → bit i (flags_in w.block) ≡ true → A
  left_as i e h = differ (bit i (flags_in b)) (bit i (flags_in w.block)) (ap (bit i) (sym g)) e h

  leaves : Flags b at x w
  leaves = record {
    failed = λ d. absurd (d k);
    waits = λ q h. absurd (false≢true (sym off ∙ q));
    failed_only = λ e h. left_as 0 e h;
    waits_only = λ e h. left_as 1 e h;
    clears = λ q. absurd (other (sym q));
    clears_only = λ i e h. differ (bit i (flags_in w.block)) (bit i (flags_in b)) (ap (bit i) g) h e;
    others = λ i h. ap (bit i) g;
  }

pub flags_hold : (s b : List ℕ) (at x : ℕ) → length b ≡ block_length → Flags b at x (write s b at x)
flags_hold s b at x l = go (way s b at x l)
  where
    go : Way s b at x → Flags b at x (write s b at x)
    go (was_command q d e) =
        let r = reply (call_in b x) s in
        subst (Flags b at x) (sym e)
        (raises b at x (commanded s b x) (waiting r.buffer) (unfold commanded in command_flags b l s x) (λ h g. unfold commanded in (waiting_is r.buffer).1 g) (λ h. (q, unfold commanded in (waiting_is r.buffer).0 h)) d)
    go (was_refused q d e) =
        subst (Flags b at x) (sym e)
        (raises b at x (refused s b) false (refused_flags b l) (λ h g. absurd (false≢true (sym q ∙ h))) (λ h. absurd (false≢true h)) d)
    go (was_flags q d e) =
        subst (Flags b at x) (sym e)
        (clears_some b at x (stored s (set b flags_at (cleared (flags_in b) x))) (clear_flags b l (cleared (flags_in b) x)) refl q d)
    go (was_stored q d e) = subst (Flags b at x) (sym e) (leaves b at x (stored s (set b at x)) (store_flags b l at x d) refl q d)
