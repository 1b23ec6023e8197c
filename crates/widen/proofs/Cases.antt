-- The cases of widening: another length, no state, done; and what a refusal leaves.
use Prim.Native.Nat.{ℕ}
use mathlib.Core.Path.{◌≡◌, refl, sym, ap, ◌∙◌}
use mathlib.Core.Bool.{Bool, true, false, ◌&&◌}
use mathlib.Core.Logic.{◌⊎◌, inl, inr}
use mathlib.Core.List.{List}
use native.Mathlib.Omega.{arith}
use lib.Dec.{eqb}
use lib.ListN.{length}
use borrow.Author.Tests.{eqb-true, eq-eqb, ne_eqb}
use Rattle.operators.specs.Limits.{state_length, long_length}
use Rattle.encoding.specs.View.{bytes_of}
use Rattle.valid.specs.Valid.{valid}
use Rattle.roundtrip.specs.In.{state_in}
use Rattle.widen.specs.Widen.{WidenReply, can_widen, widen_reply}

-- a refusal
abbrev pub refused : List ℕ → WidenReply
refused t = record { number = 15; buffer = t }

module _ (s t : List ℕ) where
  pub another_source : (length s ≡ state_length → ⊥) → widen_reply s t ≡ refused t
  unfolding widen_reply
  another_source n = rw (ne_eqb (length s) state_length n)

  pub another_target : length s ≡ state_length → (length t ≡ long_length → ⊥) → widen_reply s t ≡ refused t
  unfolding widen_reply
  another_target e n = rw (eq-eqb (length s) state_length e, ne_eqb (length t) long_length n)

  pub no_state : length s ≡ state_length → length t ≡ long_length → valid s ≡ false → widen_reply s t ≡ refused t
  unfolding widen_reply
  no_state e f v = rw (eq-eqb (length s) state_length e, eq-eqb (length t) long_length f, v)

  pub done : length s ≡ state_length → length t ≡ long_length → valid s ≡ true → widen_reply s t ≡ record { number = 0; buffer = bytes_of long_length (state_in s) }
  unfolding widen_reply
  done e f v = rw (eq-eqb (length s) state_length e, eq-eqb (length t) long_length f, v)

  -- what a done widening says of its buffers
  pub record Done : Type 0 where
    pub source : length s ≡ state_length
    pub target : length t ≡ long_length
    pub is_state : valid s ≡ true
    pub buffer : (widen_reply s t).buffer ≡ bytes_of long_length (state_in s)

  by_test : (b : Bool) → can_widen s t ≡ b → ((b ≡ false) × (widen_reply s t ≡ refused t)) ⊎ Done
  unfolding widen_reply
  by_test true e = inr (go (eqb (length s) state_length) (eqb (length t) long_length) (valid s) refl refl refl e)
    where
      go : (a b c : Bool) → eqb (length s) state_length ≡ a → eqb (length t) long_length ≡ b → valid s ≡ c → (a && (b && c)) ≡ true → Done
      go true true true x y z q = record { source = eqb-true (length s) state_length x; target = eqb-true (length t) long_length y; is_state = z; buffer = rw e }
      go true true false x y z q = let w : ◌≡◌ {A = ℕ} 0 1 = cc in absurd (omega arith)
      go true false c x y z q = let w : ◌≡◌ {A = ℕ} 0 1 = cc in absurd (omega arith)
      go false b c x y z q = let w : ◌≡◌ {A = ℕ} 0 1 = cc in absurd (omega arith)
  by_test false e = inl (refl, rw e)

  -- "the target is as it came"
  pub widen_refused : ((widen_reply s t).number ≡ 0 → ⊥) → widen_reply s t ≡ refused t
  widen_refused z = go (by_test (can_widen s t) refl)
    where
      go : ((can_widen s t ≡ false) × (widen_reply s t ≡ refused t)) ⊎ Done → widen_reply s t ≡ refused t
      go (inl r) = r.1
      go (inr d) = absurd (z (ap (λ (r : WidenReply). r.number) (done d.source d.target d.is_state)))

  pub widen_done : (widen_reply s t).number ≡ 0 → Done
  widen_done e = go (by_test (can_widen s t) refl)
    where
      go : ((can_widen s t ≡ false) × (widen_reply s t ≡ refused t)) ⊎ Done → Done
      go (inl r) = let q : ◌≡◌ {A = ℕ} 15 0 = sym (ap (λ (r : WidenReply). r.number) r.1) ∙ e in absurd (omega arith)
      go (inr d) = d
