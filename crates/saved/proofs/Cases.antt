-- The cases of a file of n bytes: a state of the shorter length, one of the longer, too long for both.
use Prim.Native.Nat.{ℕ, max, ◌≤◌, ◌<◌}
use mathlib.Core.Path.{◌≡◌, refl, sym, ap, ◌∙◌}
use mathlib.Core.Bool.{Bool, true, false, cond}
use Rattle.std.specs.Prelude.{None, Some, is_some}
use Rattle.std.proofs.Common.{Option}
use mathlib.Core.List.{List}
use native.Mathlib.Omega.{arith}
use lib.ListN.{length, take}
use lib.Seq.{length-take-le}
use borrow.Author.Tests.{le-leb, lt-leb}
use Rattle.io.specs.Counts.{IsPrefixLen}
use Rattle.operators.specs.Limits.{state_length, long_length}
use Rattle.valid.specs.Valid.{count, valid, tested}
use Rattle.saved.specs.Saved.{is_short, length_of}

module _ (n : ℕ) (s : List ℕ) where
  pub too_long : state_length < n → is_short n s ≡ false
  unfolding is_short
  too_long h = rw (lt-leb n state_length h)

  pub by_state : n ≤ state_length → (b : Bool) → valid (take state_length s) ≡ b → is_short n s ≡ b
  unfolding is_short
  by_state h b e = rw (le-leb n state_length h, e)

  -- what the test answers is whether it is one
  pub by_test : n ≤ state_length → (r : Option ℕ) → r ≡ tested (take state_length s) → is_some r ≡ is_short n s
  unfolding tested
  by_test h r e = ap is_some e ∙ go (valid (take state_length s)) refl
    where
      go : (b : Bool) → valid (take state_length s) ≡ b → is_some (cond (valid (take state_length s)) (Some (count (take state_length s))) None) ≡ is_short n s
      go true v = rw v (sym (by_state h true v))
      go false v = rw v (sym (by_state h false v))

  pub as_short : is_short n s ≡ true → length_of n s ≡ state_length
  unfolding length_of
  as_short e = rw e

  pub as_long : is_short n s ≡ false → length_of n s ≡ max n long_length
  unfolding length_of
  as_long e = rw e

  -- the bytes lie in the room
  pub inside : n ≤ length s → long_length ≤ length s → IsPrefixLen (length_of n s) s
  inside h l = (within, sym (length-take-le (length_of n s) s within))
    where
      go : (b : Bool) → is_short n s ≡ b → length_of n s ≤ length s
      go true e = rw (as_short e) (omega arith)
      go false e = rw (as_long e) (omega arith)

      within : length_of n s ≤ length s
      within = go (is_short n s) refl

  -- an answer with both promises
  pub answered : (r : ℕ) → r ≡ length_of n s → n ≤ length s → long_length ≤ length s → (r ≡ length_of n s) × IsPrefixLen r s
  answered r e h l = (e, rw e (inside h l))
