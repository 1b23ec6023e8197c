-- The cases of the call that reads the counts: no such stream, a stream of a state, bytes that are no state; and what a refusal
-- leaves.
use Prim.Native.Nat.{ℕ, ◌*◌, ◌/◌, ◌%◌, ◌^◌, ◌<◌, ◌≤◌}
use mathlib.Core.Path.{◌≡◌, refl, sym, ap, ◌∙◌}
use mathlib.Core.Bool.{Bool, true, false, cond}
use lib.Dec.{ltb}
use mathlib.Core.List.{List}
use native.Mathlib.Omega.{arith}
use lib.ListN.{length}
use borrow.Author.Tests.{lt-ltb, le-ltb}
use Rattle.meaning.specs.Missing.{Outside, ZeroDivisor}
use Rattle.machine.specs.State.{State, cell_at}
use Rattle.machine.specs.Calls.{Missing, no_counts, missing}
use Rattle.le.specs.Bytes.{part}
use Rattle.layout.specs.Record.{Raw, dec_raw, num, counts_f}
use Rattle.layout.proofs.Laws.{record_row}
use Rattle.encoding.specs.Back.{state_of}
use Rattle.encoding.proofs.Cells.{state_length_lem, state_counts}
use Rattle.valid.specs.Valid.{count, valid}
use Rattle.roundtrip.specs.In.{state_in, IsState}
use Rattle.counts.specs.Missing.{missing_reply}

-- ---- on a state

module _ (s : List ℕ) (n : ℕ) (h : IsState s n) (i : ℕ) where
  pub missing_none : n ≤ i → missing i (state_in s) ≡ no_counts 11
  unfolding missing
  missing_none l = let m = state_length_lem (count s) s in let e = h.streams in rw (m, le-ltb i (count s) (omega arith))

  -- record i lies in p
  pub missing_there : i < n → (p : List ℕ) → p ≡ part s (i * 256) 256
      → missing i (state_in s) ≡ record { number = 0; outside = num counts_f (dec_raw p) % 2 ^ 32; divisors = num counts_f (dec_raw p) / 2 ^ 32 }
  unfolding missing
  missing_there l p e =
      let m = state_length_lem (count s) s in
      let k = h.streams in
      let j : i < count s = omega arith in
      let r = record_row (count s) s p i j e in
      let u : (cell_at (state_of (count s) s) i).passed.outside ≡ num counts_f (dec_raw p) % 2 ^ 32 = state_counts (count s) s i j Outside ∙ ap (λ (x : Raw). num counts_f x % 2 ^ 32) (sym r) in
      let v : (cell_at (state_of (count s) s) i).passed.divisors ≡ num counts_f (dec_raw p) / 2 ^ 32 = state_counts (count s) s i j ZeroDivisor ∙ ap (λ (x : Raw). num counts_f x / 2 ^ 32) (sym r) in
      rw (m, lt-ltb i (count s) j, u, v)

-- ---- on any bytes

pub reply_state : (i : ℕ) (s : List ℕ) → valid s ≡ true → missing_reply i s ≡ missing i (state_in s)
unfolding missing_reply
reply_state i s e = rw e

pub reply_none : (i : ℕ) (s : List ℕ) → valid s ≡ false → missing_reply i s ≡ no_counts 15
unfolding missing_reply
reply_none i s e = rw e

-- of a refusal both counts are 0
refused_in : (i : ℕ) (M : State) → ((missing i M).number ≡ 0 → ⊥) → missing i M ≡ no_counts (missing i M).number
unfolding missing
refused_in i M z = go (ltb i (length M)) z
  where
    answer : Bool → Missing
    answer b = cond b (record { number = 0; outside = (cell_at M i).passed.outside; divisors = (cell_at M i).passed.divisors }) (no_counts 11)

    go : (b : Bool) → ((answer b).number ≡ 0 → ⊥) → answer b ≡ no_counts (answer b).number
    go true z = absurd (z refl)
    go false z = refl

pub missing_refused : (i : ℕ) (s : List ℕ) → ((missing_reply i s).number ≡ 0 → ⊥) → missing_reply i s ≡ no_counts (missing_reply i s).number
missing_refused i s = go (valid s) refl
  where
    go : (b : Bool) → valid s ≡ b → ((missing_reply i s).number ≡ 0 → ⊥) → missing_reply i s ≡ no_counts (missing_reply i s).number
    go true v = rw (reply_state i s v) (refused_in i (state_in s))
    go false v = rw (reply_none i s v) (λ z. refl)
