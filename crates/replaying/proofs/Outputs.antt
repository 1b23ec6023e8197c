-- The search for the next output, and that only an output hands out an event.
use Prim.Native.Nat.{ℕ, ◌+◌, ◌*◌, ◌-◌, ◌<◌, ◌≤◌}
use mathlib.Core.Path.{◌≡◌, refl, sym, ap, ◌∙◌, subst}
use mathlib.Core.Logic.{◌⊎◌, inl, inr}
use mathlib.Core.Bool.{Bool, true, false, not}
use mathlib.Core.List.{List}
use native.Mathlib.Omega.{arith}
use native.Mathlib.Decide.{ℕ_discrete}
use lib.Dec.{T, T_not, eqb}
use Rattle.le.specs.Bytes.{Bytes, part}
use Rattle.machine.specs.State.{State, cell_at}
use Rattle.machine.specs.Calls.{collecting, unless, oldest, hand_out, collect, call}
use Rattle.machine.proofs.Search.{least_ge, least_before, least_is}
use Rattle.machine.proofs.Frame.{output_there}
use Rattle.layout.specs.Record.{Raw, Raws, num, out_f, dec_raw, row_at}
use Rattle.layout.proofs.Laws.{row_at_lem}
use Rattle.encoding.specs.View.{flag, of_cell, raws_of}
use Rattle.valid.specs.Valid.{count, valid}
use Rattle.roundtrip.specs.In.{state_in}
use Rattle.encoding.proofs.Cells.{state_length_lem}
use Rattle.roundtrip.proofs.Whole.{decoded}
use Rattle.refine.proofs.Whole.{row_of}
use Rattle.calls.specs.Reply.{reply}
use Rattle.calls.proofs.Answers.{reply_outcome, reply_none}
use Rattle.replaying.specs.Replay.{is_output, next_output}
use Rattle.replaying.proofs.Bytes.{Fine}

-- ## The search

pub next_ge : (n from : ℕ) (s : List ℕ) → from ≤ next_output n from s
unfolding next_output
next_ge n from s = least_ge (is_output s) from (n - from)

-- no stream before it is one
pub next_before : (n from : ℕ) (s : List ℕ) (i : ℕ) → from ≤ i → i < next_output n from s → T (not (is_output s i))
unfolding next_output
next_before n from s i h l = least_before (is_output s) from (n - from) i h l

-- these properties determine it
pub next_is : (n from : ℕ) (s : List ℕ) (i : ℕ) → from ≤ i → i ≤ from + (n - from) → ((j : ℕ) → from ≤ j → j < i → T (not (is_output s j))) → (i ≡ from + (n - from)) ⊎ T (is_output s i) → i ≡ next_output n from s
unfolding next_output
next_is n from s i h k before hit = sym (least_is (is_output s) from (n - from) i h k before hit)

pub passed : (s : List ℕ) (from i : ℕ) → ((j : ℕ) → from ≤ j → j < i → T (not (is_output s j))) → is_output s i ≡ false → (j : ℕ) → from ≤ j → j < i + 1 → T (not (is_output s j))
passed s from i before e j h k = go (ℕ_discrete j i)
  where
    go : Dec (j ≡ i) → T (not (is_output s j))
    go (yes q) = rw (q, e) tt
    go (no d) = before j h (omega arith)

-- ## In bytes that are a state the byte `out` says what the plan says

flag_out : (b : Bool) → not (eqb (flag b) 0) ≡ b
flag_out true = refl
flag_out false = refl

pub out_is : (s : List ℕ) → Bytes s → valid s ≡ true → (i : ℕ) → i < count s → is_output s i ≡ (cell_at (state_in s) i).out
unfolding raws_of of_cell
out_is s b ok i h =
    let is : dec_raw (part s (i * 256) 256) ≡ of_cell (cell_at (state_in s) i) =
    sym (row_at_lem (count s) s i h) ∙ ap (λ (r : Raws). row_at r i) (decoded s b ok) ∙ row_of (state_in s) i (rw (state_length_lem (count s) s) h) in
    ap (λ (r : Raw). not (eqb (num out_f r) 0)) is ∙ flag_out (cell_at (state_in s) i).out

-- ## Only an output hands out an event

pub collect_output : (i : ℕ) (M : State) → (call (collecting i) M).number ≡ 0 → T (cell_at M i).out
unfolding call collect
collect_output i M e = by (cell_at M i).out e
  where
    by : (b : Bool) → (unless (not b) 13 M (hand_out (oldest (cell_at M i).next (cell_at M i).held) i M)).number ≡ 0 → T b
    by true q = tt
    by false q = absurd (omega arith)

pub no_output : (s : List ℕ) → Fine s → (i : ℕ) → T (not (is_output s i)) → (reply (collecting i) s).number ≡ 0 → ⊥
no_output s f i n e = go (valid s) refl f e
  where
    go : (v : Bool) → valid s ≡ v → Fine s → (reply (collecting i) s).number ≡ 0 → ⊥
    go true q (inl b) =
        rw (reply_outcome (collecting i) s q)
        (λ z.
        let o = collect_output i (state_in s) z in
        let h : i < count s = omega (arith, output_there (state_in s) i o, state_length_lem (count s) s) in
        T_not (is_output s i) n (subst T (sym (out_is s b q i h)) o))
    go true q (inr r) = rw (reply_none (collecting i) s r) (λ z. omega arith)
    go false q g = rw (reply_none (collecting i) s q) (λ z. omega arith)
