-- Load takes just the texts of the plans that keep the written rules.
use Prim.Native.Nat.{ℕ, ◌≤◌, ◌<◌}
use mathlib.Core.Path.{◌≡◌, sym, ◌∙◌}
use mathlib.Core.Bool.{Bool, true, false, cond}
use mathlib.Core.List.{List}
use native.Mathlib.Omega.{arith}
use lib.Dec.{eqb}
use lib.ListN.{length}
use borrow.Author.Tests.{lt-ltb}
use Rattle.operators.specs.Limits.{state_length, long_length, stream_limit, most_streams, capacity}
use Rattle.operators.proofs.Sizes.{capacity_few}
use Rattle.plan.specs.Rules.{number, declared}
use Rattle.plan.proofs.Taken.{taken_exactly}
use Rattle.plan.proofs.More.{taken_more}
use Rattle.engine.specs.Load.{load_reply}
use Rattle.histories.specs.Demands.{Taking}

-- the number of a load is that of its text, if the buffer has room for streams
pub number_of : (text s : List ℕ) → 0 < capacity (length s) → (load_reply text s).number ≡ number (capacity (length s)) text
unfolding load_reply
number_of text s l = rw (lt-ltb 0 (capacity (length s)) l)

-- every length that states have has room for as many streams as the shortest
pub capacity_least : (size : ℕ) → 0 < capacity size → stream_limit ≤ capacity size
unfolding capacity
capacity_least size = go (eqb size state_length) (eqb size long_length)
  where
    go : (b c : Bool) → 0 < cond b stream_limit (cond c most_streams 0) → stream_limit ≤ cond b stream_limit (cond c most_streams 0)
    go true c h = omega arith
    go false true h = omega arith
    go false false h = absurd (omega arith)

-- a text that is taken with that room is taken by every buffer of such a length, and declares the same streams
pub taken_anywhere : (text s : List ℕ) → 0 < capacity (length s) → number stream_limit text ≡ 0 → ((load_reply text s).number ≡ 0) × (declared (capacity (length s)) text ≡ declared stream_limit text)
taken_anywhere text s l e =
    let m = taken_more stream_limit (capacity (length s)) (capacity_least (length s) l) (capacity_few (length s)) text e in
    (number_of text s l ∙ m.0, m.1)

pub taking : Taking
taking = record {
  exactly = λ text s l.
      let e = number_of text s l in
      let t = taken_exactly (capacity (length s)) (capacity_few (length s)) text in
      (λ q. t.0 (sym e ∙ q), λ x. e ∙ t.1 x);
}
