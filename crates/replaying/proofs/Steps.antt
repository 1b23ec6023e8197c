-- One call of a replay, case by case.
use Prim.Native.Nat.{ℕ, zero, suc, ◌+◌, ◌<◌, ◌≤◌}
use mathlib.Core.Path.{◌≡◌, refl, ap}
use mathlib.Core.Bool.{Bool, true, false, cond}
use mathlib.Core.List.{List, []}
use native.Mathlib.Omega.{arith}
use lib.Dec.{eqb, ltb}
use lib.ListN.{length}
use borrow.Author.Tests.{eq-eqb, ne_eqb, lt-ltb, le-ltb}
use Rattle.calls.specs.Reply.{Reply, reply}
use Rattle.std.specs.Prelude.{Option, Some, None}
use Rattle.trace.specs.declared.Record.{Record}
use Rattle.printer.specs.Print.{event_text, refused_text, refused_room}
use Rattle.printer.proofs.Lines.{refused_most}
use Rattle.replaying.specs.declared.Place.TheVariants.{Run, Collect}
use Rattle.replaying.specs.Replay.{call_of, refusal, turn, all_moves, next_output, round_after, to_output, ran, collected}
use Rattle.replaying.specs.Whole.{line_number, line_text}

-- ## Offers

pub refusal_none : (n : ℕ) → n ≡ 0 → refusal n ≡ []
refusal_none n e = ap refusal e

pub refusal_some : (n : ℕ) → (n ≡ 0 → ⊥) → refusal n ≡ refused_text n
refusal_some zero h = absurd (h refl)
refusal_some (suc n) h = refl

-- ## The next output

pub to_next_lem : (n from : ℕ) (busy : Bool) (s : List ℕ) → next_output n from s < n → Collect (next_output n from s) busy ≡ to_output n from busy s
unfolding to_output
to_next_lem n from busy s h = rw (lt-ltb (next_output n from s) n h)

pub to_last : (n from : ℕ) (busy : Bool) (s : List ℕ) → n ≤ next_output n from s → round_after busy ≡ to_output n from busy s
unfolding to_output
to_last n from busy s h = rw (le-ltb (next_output n from s) n h)

-- ## A collection

pub collected_event : (n i : ℕ) (busy : Bool) (r : Reply) → r.number ≡ 0 → collected n i busy r ≡ turn (Collect i true) (event_text i r.stamp r.value) r.buffer
unfolding collected
collected_event n i busy r e = rw (eq-eqb r.number 0 e)

pub collected_none : (n i : ℕ) (busy : Bool) (r : Reply) → (r.number ≡ 0 → ⊥) → collected n i busy r ≡ turn (to_output n (i + 1) busy r.buffer) [] r.buffer
unfolding collected
collected_none n i busy r e = rw (ne_eqb r.number 0 e)

-- whether something was handed out or not, the state is the collect's
pub collected_state : (n i : ℕ) (busy : Bool) (r : Reply) → (collected n i busy r).state ≡ r.buffer
unfolding collected
collected_state n i busy r = go (eqb r.number 0)
  where
    go : (b : Bool) → (cond b (turn (Collect i true) (event_text i r.stamp r.value) r.buffer) (turn (to_output n (i + 1) busy r.buffer) [] r.buffer)).state ≡ r.buffer
    go true = refl
    go false = refl

-- ## A run

pub ran_rest : (n : ℕ) (r : Reply) → r.moves < all_moves → ran n r ≡ turn (to_output n 0 false r.buffer) [] r.buffer
ran_rest n r h = rw (lt-ltb r.moves all_moves h)

pub ran_moved : (n : ℕ) (r : Reply) → all_moves ≤ r.moves → ran n r ≡ turn Run [] r.buffer
ran_moved n r h = rw (le-ltb r.moves all_moves h)

-- whether all moves were made or not, the state is the run's
pub ran_state : (n : ℕ) (r : Reply) → ((ran n r).state ≡ r.buffer) × ((ran n r).printed ≡ [])
ran_state n r = go (ltb r.moves all_moves)
  where
    go : (b : Bool) → ((cond b (turn (to_output n 0 false r.buffer) [] r.buffer) (turn Run [] r.buffer)).state ≡ r.buffer) × ((cond b (turn (to_output n 0 false r.buffer) [] r.buffer) (turn Run [] r.buffer)).printed ≡ [])
    go true = (refl, refl)
    go false = (refl, refl)

pub refusal_most : (n : ℕ) → length (refusal n) ≤ refused_room
refusal_most zero = omega arith
refusal_most (suc n) = refused_most (suc n)

-- ## A line

pub line_most : (x : Option (Record × ℕ)) (s : List ℕ) → length (line_text x s) ≤ refused_room
line_most (Some (r, next)) s = refusal_most (reply (call_of r) s).number
line_most None s = refused_most (line_number None)
