-- What is printed on the way, one call more.
use Prim.Native.Nat.{ℕ, ◌+◌, ◌≤◌}
use mathlib.Core.Path.{◌≡◌, sym, subst}
use mathlib.Core.Bool.{Bool, true, false, cond}
use mathlib.Core.List.{List, [], ◌++◌, append-nil, append_assoc}
use native.Mathlib.Omega.{arith}
use lib.Dec.{eqb}
use lib.ListN.{length, take}
use Rattle.machine.specs.Calls.{running, collecting}
use Rattle.calls.specs.Reply.{Reply, reply}
use Rattle.printer.specs.Print.{event_text, event_room}
use Rattle.decimal.proofs.Puts.{put_take, put_length}
use Rattle.printer.proofs.Lines.{event_most}
use Rattle.replaying.specs.declared.Place.{Place}
use Rattle.replaying.specs.declared.Place.TheVariants.{Run, Collect, Rest}
use Rattle.replaying.specs.declared.Stand.{Stand}
use Rattle.replaying.specs.Replay.{all_moves, turn, to_output, collected, step, Prints, here, on, Turned}
use Rattle.replaying.proofs.Steps.{ran_state}

pub one_more : {n : ℕ} {p : Place} {s w : List ℕ} {q : Place} {t : List ℕ} → Prints n p s w q t → Prints n p s (w ++ (step n q t).printed) (step n q t).place (step n q t).state
one_more {n} {p} {s} here = subst (λ l. Prints n p s l (step n p s).place (step n p s).state) (append-nil (step n p s).printed) (on here)
one_more {n} {q = q} {t = t} (on {p} {s} {w} x) =
    subst (λ l. Prints n p s l (step n q t).place (step n q t).state) (sym (append_assoc (step n p s).printed w (step n q t).printed)) (on (one_more x))

-- at most one event is printed
collected_most : (n i : ℕ) (busy : Bool) (r : Reply) → length (collected n i busy r).printed ≤ event_room
unfolding collected
collected_most n i busy r = go (eqb r.number 0)
  where
    go : (b : Bool) → length (cond b (turn (Collect i true) (event_text i r.stamp r.value) r.buffer) (turn (to_output n (i + 1) busy r.buffer) [] r.buffer)).printed ≤ event_room
    go true = event_most i r.stamp r.value
    go false = omega arith

printed_most : (n : ℕ) (p : Place) (s : List ℕ) → length (step n p s).printed ≤ event_room
unfolding step
printed_most n Run s = rw (ran_state n (reply (running all_moves) s)).1 (omega arith)
printed_most n (Collect i busy) s = collected_most n i busy (reply (collecting i) s)
printed_most n Rest s = omega arith

-- a turn of the loop: what the buffer starts with is what was printed
module _ (n : ℕ) (q : Place) (t : List ℕ) {o : List ℕ} {end : ℕ} {r : Stand} {o' t' : List ℕ} (x : Turned (step n q t) o end r o' t') (room : end + event_room ≤ length o) where
  fits : end + length (step n q t).printed ≤ length o
  fits = omega (arith, printed_most n q t)

  pub turn_fits : (r.end ≤ length o') × (length o' ≡ length o)
  turn_fits = let l = put_length x.put in let e = x.put.past in (omega (arith, fits), l)

  pub turn_prints : {p : Place} {s : List ℕ} → Prints n p s (take end o) q t → Prints n p s (take r.end o') r.place t'
  turn_prints y = rw (x.place, x.state, put_take x.put fits) (one_more y)
