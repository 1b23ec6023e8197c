-- Of a list of calls whose offers are done: what is accepted and known is what the offers bring, and the lines are of events.
use Prim.Native.Nat.{ℕ}
use mathlib.Core.Path.{◌≡◌, refl, ap, ap₂, ◌∙◌}
use mathlib.Core.Bool.{Bool, true, false, cond}
use mathlib.Core.List.{List, [], ◌∷◌, ◌++◌}
use native.Mathlib.Omega.{arith}
use lib.Dec.{eqb}
use Rattle.meaning.specs.Events.{Event}
use Rattle.machine.specs.Calls.{Call, reading, progress, moving, running, collecting}
use Rattle.runs.specs.Seen.{Seen, reading_of, bound_of, accepted, known_from}
use Rattle.calls.specs.Reply.{reply}
use Rattle.histories.proofs.Whole.{seen_by}
use Rattle.printer.specs.Print.{event_text}
use Rattle.replaying.specs.Session.{line_in, printed_of, other_in, others_of}
use Rattle.ordered.specs.Ordered.{readings_of, bound_from, DoneIn, OffersDone, EventLines, none, event}

pub done_append : (l m : List Seen) → OffersDone l → OffersDone m → OffersDone (l ++ m)
done_append [] m h k = k
done_append (x ∷ l) m h k = (h.0, done_append l m h.1 k)

-- runs and collects offer nothing
pub quiet_done : (b : List ℕ) (cs : List Call) → others_of cs ≡ [] → OffersDone (seen_by b cs)
unfolding seen_by others_of
quiet_done b [] e = tt
quiet_done b (reading s t v ∷ cs) e = let z : ◌≡◌ {A = ℕ} 0 1 = cc in absurd (omega arith)
quiet_done b (progress s y ∷ cs) e = let z : ◌≡◌ {A = ℕ} 0 1 = cc in absurd (omega arith)
quiet_done b (moving s ∷ cs) e = let z : ◌≡◌ {A = ℕ} 0 1 = cc in absurd (omega arith)
quiet_done b (running n ∷ cs) e = (tt, quiet_done (reply (running n) b).buffer cs e)
quiet_done b (collecting s ∷ cs) e = (tt, quiet_done (reply (collecting s) b).buffer cs e)

same_either : {A : Type 0} (b : Bool) (a : A) → cond b a a ≡ a
same_either true a = refl
same_either false a = refl

accepts_one : (i : ℕ) (c : Call) (number : ℕ) (l : List Event) (os : List Call) → DoneIn c number → l ≡ readings_of i os → cond (eqb number 0) (reading_of i c) [] ++ l ≡ readings_of i (other_in c ++ os)
accepts_one i (reading s t v) number l os d e = rw (d, e)
accepts_one i (progress s y) number l os d e = rw (d, e)
accepts_one i (moving s) number l os d e = ap₂ ◌++◌ (same_either {A = List Event} (eqb number 0) []) e
accepts_one i (running n) number l os d e = ap₂ ◌++◌ (same_either {A = List Event} (eqb number 0) []) e
accepts_one i (collecting s) number l os d e = ap₂ ◌++◌ (same_either {A = List Event} (eqb number 0) []) e

pub done_accepted : (i : ℕ) (b : List ℕ) (cs : List Call) → OffersDone (seen_by b cs) → accepted i (seen_by b cs) ≡ readings_of i (others_of cs)
unfolding seen_by others_of accepted
done_accepted i b [] d = refl
done_accepted i b (c ∷ cs) d =
    let r = reply c b in
    accepts_one i c r.number (accepted i (seen_by r.buffer cs)) (others_of cs) d.0 (done_accepted i r.buffer cs d.1)

knows_one : (y i : ℕ) (c : Call) (number : ℕ) (os : List Call) → DoneIn c number → bound_from (cond (eqb number 0) (bound_of i c y) y) i os ≡ bound_from y i (other_in c ++ os)
knows_one y i (reading s t v) number os d = rw d
knows_one y i (progress s z) number os d = rw d
knows_one y i (moving s) number os d = ap (λ (k : ℕ). bound_from k i os) (same_either {A = ℕ} (eqb number 0) y)
knows_one y i (running n) number os d = ap (λ (k : ℕ). bound_from k i os) (same_either {A = ℕ} (eqb number 0) y)
knows_one y i (collecting s) number os d = ap (λ (k : ℕ). bound_from k i os) (same_either {A = ℕ} (eqb number 0) y)

pub done_known : (y i : ℕ) (b : List ℕ) (cs : List Call) → OffersDone (seen_by b cs) → known_from y i (seen_by b cs) ≡ bound_from y i (others_of cs)
unfolding seen_by others_of known_from
done_known y i b [] d = refl
done_known y i b (c ∷ cs) d =
    let r = reply c b in
    done_known (cond (eqb r.number 0) (bound_of i c y) y) i r.buffer cs d.1 ∙ knows_one y i c r.number (others_of cs) d.0

-- one offer more
pub bound_more : (y i : ℕ) (os : List Call) (c : Call) → bound_from y i (os ++ c ∷ []) ≡ bound_of i c (bound_from y i os)
bound_more y i [] c = refl
bound_more y i (o ∷ os) c = bound_more (bound_of i o y) i os c

line_one : (c : Call) (x : Seen) (w : List ℕ) → DoneIn c x.number → EventLines w → EventLines (line_in c x ++ w)
line_one (reading s t v) x w d h = rw d h
line_one (progress s y) x w d h = rw d h
line_one (moving s) x w d h = h
line_one (running n) x w d h = h
line_one (collecting s) x w d h = by (eqb x.number 0)
  where
    by : (b : Bool) → EventLines (cond b (event_text s x.stamp x.value) [] ++ w)
    by true = event s x.stamp x.value h
    by false = h

pub done_lines : (l : List Seen) → OffersDone l → EventLines (printed_of l)
unfolding printed_of
done_lines [] d = none
done_lines (x ∷ l) d = line_one x.made x (printed_of l) d.0 (done_lines l d.1)
