-- What a replay has printed is true of the plan that was loaded: the lines are the answers of calls that end at rest.
use Prim.Native.Nat.{ℕ, zero, suc, ◌^◌, ◌<◌, ◌≤◌}
use mathlib.Core.Path.{◌≡◌, refl, ap, ◌∙◌, subst}
use mathlib.Core.Bool.{Bool, true, false}
use Rattle.std.specs.Prelude.{Option, None, Some}
use mathlib.Core.List.{List, [], map}
use mathlib.Core.Logic.{inl}
use native.Mathlib.Omega.{arith}
use lib.Dec.{T, ltb}
use lib.ListN.{length}
use borrow.Author.Tests.{ltb-false}
use Rattle.meaning.specs.Events.{Event}
use Rattle.machine.specs.State.{Declared, State, cell_at}
use Rattle.machine.specs.Calls.{Call, running, collecting, lowest, run, oldest, hand_out, collect, call}
use Rattle.machine.proofs.Outcomes.{run_more, collect_is}
use Rattle.machine.proofs.Moves.{lowest_none}
use Rattle.machine.proofs.Frame.{output_there}
use Rattle.runs.specs.Seen.{Seen, AllTyped}
use Rattle.runs.specs.Demand3.{AtRest}
use Rattle.runs.specs.Claim.{final, next_number}
use Rattle.runs.proofs.World.{Shape}
use Rattle.runs.proofs.Numbers.{move_number, collect_number, stuck_12}
use Rattle.runs.proofs.Claimed.{shape}
use Rattle.le.specs.Bytes.{Bytes}
use Rattle.operators.specs.Limits.{capacity}
use Rattle.operators.proofs.Sizes.{capacity_few}
use Rattle.plan.specs.Rules.{declared}
use Rattle.engine.specs.Load.{load_reply}
use Rattle.histories.specs.Inside.{Inside}
use Rattle.engine.proofs.Loads.{load_length}
use Rattle.calls.specs.Reply.{left_by}
use Rattle.histories.proofs.Whole.{rules_keep, seen_by, load_then}
use Rattle.trace.specs.declared.Record.{Record}
use Rattle.replaying.specs.Replay.{call_of, all_moves}
use Rattle.replaying.specs.Session.{Replays, printed_of, Told}
use Rattle.calls.proofs.Bytes.{state_bytes}
use Rattle.replaying.proofs.Made.{Still, replays_made}

module _ (text s : List ℕ) (done : (load_reply text s).number ≡ 0) where
  -- the buffer that the load filled
  abbrev pub filled : List ℕ
  filled = (load_reply text s).buffer

  -- the streams that it declares
  abbrev pub plan : List Declared
  plan = declared (capacity (length (load_reply text s).buffer)) text

-- ## Rest

-- a run that may make a move and makes none: no equation can
run_none : (n : ℕ) (M : State) → 0 < n → (call (running n) M).moves ≡ 0 → length M ≤ lowest M
unfolding call
run_none zero M h e = absurd (omega arith)
run_none (suc n) M h e = go (ltb (lowest M) (length M)) refl e
  where
    go : (b : Bool) → ltb (lowest M) (length M) ≡ b → (run (suc n) M).moves ≡ 0 → length M ≤ lowest M
    go true q = rw (run_more n M q) (λ e. absurd (omega arith))
    go false q = λ e. ltb-false (lowest M) (length M) q

-- a collect of an output that hands out nothing
collect_nothing : (i : ℕ) (M : State) → T (cell_at M i).out → ((call (collecting i) M).number ≡ 0 → ⊥) → (collect i M).number ≡ 14
unfolding call
collect_nothing i M o n = rw (collect_is i M o) (go (oldest (cell_at M i).next (cell_at M i).held) (rw (collect_is i M o) at n))
  where
    go : (x : Option Event) → ((hand_out x i M).number ≡ 0 → ⊥) → (hand_out x i M).number ≡ 14
    go None k = refl
    go (Some e) k = absurd (k refl)

pub still_rest : (n : ℕ) (ds : List Declared) (cs : List Call) {seen : List Seen} {t : List ℕ} → length ds ≤ n → Inside ds cs seen t → AllTyped cs → Still n t → AtRest ds (next_number ds cs)
still_rest n ds cs few h typed still =
    record {
      moved = λ i e.
          let l = e.0 in let m = sh.size in
          move_number i K ∙ stuck_12 i K (omega arith) (rw (sh.eqns i) e.1) (lowest_none K stuck i (omega arith));
      collected = λ i e.
          let o : T (cell_at K i).out = rw (sh.outs i) e in
          let l = output_there K i o in let m = sh.size in
          collect_number i K ∙ collect_nothing i K o (rw (h.answers (collecting i)) at (still.waits i (omega arith)));
    }
  where
    K : State
    K = final ds cs

    sh : Shape ds K
    sh = shape ds (rules_keep ds h.rules) cs typed h.claim.solution h.claim.solves

    stuck : length K ≤ lowest K
    stuck = run_none all_moves K (omega arith) (rw (h.answers (running all_moves)) at still.moves)

-- ## The whole

-- a replay that goes through all streams of the plan that was loaded
told_of : (n : ℕ) → n ≤ 2 ^ 32 → (text s : List ℕ) (done : (load_reply text s).number ≡ 0) → length (plan text s done) ≤ n → (rs : List Record) → AllTyped (map call_of rs) → (w t : List ℕ) → Replays n (load_reply text s).buffer rs w t → Told (plan text s done) rs w
unfolding seen_by left_by
told_of n most text s done few rs typed w t x =
    let fresh = load_then text s done [] tt in
    let fine : Bytes (filled text s done) = rw fresh.bytes (state_bytes (length (filled text s done)) (final (plan text s done) [])) in
    let made = replays_made most x (inl fine) typed in
    let m = made.0 in
    let h = load_then text s done m.calls m.typed in
    record {
      calls = m.calls;
      typed = m.typed;
      offers = m.offered;
      lines = m.lines ∙ ap printed_of h.logged;
      claim = h.claim;
      rest = still_rest n (plan text s done) m.calls few h m.typed (subst (Still n) m.buffer made.1);
    }

-- so one that goes through as many streams as the buffer has room for
pub replay_told : (text s : List ℕ) → (load_reply text s).number ≡ 0 → (rs : List Record) → AllTyped (map call_of rs) → (w t : List ℕ) → Replays (capacity (length s)) (load_reply text s).buffer rs w t → Told (declared (capacity (length s)) text) rs w
replay_told text s done rs typed w t x =
    let l : capacity (length (filled text s done)) ≡ capacity (length s) = ap capacity (load_length text s) in
    let few : length (plan text s done) ≤ capacity (length (filled text s done)) = unfold seen_by left_by in (load_then text s done [] tt).rules.few in
    subst (λ (n : ℕ). Told (declared n text) rs w) l
    (told_of (capacity (length s)) (omega (arith, capacity_few (length s))) text s done (omega (arith, few, l)) rs typed w t x)
