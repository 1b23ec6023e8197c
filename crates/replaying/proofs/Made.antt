-- The calls that a replay makes on a buffer: what is seen of them, what is printed of them, and where they leave it.
use Prim.Native.Nat.{ℕ, ◌+◌, ◌^◌, ◌<◌, ◌≤◌}
use mathlib.Core.Path.{◌≡◌, refl, sym, ap, ap₂, ◌∙◌}
use mathlib.Core.Bool.{Bool, true, false, true≢false, cond}
use mathlib.Core.List.{List, [], ◌∷◌, ◌++◌, map, append-nil, append_assoc}
use native.Mathlib.Omega.{arith}
use native.Mathlib.Decide.{dec_lt, ℕ_discrete}
use lib.Dec.{eqb}
use Rattle.machine.specs.Calls.{Call, running, collecting}
use Rattle.runs.specs.Seen.{Typed, AllTyped}
use Rattle.calls.specs.Reply.{Reply, reply, left_by}
use Rattle.histories.specs.Demands.{seen_in}
use Rattle.histories.proofs.Whole.{seen_by}
use Rattle.trace.specs.declared.Record.{Record}
use Rattle.trace.specs.declared.Record.TheVariants.{Reading, Progress}
use Rattle.printer.specs.Print.{event_text}
use Rattle.replaying.specs.declared.Place.{Place}
use Rattle.replaying.specs.declared.Place.TheVariants.{Run, Collect, Rest}
use Rattle.replaying.specs.Replay.{call_of, refusal, all_moves, turn, next_output, round_after, to_output, ran, collected, step, Prints, here, on}
use Rattle.replaying.specs.Session.{Replays, ends, goes, line_in, printed_of, other_in, others_of}
use Rattle.replaying.proofs.Outputs.{next_before, no_output}
use Rattle.replaying.proofs.Steps.{to_next_lem, to_last, collected_event, collected_none, collected_state, ran_rest, ran_moved, ran_state}
use Rattle.replaying.proofs.Bytes.{Fine, reply_fine, run_rests, collect_same}
use Rattle.replaying.proofs.Nearer.{step_fine}

-- ## Lists of calls on a buffer

pub buffer_append : (s : List ℕ) (cs ds : List Call) → left_by s (cs ++ ds) ≡ left_by (left_by s cs) ds
unfolding left_by
buffer_append s [] ds = refl
buffer_append s (c ∷ cs) ds = buffer_append (reply c s).buffer cs ds

pub printed_append : (s : List ℕ) (cs ds : List Call) → printed_of (seen_by s (cs ++ ds)) ≡ printed_of (seen_by s cs) ++ printed_of (seen_by (left_by s cs) ds)
unfolding seen_by left_by printed_of
printed_append s [] ds = refl
printed_append s (c ∷ cs) ds =
    let l = line_in c (seen_in c (reply c s)) in let t = (reply c s).buffer in
    ap (λ (x : List ℕ). l ++ x) (printed_append t cs ds) ∙ sym (append_assoc l (printed_of (seen_by t cs)) (printed_of (seen_by (left_by t cs) ds)))

pub offers_append : (cs ds : List Call) → others_of (cs ++ ds) ≡ others_of cs ++ others_of ds
unfolding others_of
offers_append [] ds = refl
offers_append (c ∷ cs) ds = ap (λ (x : List Call). other_in c ++ x) (offers_append cs ds) ∙ sym (append_assoc (other_in c) (others_of cs) (others_of ds))

pub typed_append : (cs ds : List Call) → AllTyped cs → AllTyped ds → AllTyped (cs ++ ds)
typed_append [] ds h k = k
typed_append (c ∷ cs) ds h k = (h.0, typed_append cs ds h.1 k)

-- from s to t, with these offers and these bytes printed
pub record Made (s : List ℕ) (offers : List Call) (printed t : List ℕ) : Type 0 where
  pub calls : List Call
  pub typed : AllTyped calls
  pub offered : others_of calls ≡ offers
  pub lines : printed ≡ printed_of (seen_by s calls)
  pub buffer : t ≡ left_by s calls

made_none : (s : List ℕ) → Made s [] [] s
unfolding seen_by left_by printed_of others_of
made_none s = record { calls = []; typed = tt; offered = refl; lines = refl; buffer = refl }

unfoldable pub made_one : (s : List ℕ) (c : Call) → Typed c → Made s (other_in c) (line_in c (seen_in c (reply c s))) (reply c s).buffer
unfolding seen_by left_by printed_of others_of
made_one s c h =
    record { calls = c ∷ []; typed = (h, tt); offered = append-nil (other_in c); lines = sym (append-nil (line_in c (seen_in c (reply c s)))); buffer = refl }

made_then : {s : List ℕ} {os : List Call} {w t : List ℕ} {ps : List Call} {v u : List ℕ} → Made s os w t → Made t ps v u → Made s (os ++ ps) (w ++ v) u
made_then {s} x y =
    let b = x.buffer in
    record {
      calls = x.calls ++ y.calls;
      typed = typed_append x.calls y.calls x.typed y.typed;
      offered = offers_append x.calls y.calls ∙ ap₂ ◌++◌ x.offered y.offered;
      lines = ap₂ ◌++◌ x.lines (y.lines ∙ ap (λ (l : List ℕ). printed_of (seen_by l y.calls)) b) ∙ sym (printed_append s x.calls y.calls);
      buffer = y.buffer ∙ ap (λ (l : List ℕ). left_by l y.calls) b ∙ sym (buffer_append s x.calls y.calls);
    }

-- ## From one place to the next

-- a run makes no move, and none of the first k streams has an event to hand out
pub record Still (k : ℕ) (s : List ℕ) : Type 0 where
  pub moves : (reply (running all_moves) s).moves ≡ 0
  pub waits : (i : ℕ) → i < k → (reply (collecting i) s).number ≡ 0 → ⊥

-- what is known of the state at a place
abbrev Known : ℕ → Place → List ℕ → Type 0
Known n Run s = Unit {0}
Known n (Collect i busy) s = (i < 2 ^ 32) × (busy ≡ false → Still i s)
Known n Rest s = Still n s

collect_line : (n i : ℕ) (busy : Bool) (r : Reply) → (collected n i busy r).printed ≡ line_in (collecting i) (seen_in (collecting i) r)
unfolding collected
collect_line n i busy r = go (eqb r.number 0)
  where
    go : (b : Bool) → (cond b (turn (Collect i true) (event_text i r.stamp r.value) r.buffer) (turn (to_output n (i + 1) busy r.buffer) [] r.buffer)).printed ≡ cond b (event_text i r.stamp r.value) []
    go true = refl
    go false = refl

step_made : (n : ℕ) (p : Place) (s : List ℕ) → Known n p s → Made s [] (step n p s).printed (step n p s).state
unfolding step
step_made n Run s h = let r = ran_state n (reply (running all_moves) s) in rw (r.0, r.1) (made_one s (running all_moves) (omega arith))
step_made n (Collect i busy) s h =
    rw (collect_line n i busy (reply (collecting i) s), collected_state n i busy (reply (collecting i) s)) (made_one s (collecting i) (let l = h.0 in omega arith))
step_made n Rest s h = made_none s

-- streams have numbers of 32 bits
module _ (n : ℕ) (few : n ≤ 2 ^ 32) where
  -- the streams before the next output hand out nothing
  to_known : (s : List ℕ) → Fine s → (from : ℕ) (busy : Bool) → (busy ≡ false → Still from s) → Known n (to_output n from busy s) s
  to_known s f from busy h = go (dec_lt (next_output n from s) n)
    where
      more : (k : ℕ) → k ≤ next_output n from s → Still from s → Still k s
      more k l x = record { moves = x.moves; waits = λ i m. one i (omega arith) (dec_lt i from) }
        where
          one : (i : ℕ) → i < next_output n from s → Dec (i < from) → (reply (collecting i) s).number ≡ 0 → ⊥
          one i m (yes d) = x.waits i d
          one i m (no d) = no_output s f i (next_before n from s i (omega arith) m)

      round : (b : Bool) → n ≤ next_output n from s → (b ≡ false → Still from s) → Known n (round_after b) s
      round true l x = tt
      round false l x = more n l (x refl)

      go : Dec (next_output n from s < n) → Known n (to_output n from busy s) s
      go (yes l) = rw (sym (to_next_lem n from busy s l)) (omega arith, λ q. more (next_output n from s) (omega arith) (h q))
      go (no l) = let m : n ≤ next_output n from s = omega arith in rw (sym (to_last n from busy s m)) (round busy m h)

  module _ (s : List ℕ) (f : Fine s) where
    run_known : Known n (ran n (reply (running all_moves) s)).place (ran n (reply (running all_moves) s)).state
    run_known = go (dec_lt (reply (running all_moves) s).moves all_moves)
      where
        go : Dec ((reply (running all_moves) s).moves < all_moves) → Known n (ran n (reply (running all_moves) s)).place (ran n (reply (running all_moves) s)).state
        go (yes l) =
            rw (ran_rest n (reply (running all_moves) s) l)
            (to_known (reply (running all_moves) s).buffer (reply_fine (running all_moves) s) 0 false (λ q. record { moves = run_rests s f all_moves all_moves l; waits = λ i m. absurd (omega arith) }))
        go (no l) = rw (ran_moved n (reply (running all_moves) s) (omega arith)) tt

    -- one stream more has nothing to hand out
    next_still : (i : ℕ) → ((reply (collecting i) s).number ≡ 0 → ⊥) → Still i s → Still (i + 1) s
    next_still i none x = record { moves = x.moves; waits = λ j m. one j m (ℕ_discrete j i) }
      where
        one : (j : ℕ) → j < i + 1 → Dec (j ≡ i) → (reply (collecting j) s).number ≡ 0 → ⊥
        one j m (yes e) = rw e none
        one j m (no d) = x.waits j (omega arith)

    collect_known : (i : ℕ) (busy : Bool) → Known n (Collect i busy) s → Known n (collected n i busy (reply (collecting i) s)).place (collected n i busy (reply (collecting i) s)).state
    collect_known i busy h = go (ℕ_discrete (reply (collecting i) s).number 0)
      where
        go : Dec ((reply (collecting i) s).number ≡ 0) → Known n (collected n i busy (reply (collecting i) s)).place (collected n i busy (reply (collecting i) s)).state
        go (yes e) = rw (collected_event n i busy (reply (collecting i) s) e) (h.0, λ q. absurd (true≢false q))
        go (no d) = rw (collected_none n i busy (reply (collecting i) s) d, collect_same s f i d) (to_known s f (i + 1) busy (λ q. next_still i d (h.1 q)))

    step_known : (p : Place) → Known n p s → Known n (step n p s).place (step n p s).state
    unfolding step
    step_known Run h = run_known
    step_known (Collect i busy) h = collect_known i busy h
    step_known Rest h = h

-- ## From one line to the next

pub prints_made : {n : ℕ} {p : Place} {s w : List ℕ} {q : Place} {t : List ℕ} → n ≤ 2 ^ 32 → Prints n p s w q t → Fine s → Known n p s → Made s [] w t × Known n q t
prints_made {p = p} {s = s} few here f h = (made_none s, h)
prints_made {n} few (on {p} {s} x) f h =
    let r = prints_made few x (step_fine n p s (λ e. f)) (step_known n few s f p h) in
    (made_then (step_made n p s h) r.0, r.1)

-- what is printed of an offer is the number of its refusal
offer_made : (r : Record) (s : List ℕ) → Typed (call_of r) → Made s (call_of r ∷ []) (refusal (reply (call_of r) s).number) (reply (call_of r) s).buffer
offer_made (Reading i t v) s h = made_one s (call_of (Reading i t v)) h
offer_made (Progress i y) s h = made_one s (call_of (Progress i y)) h

pub replays_made : {n : ℕ} {s : List ℕ} {rs : List Record} {w t : List ℕ} → n ≤ 2 ^ 32 → Replays n s rs w t → Fine s → AllTyped (map call_of rs) → Made s (map call_of rs) w t × Still n t
replays_made few (ends x) f h = prints_made few x f tt
replays_made few (goes {t = t} {r = r} x y) f h =
    let m = replays_made few y (reply_fine (call_of r) t) h.1 in
    (made_then (made_then (prints_made few x f tt).0 (offer_made r t h.0)) m.0, m.1)
