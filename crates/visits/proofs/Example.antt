-- Document 01's whole example prints what the document says. The states are bytes and the stamps go to the horizon, so nothing is
-- run here: the plan's text and the trace are computed; that the offers are accepted, and which events have been handed out at
-- rest, follows from demands 2 and 3.
use Prim.Native.Nat.{ℕ, zero, suc, ◌≤◌, ◌<◌}
use mathlib.Core.Path.{◌≡◌, refl, sym, ap, ap₂, ◌∙◌, subst}
use mathlib.Core.Logic.{inl}
use mathlib.Core.Bool.{Bool, true, false}
use mathlib.Core.List.{List, [], ◌∷◌, ◌++◌, append-nil, append_assoc}
use native.Mathlib.Omega.{arith}
use lib.Dec.{leb}
use lib.IntN.{ℤ, pos}
use lib.ListN.{length, length-append}
use borrow.Author.Tests.{le-ltb}
use Rattle.le.specs.Bytes.{Bytes}
use Rattle.meaning.specs.Plan.{is_input}
use Rattle.meaning.specs.Events.{Event, ev, Streams, found, events}
use Rattle.meaning.specs.CycleTest.{acyclic}
use Rattle.operators.specs.Limits.{capacity}
use Rattle.operators.proofs.Sizes.{capacity_few}
use Rattle.operators.specs.Operators.{group_of, uses_k, eqn_of}
use Rattle.operators.specs.Rules.{fields_ok}
use Rattle.lines.specs.Form.{skip, field, ended, whole, scan, value_line, signed, out_line}
use Rattle.text.specs.Grammar.{head, stream, op_line, named, name_at, number_named, place, fields_after}
use Rattle.operators.specs.Windows.{width_ok, windows}
use Rattle.plan.specs.Rules.{all_keep, streams, plan_from, number_after, number, declared, all_widths, windows_ok}
use Rattle.machine.specs.State.{Declared, State, cell_at, room, loaded}
use Rattle.machine.specs.Step.{raise}
use Rattle.machine.specs.Calls.{Call, reading, progress, moving, running, collecting, arrivals, done, unless, offer_reading, call}
use Rattle.runs.specs.Seen.{Seen, Typed, AllTyped, accepted, known_from, known, handed}
use Rattle.runs.specs.Demand3.{IsInput, IsOutput, Beginning, FurthestBehind, AtRest}
use Rattle.runs.specs.History.{after, log}
use Rattle.runs.specs.Claim.{seen, next_number, readings}
use Rattle.runs.proofs.Numbers.{reading_number}
use Rattle.runs.proofs.World.{Shape}
use Rattle.runs.proofs.Claimed.{shape, known_is}
use Rattle.calls.specs.Reply.{Reply, reply, left_by}
use Rattle.engine.specs.Load.{load_reply}
use Rattle.histories.specs.Demands.{seen_in}
use Rattle.histories.specs.Inside.{Inside}
use Rattle.engine.proofs.Loads.{load_length}
use Rattle.histories.proofs.Taking.{capacity_least, taken_anywhere}
use Rattle.histories.proofs.Whole.{rules_keep, seen_by, load_then}
use Rattle.decimal.specs.Decimal.{digits}
use Rattle.trace.specs.declared.Record.TheVariants.{Reading}
use Rattle.trace.specs.Trace.{value_after, stamp_after, bound_after, input_after, line}
use Rattle.printer.specs.Print.{event_text}
use Rattle.replaying.specs.declared.Place.TheVariants.{Rest}
use Rattle.replaying.specs.Replay.{Prints, start}
use Rattle.replaying.specs.Session.{Replays, ends, goes, line_in, printed_of, others_of}
use Rattle.replaying.specs.Whole.{Lines, none, more, end, Printed, refused, played}
use Rattle.visits.specs.Example.{visits, trace, printed}
use Rattle.calls.proofs.Bytes.{state_bytes}
use Rattle.replaying.proofs.Bytes.{Fine, reply_fine}
use Rattle.replaying.proofs.Outputs.{collect_output}
use Rattle.replaying.proofs.Made.{buffer_append, printed_append, typed_append, Still, prints_made}
use Rattle.replaying.proofs.Told.{plan, still_rest}
use Rattle.replaying.proofs.Exists.{printed_exists}
use Rattle.replaying.proofs.Once.{lines_once}
use Rattle.visits.proofs.Quiet.{seen_append, accepted_append, known_append, quiet_accepted, quiet_known, AllPlain, plain_append, lines_of, printed_handed}
use Rattle.visits.proofs.Visits as Visits

-- ## The plan's text

visits_taken : number 32 visits ≡ 0
unfolding number head skip field ended whole scan number_after streams stream op_line named name_at number_named place fields_after value_line signed out_line all_keep all_widths windows_ok width_ok windows plan_from acyclic fields_ok group_of uses_k eqn_of
visits_taken = refl

visits_declared : declared 32 visits ≡ Visits.streams
unfolding declared head skip field ended whole scan streams stream op_line named name_at number_named place fields_after value_line signed out_line eqn_of
visits_declared = refl

-- ## Lists

-- an element that prints nothing, at the end
printed_last : (l : List Seen) (x : Seen) → line_in x.made x ≡ [] → printed_of (l ++ (x ∷ [])) ≡ printed_of l
unfolding printed_of
printed_last [] x e = rw e
printed_last (y ∷ l) x e = ap (λ (r : List ℕ). line_in y.made y ++ r) (printed_last l x e)

after_one : (b : List ℕ) (cs : List Call) (c : Call) → left_by b (cs ++ c ∷ []) ≡ (reply c (left_by b cs)).buffer
unfolding left_by
after_one b cs c = buffer_append b cs (c ∷ [])

-- two lists of which each is a beginning of the other
between : {a b : List Event} → Beginning a b → Beginning b a → a ≡ b
between {a} {b} (r, e) (q, f) =
    let z : length r ≡ 0 = omega (arith, ap length e, ap length f, length-append a r, length-append b q) in
    sym (append-nil a) ∙ ap (λ (l : List Event). a ++ l) (sym (empty r z)) ∙ sym e
  where
    empty : (l : List Event) → length l ≡ 0 → l ≡ []
    empty [] z = refl
    empty (x ∷ l) z = absurd (omega arith)

-- ## On a buffer of any length that states have

-- the inputs and outputs of the plan
only_output : (i : ℕ) → IsOutput Visits.streams i → i ≡ 5
only_output zero h = absurd h
only_output (suc zero) h = absurd h
only_output (suc (suc zero)) h = absurd h
only_output (suc (suc (suc zero))) h = absurd h
only_output (suc (suc (suc (suc zero)))) h = absurd h
only_output (suc (suc (suc (suc (suc zero))))) h = refl
only_output (suc (suc (suc (suc (suc (suc i)))))) h = absurd h

only_input : (i : ℕ) → IsInput Visits.streams i → i ≡ 0
only_input zero h = refl
only_input (suc zero) h = absurd h.1
only_input (suc (suc zero)) h = absurd h.1
only_input (suc (suc (suc zero))) h = absurd h.1
only_input (suc (suc (suc (suc zero)))) h = absurd h.1
only_input (suc (suc (suc (suc (suc zero))))) h = absurd h.1
only_input (suc (suc (suc (suc (suc (suc i)))))) h = absurd h.1

-- an offer to an input that is neither below the bound nor refused for lack of space
offer_done : (t : ℕ) (v : ℤ) (M : State) → is_input (cell_at M 0).eqn ≡ true → (cell_at M 0).bound ≤ t → ((offer_reading 0 t v M).number ≡ 9 → ⊥) → (call (reading 0 t v) M).number ≡ 0
unfolding call offer_reading
offer_done t v M i h = rw (i, le-ltb t (cell_at M 0).bound h) (by (leb room (length (cell_at M 0).held)))
  where
    by : (b : Bool) → ((unless b 9 M (done (arrivals 0 (ev t v ∷ [])) (raise 0 (suc t) (ev t v ∷ []) M))).number ≡ 9 → ⊥) → (unless b 9 M (done (arrivals 0 (ev t v ∷ [])) (raise 0 (suc t) (ev t v ∷ []) M))).number ≡ 0
    by true n = absurd (n refl)
    by false n = refl

module _ (s : List ℕ) (size : 0 < capacity (length s)) where
  abbrev cap : ℕ
  cap = capacity (length s)

  taken : (load_reply visits s).number ≡ 0
  taken = (taken_anywhere visits s size visits_taken).0

  plan_is : plan visits s taken ≡ Visits.streams
  plan_is = ap (λ (l : ℕ). declared (capacity l) visits) (load_length visits s) ∙ (taken_anywhere visits s size visits_taken).1 ∙ visits_declared

  -- demands 2 and 3 of any calls on the loaded state
  holds : (cs : List Call) → AllTyped cs → Inside Visits.streams cs (seen_by (load_reply visits s).buffer cs) (left_by (load_reply visits s).buffer cs)
  holds cs h = subst (λ (ds : List Declared). Inside ds cs (seen_by (load_reply visits s).buffer cs) (left_by (load_reply visits s).buffer cs)) plan_is (load_then visits s taken cs h)

  shape_of : (cs : List Call) → AllTyped cs → Shape Visits.streams (after cs (loaded Visits.streams))
  shape_of cs h = let x = holds cs h in shape Visits.streams (rules_keep Visits.streams x.rules) cs h x.claim.solution x.claim.solves

  -- runs and collects print events of stream 5 alone
  quiet_plain : (pre cs : List Call) → AllTyped pre → AllTyped cs → others_of cs ≡ [] → AllPlain 5 (seen_by (left_by (load_reply visits s).buffer pre) cs)
  unfolding seen_by others_of
  quiet_plain pre [] h k e = tt
  quiet_plain pre (reading a t v ∷ cs) h k e = let z : ◌≡◌ {A = ℕ} 0 1 = cc in absurd (omega arith)
  quiet_plain pre (progress a y ∷ cs) h k e = let z : ◌≡◌ {A = ℕ} 0 1 = cc in absurd (omega arith)
  quiet_plain pre (moving a ∷ cs) h k e = let z : ◌≡◌ {A = ℕ} 0 1 = cc in absurd (omega arith)
  quiet_plain pre (running n ∷ cs) h k e =
      (tt, subst (λ (b : List ℕ). AllPlain 5 (seen_by b cs)) (after_one (load_reply visits s).buffer pre (running n)) (quiet_plain (pre ++ running n ∷ []) cs (typed_append pre (running n ∷ []) h (k.0, tt)) k.1 e))
  quiet_plain pre (collecting i ∷ cs) h k e = (
    λ q.
        let K = after pre (loaded Visits.streams) in
        only_output i (rw ((shape_of pre h).outs i) at (collect_output i K (rw ((holds pre h).answers (collecting i)) at q))),
    subst (λ (b : List ℕ). AllPlain 5 (seen_by b cs)) (after_one (load_reply visits s).buffer pre (collecting i)) (quiet_plain (pre ++ collecting i ∷ []) cs (typed_append pre (collecting i ∷ []) h (k.0, tt)) k.1 e),
  )

  fresh_fine : Bytes (load_reply visits s).buffer
  unfolding seen_by left_by
  fresh_fine = let x = holds [] tt in rw x.bytes (state_bytes (length (load_reply visits s).buffer) (after [] (loaded Visits.streams)))

  -- calls on the loaded state: the buffer that they leave, to where the input is known, its accepted readings, what is printed
  record Begun (b : List ℕ) (y : ℕ) (got : List Event) (w : List ℕ) : Type 0 where
    calls : List Call
    typed : AllTyped calls
    buffer : b ≡ left_by (load_reply visits s).buffer calls
    knowing : known 0 (seen_by (load_reply visits s).buffer calls) ≡ y
    accepting : accepted 0 (seen_by (load_reply visits s).buffer calls) ≡ got
    plain : AllPlain 5 (seen_by (load_reply visits s).buffer calls)
    lines : w ≡ printed_of (seen_by (load_reply visits s).buffer calls)

  begun : Begun (load_reply visits s).buffer 0 [] []
  unfolding seen_by left_by known_from accepted printed_of
  begun = record { calls = []; typed = tt; buffer = refl; knowing = refl; accepting = refl; plain = tt; lines = refl }

  -- "runs to rest, collects all outputs"
  settled : {b : List ℕ} {y : ℕ} {got : List Event} {w v t : List ℕ} → Begun b y got w → Fine b → Prints cap start b v Rest t → Begun t y got (w ++ v) × Still cap t
  settled {b} {y} {got} x f p =
      let m = prints_made (let h = capacity_few (length s) in omega arith) p f tt in
      let f0 = (load_reply visits s).buffer in
      let made = m.0 in
      let same = seen_append f0 x.calls made.calls in (
        record {
          calls = x.calls ++ made.calls;
          typed = typed_append x.calls made.calls x.typed made.typed;
          buffer = made.buffer ∙ ap (λ (l : List ℕ). left_by l made.calls) x.buffer ∙ sym (buffer_append f0 x.calls made.calls);
          knowing = ap (known 0) same ∙ known_append 0 0 (seen_by f0 x.calls) (seen_by (left_by f0 x.calls) made.calls)
              ∙ quiet_known (known 0 (seen_by f0 x.calls)) 0 (left_by f0 x.calls) made.calls made.offered ∙ x.knowing;
          accepting = ap (accepted 0) same ∙ accepted_append 0 (seen_by f0 x.calls) (seen_by (left_by f0 x.calls) made.calls)
              ∙ ap₂ ◌++◌ x.accepting (quiet_accepted 0 (left_by f0 x.calls) made.calls made.offered) ∙ append-nil got;
          plain = subst (AllPlain 5) (sym same) (plain_append 5 (seen_by f0 x.calls) (seen_by (left_by f0 x.calls) made.calls) x.plain (quiet_plain x.calls made.calls x.typed made.typed made.offered));
          lines = ap₂ ◌++◌ x.lines (made.lines ∙ ap (λ (l : List ℕ). printed_of (seen_by l made.calls)) x.buffer) ∙ sym (printed_append f0 x.calls made.calls);
        },
        m.1,
      )

  at_rest : {b : List ℕ} {y : ℕ} {got : List Event} {w : List ℕ} (x : Begun b y got w) → Still cap b → AtRest Visits.streams (next_number Visits.streams x.calls)
  at_rest x q = still_rest cap Visits.streams x.calls (let h = capacity_least (length s) size in omega arith) (holds x.calls x.typed) x.typed (subst (Still cap) x.buffer q)

  behind : (cs : List Call) → FurthestBehind Visits.streams (seen Visits.streams cs) 0
  behind cs = record { is_input = (omega arith, tt); least = λ j h. rw (only_input j h) (omega arith) }

  -- a reading that comes no earlier than the input is known to is accepted
  offers : {b : List ℕ} {y : ℕ} {got : List Event} {w : List ℕ} → Begun b y got w → Still cap b → (t : ℕ) (v : ℤ) → y ≤ t → Typed (reading 0 t v)
      → ((reply (reading 0 t v) b).number ≡ 0) × Begun (reply (reading 0 t v) b).buffer (suc t) (got ++ ev t v ∷ []) w
  offers {b} {y} {got} {w} x q t v h k = (number_0, after_offer)
    where
      f0 : List ℕ
      f0 = (load_reply visits s).buffer

      H : Inside Visits.streams x.calls (seen_by (load_reply visits s).buffer x.calls) (left_by (load_reply visits s).buffer x.calls)
      H = holds x.calls x.typed

      bound_is : y ≡ (cell_at (after x.calls (loaded Visits.streams)) 0).bound
      bound_is =
          sym x.knowing ∙ ap (known 0) H.logged
          ∙ known_is Visits.streams (rules_keep Visits.streams H.rules) x.calls x.typed H.claim.solution H.claim.solves 0 tt

      number_0 : (reply (reading 0 t v) b).number ≡ 0
      number_0 =
          ap (λ (l : List ℕ). (reply (reading 0 t v) l).number) x.buffer ∙ ap (λ (r : Reply). r.number) (H.answers (reading 0 t v))
          ∙ offer_done t v (after x.calls (loaded Visits.streams)) (ap is_input ((shape_of x.calls x.typed).eqns 0)) (omega (arith, bound_is)) (λ e. H.claim.demand3.space (at_rest x q) 0 (behind x.calls) t v (reading_number 0 t v (after x.calls (loaded Visits.streams)) ∙ e))

      seen_one : seen_by (left_by f0 x.calls) (reading 0 t v ∷ []) ≡ seen_in (reading 0 t v) (reply (reading 0 t v) b) ∷ []
      seen_one = unfold seen_by in ap (λ (l : List ℕ). seen_in (reading 0 t v) (reply (reading 0 t v) l) ∷ []) (sym x.buffer)

      same : seen_by f0 (x.calls ++ reading 0 t v ∷ []) ≡ seen_by f0 x.calls ++ (seen_in (reading 0 t v) (reply (reading 0 t v) b) ∷ [])
      same = seen_append f0 x.calls (reading 0 t v ∷ []) ∙ ap (λ (l : List Seen). seen_by f0 x.calls ++ l) seen_one

      after_offer : Begun (reply (reading 0 t v) b).buffer (suc t) (got ++ ev t v ∷ []) w
      after_offer =
          record {
            calls = x.calls ++ reading 0 t v ∷ [];
            typed = typed_append x.calls (reading 0 t v ∷ []) x.typed (k, tt);
            buffer = ap (λ (l : List ℕ). (reply (reading 0 t v) l).buffer) x.buffer ∙ sym (after_one f0 x.calls (reading 0 t v));
            knowing = ap (known 0) same ∙ known_append 0 0 (seen_by f0 x.calls) (seen_in (reading 0 t v) (reply (reading 0 t v) b) ∷ []) ∙ (unfold known_from in rw number_0);
            accepting = ap (accepted 0) same ∙ accepted_append 0 (seen_by f0 x.calls) (seen_in (reading 0 t v) (reply (reading 0 t v) b) ∷ []) ∙ ap₂ ◌++◌ x.accepting (unfold accepted in rw number_0);
            plain = subst (AllPlain 5) (sym same) (plain_append 5 (seen_by f0 x.calls) (seen_in (reading 0 t v) (reply (reading 0 t v) b) ∷ []) x.plain (number_0, tt));
            lines = x.lines ∙ sym (ap printed_of same ∙ nothing_printed);
          }
        where
          nothing_printed : printed_of (seen_by f0 x.calls ++ (seen_in (reading 0 t v) (reply (reading 0 t v) b) ∷ [])) ≡ printed_of (seen_by f0 x.calls)
          nothing_printed = printed_last (seen_by f0 x.calls) (seen_in (reading 0 t v) (reply (reading 0 t v) b)) (rw number_0)

  -- at rest after both visits all counts have been handed out
  counted : {b w : List ℕ} → Begun b 6 Visits.visits w → Still cap b → w ≡ lines_of 5 Visits.counts
  counted {b} {w} x q = x.lines ∙ printed_handed 5 (seen_by f0 x.calls) x.plain ∙ ap (λ (l : List Seen). lines_of 5 (handed 5 l)) H.logged ∙ ap (lines_of 5) all_handed
    where
      f0 : List ℕ
      f0 = (load_reply visits s).buffer

      H : Inside Visits.streams x.calls (seen_by (load_reply visits s).buffer x.calls) (left_by (load_reply visits s).buffer x.calls)
      H = holds x.calls x.typed

      S : Streams
      S = H.claim.solution

      read : (t : ℕ) → found (accepted 0 (log x.calls (loaded Visits.streams))) t ≡ found Visits.visits t
      read t = ap (λ (l : List Event). found l t) (ap (accepted 0) (sym H.logged) ∙ x.accepting)

      is_output_lem : IsOutput Visits.streams 5
      is_output_lem = tt

      known_6 : known 0 (log x.calls (loaded Visits.streams)) ≡ 6
      known_6 = ap (known 0) (sym H.logged) ∙ x.knowing

      begins : Beginning (handed 5 (log x.calls (loaded Visits.streams))) Visits.counts
      begins =
          subst (Beginning (handed 5 (log x.calls (loaded Visits.streams)))) (Visits.counts_all (readings Visits.streams x.calls) S H.claim.solves read)
          (H.claim.demand3.beginning 5 is_output_lem)

      complete : Beginning Visits.counts (handed 5 (log x.calls (loaded Visits.streams)))
      complete =
          subst (λ (l : List Event). Beginning l (handed 5 (log x.calls (loaded Visits.streams))))
          (ap (events (S 5)) known_6 ∙ Visits.counts_known (readings Visits.streams x.calls) S H.claim.solves read)
          (H.claim.demand3.complete (at_rest x q) 0 (behind x.calls) 5 is_output_lem)

      all_handed : handed 5 (log x.calls (loaded Visits.streams)) ≡ Visits.counts
      all_handed = between begins complete

-- ## The whole

visits_lines : Lines trace (Reading 0 3 (pos 7) ∷ Reading 0 5 (pos 7) ∷ []) []
unfolding line input_after stamp_after bound_after value_after signed whole scan skip
visits_lines = more refl (more refl none)

replayed : (s : List ℕ) → 0 < capacity (length s) → {w t : List ℕ} → Replays (capacity (length s)) (load_reply visits s).buffer (Reading 0 3 (pos 7) ∷ Reading 0 5 (pos 7) ∷ []) w t → w ≡ lines_of 5 Visits.counts
replayed s size (goes {w = w₀} {t = t₀} x₀ (goes {w = w₁} {t = t₁} x₁ (ends {w = w₂} x₂))) =
    let a = settled s size (begun s size) (inl (fresh_fine s size)) x₀ in
    let b = offers s size a.0 a.1 3 (pos 7) (omega arith) (omega arith, omega arith, omega arith) in
    let c = settled s size b.1 (reply_fine (reading 0 3 (pos 7)) t₀) x₁ in
    let d = offers s size c.0 c.1 5 (pos 7) (omega arith) (omega arith, omega arith, omega arith) in
    let e = settled s size d.1 (reply_fine (reading 0 5 (pos 7)) t₁) x₂ in
    rw (b.0, d.0, append-nil w₀, append-nil w₁) (sym (append_assoc w₀ w₁ w₂) ∙ counted s size e.0 e.1)

pub example_prints : (s : List ℕ) → 0 < capacity (length s) → {w t : List ℕ} → Printed visits trace s w t → w ≡ printed
example_prints s size (refused e) = let z = taken s size in let q : ◌≡◌ {A = ℕ} 0 1 = cc in absurd (omega arith)
example_prints s size (played {rs} {w = w} {t = t} {v = v} e l x m) =
    let o = lines_once l m visits_lines end in
    let y : Replays (capacity (length s)) (load_reply visits s).buffer (Reading 0 3 (pos 7) ∷ Reading 0 5 (pos 7) ∷ []) w t = rw o.0 at x in
    ap₂ ◌++◌ (replayed s size y) o.1 ∙ shown
  where
    shown : lines_of 5 Visits.counts ++ [] ≡ printed
    shown = unfold lines_of event_text digits in refl

-- the document's bytes are what is printed
pub example_printed : (s : List ℕ) → 0 < capacity (length s) → (t : List ℕ) × Printed visits trace s printed t
example_printed s size =
    let x = printed_exists visits trace s in
    (x.1, subst (λ (w : List ℕ). Printed visits trace s w x.1) (example_prints s size x.2) x.2)
