-- A trace that is in order is taken whole: before each record the replay is at rest, so its offer is done.
use Prim.Native.Nat.{ℕ, suc, ◌^◌, ◌≤◌}
use mathlib.Core.Path.{◌≡◌, refl, sym, ap, ap₂, ◌∙◌, subst}
use mathlib.Core.Logic.{inl}
use mathlib.Core.Bool.{Bool, true, false}
use mathlib.Core.List.{List, [], ◌∷◌, ◌++◌, map, append-nil, append_assoc}
use native.Mathlib.Omega.{arith}
use lib.Dec.{leb}
use lib.IntN.{ℤ}
use lib.ListN.{length}
use borrow.Author.Tests.{le-ltb}
use Rattle.le.specs.Bytes.{Bytes}
use Rattle.meaning.specs.Plan.{eqn_at, is_input}
use Rattle.meaning.specs.Events.{ev, horizon}
use Rattle.meaning.proofs.Tests.{true_is}
use Rattle.machine.specs.State.{Declared, State, cell_at, room, declared_plan}
use Rattle.machine.specs.Step.{raise}
use Rattle.machine.specs.Calls.{Call, reading, progress, arrivals, done, unless, offer_reading, offer_progress, call}
use Rattle.runs.specs.Seen.{bound_of, Typed, AllTyped, accepted, known}
use Rattle.runs.specs.Demand3.{IsInput, AtRest}
use Rattle.runs.specs.Claim.{Keeps, final, seen, next_number}
use Rattle.runs.proofs.Claimed.{shape, known_is}
use Rattle.operators.specs.Limits.{capacity}
use Rattle.operators.proofs.Sizes.{capacity_few}
use Rattle.plan.specs.Rules.{declared}
use Rattle.calls.specs.Reply.{Reply, reply, left_by}
use Rattle.engine.specs.Load.{load_reply}
use Rattle.histories.specs.Demands.{seen_in}
use Rattle.histories.specs.Inside.{Inside}
use Rattle.engine.proofs.Loads.{load_length}
use Rattle.histories.proofs.Whole.{rules_keep, seen_by, load_then}
use Rattle.trace.specs.declared.Record.{Record}
use Rattle.trace.specs.declared.Record.TheVariants.{Reading, Progress}
use Rattle.replaying.specs.declared.Place.TheVariants.{Rest}
use Rattle.replaying.specs.Replay.{call_of, refusal, Prints, start}
use Rattle.replaying.specs.Session.{Replays, ends, goes, line_in, printed_of, other_in, others_of}
use Rattle.replaying.specs.Whole.{Lines, end, Printed, refused, played}
use Rattle.calls.proofs.Bytes.{state_bytes}
use Rattle.replaying.proofs.Bytes.{Fine, reply_fine}
use Rattle.replaying.proofs.Made.{buffer_append, printed_append, offers_append, typed_append, Made, made_one, Still, prints_made}
use Rattle.replaying.proofs.Told.{still_rest}
use Rattle.replaying.proofs.True.{lines_typed}
use Rattle.replaying.proofs.Once.{lines_once}
use Rattle.visits.proofs.Quiet.{seen_append}
use Rattle.ordered.specs.Ordered.{Near, Ordered, InOrder, readings_of, bound_from, DoneIn, OffersDone, EventLines, Taken}
use Rattle.ordered.proofs.Space.{near_space}
use Rattle.ordered.proofs.Lists.{done_append, quiet_done, done_accepted, done_known, bound_more, done_lines}

-- ## One offer on a state

-- an input, not below the bound, and with space
reading_done : (s t : ℕ) (v : ℤ) (M : State) → is_input (cell_at M s).eqn ≡ true → (cell_at M s).bound ≤ t → ((call (reading s t v) M).number ≡ 9 → ⊥) → (call (reading s t v) M).number ≡ 0
unfolding call offer_reading
reading_done s t v M i h = rw (i, le-ltb t (cell_at M s).bound h) (by (leb room (length (cell_at M s).held)))
  where
    by : (b : Bool) → ((unless b 9 M (done (arrivals s (ev t v ∷ [])) (raise s (suc t) (ev t v ∷ []) M))).number ≡ 9 → ⊥) → (unless b 9 M (done (arrivals s (ev t v ∷ [])) (raise s (suc t) (ev t v ∷ []) M))).number ≡ 0
    by true n = absurd (n refl)
    by false n = refl

progress_done : (s y : ℕ) (M : State) → is_input (cell_at M s).eqn ≡ true → y ≤ horizon → (cell_at M s).bound ≤ y → (call (progress s y) M).number ≡ 0
unfolding call offer_progress
progress_done s y M i h k = rw (i, le-ltb horizon y h, le-ltb y (cell_at M s).bound k)

-- ## On a buffer that a load has filled, and that is gone through to n streams

module _ (ds : List Declared) (f : List ℕ) (n : ℕ) (most : n ≤ 2 ^ 32) (few : length ds ≤ n) (holds : (cs : List Call) → AllTyped cs → Inside ds cs (seen_by f cs) (left_by f cs)) where
  -- calls with these offers, all done, what is printed of them, and the buffer that they leave
  record Played (os : List Call) (w b : List ℕ) : Type 0 where
    calls : List Call
    typed : AllTyped calls
    offered : others_of calls ≡ os
    lines : w ≡ printed_of (seen_by f calls)
    buffer : b ≡ left_by f calls
    taken : OffersDone (seen_by f calls)

  begun : Played [] [] f
  unfolding seen_by left_by printed_of others_of
  begun = record { calls = []; typed = tt; offered = refl; lines = refl; buffer = refl; taken = tt }

  -- some calls more
  further : {os ps qs : List Call} {w v b t : List ℕ} (x : Played os w b) (m : Made b ps v t) → os ++ ps ≡ qs → OffersDone (seen_by b m.calls) → Played qs (w ++ v) t
  further x m e d =
      let q = x.buffer in
      record {
        calls = x.calls ++ m.calls;
        typed = typed_append x.calls m.calls x.typed m.typed;
        offered = offers_append x.calls m.calls ∙ ap₂ ◌++◌ x.offered m.offered ∙ e;
        lines = ap₂ ◌++◌ x.lines (m.lines ∙ ap (λ (l : List ℕ). printed_of (seen_by l m.calls)) q) ∙ sym (printed_append f x.calls m.calls);
        buffer = m.buffer ∙ ap (λ (l : List ℕ). left_by l m.calls) q ∙ sym (buffer_append f x.calls m.calls);
        taken = subst OffersDone (sym (seen_append f x.calls m.calls))
            (done_append (seen_by f x.calls) (seen_by (left_by f x.calls) m.calls) x.taken (subst (λ (l : List ℕ). OffersDone (seen_by l m.calls)) q d));
      }

  -- "runs to rest, collects all outputs"
  settled : {os : List Call} {w b v t : List ℕ} → Played os w b → Fine b → Prints n start b v Rest t → Played os (w ++ v) t × Still n t
  settled {os} {b = b} x g p =
      let m = prints_made most p g tt in
      (further x m.0 (append-nil os) (quiet_done b m.0.calls m.0.offered), m.1)

  -- an offer that is done
  offers : {os : List Call} {w b : List ℕ} → Played os w b → (c : Call) → Typed c → DoneIn c (reply c b).number → Played (os ++ other_in c) (w ++ line_in c (seen_in c (reply c b))) (reply c b).buffer
  unfolding made_one seen_by
  offers {b = b} x c h d = further x (made_one b c h) refl (d, tt)

  -- at rest
  module _ {os : List Call} {w b : List ℕ} (x : Played os w b) (q : Still n b) where
    abbrev M : State
    M = final ds x.calls

    H : Inside ds x.calls (seen_by f x.calls) (left_by f x.calls)
    H = holds x.calls x.typed

    keeps : Keeps ds
    keeps = rules_keep ds H.rules

    rest : AtRest ds (next_number ds x.calls)
    rest = still_rest n ds x.calls few H x.typed (subst (Still n) x.buffer q)

    number_is : (c : Call) → (reply c b).number ≡ (call c M).number
    number_is c = ap (λ (l : List ℕ). (reply c l).number) x.buffer ∙ ap (λ (r : Reply). r.number) (H.answers c)

    input_is : (s : ℕ) → IsInput ds s → is_input (cell_at M s).eqn ≡ true
    input_is s i = ap is_input ((shape ds keeps x.calls x.typed H.claim.solution H.claim.solves).eqns s) ∙ true_is (is_input (eqn_at (declared_plan ds) s)) i.1

    -- each input is known as far as the offers say
    module _ (to : ℕ → ℕ) (is : (i : ℕ) → bound_from 0 i os ≡ to i) where
      knows : (i : ℕ) → known i (seen ds x.calls) ≡ to i
      knows i = ap (known i) (sym H.logged) ∙ done_known 0 i f x.calls x.taken ∙ ap (bound_from 0 i) x.offered ∙ is i

      bound_is : (s : ℕ) → IsInput ds s → to s ≡ (cell_at M s).bound
      bound_is s i = sym (knows s) ∙ known_is ds keeps x.calls x.typed H.claim.solution H.claim.solves s i.1

      reading_taken : (s t : ℕ) (v : ℤ) → IsInput ds s → to s ≤ t → Near ds to s → (reply (reading s t v) b).number ≡ 0
      reading_taken s t v i h near =
          number_is (reading s t v)
          ∙ reading_done s t v M (input_is s i) (omega (arith, bound_is s i)) (near_space ds keeps x.calls x.typed H.claim.solution H.claim.solves rest s i (λ j k. omega (arith, near j k, knows s, knows j)) t v)

      progress_taken : (s y : ℕ) → IsInput ds s → to s ≤ y → y ≤ horizon → (reply (progress s y) b).number ≡ 0
      progress_taken s y i h k = number_is (progress s y) ∙ progress_done s y M (input_is s i) k (omega (arith, bound_is s i))

  joined : (os : List Call) (c : Call) (os' : List Call) (w w₀ w₁ v : List ℕ) {u : List ℕ} → Played ((os ++ c ∷ []) ++ os') (((w ++ w₀) ++ w₁) ++ v) u → Played (os ++ c ∷ os') (w ++ (w₀ ++ w₁ ++ v)) u
  joined os c os' w w₀ w₁ v x = rw (sym (append_assoc w (w₀ ++ w₁) v), sym (append_assoc w w₀ w₁), sym (append_assoc os (c ∷ []) os')) x

  -- record by record
  goes_on : {os : List Call} {w b : List ℕ} {rs : List Record} {v u : List ℕ} {to : ℕ → ℕ} → Replays n b rs v u → Ordered ds to rs → ((i : ℕ) → bound_from 0 i os ≡ to i) → AllTyped (map call_of rs) → Played os w b → Fine b
      → Played (os ++ map call_of rs) (w ++ v) u × Still n u
  goes_on {os} {w} {v = v} {u = u} (ends p) o is h x g =
      let z = settled x g p in
      (subst (λ (l : List Call). Played l (w ++ v) u) (sym (append-nil os)) z.0, z.1)
  goes_on {os} {w} {to = to} (goes {w = w₀} {t = t₀} {r = Reading s t v} {rs = rs} {v = v₀} p y) o is h x g =
      let z = settled x g p in
      let c = reading s t v in
      let d = reading_taken z.0 z.1 to is s t v o.0 o.1 o.2 in
      let k = goes_on {os = os ++ c ∷ []} y o.3 (λ j. bound_more 0 j os c ∙ ap (bound_of j c) (is j)) h.1 (offers z.0 c h.0 d) (reply_fine c t₀) in
      (joined os c (map call_of rs) w w₀ (refusal (reply c t₀).number) v₀ k.0, k.1)
  goes_on {os} {w} {to = to} (goes {w = w₀} {t = t₀} {r = Progress s t} {rs = rs} {v = v₀} p y) o is h x g =
      let z = settled x g p in
      let c = progress s t in
      let d = progress_taken z.0 z.1 to is s t o.0 o.1 o.2 in
      let k = goes_on {os = os ++ c ∷ []} y o.3 (λ j. bound_more 0 j os c ∙ ap (bound_of j c) (is j)) h.1 (offers z.0 c h.0 d) (reply_fine c t₀) in
      (joined os c (map call_of rs) w w₀ (refusal (reply c t₀).number) v₀ k.0, k.1)

  -- the whole list
  taken_whole : (rs : List Record) {w u : List ℕ} → Replays n f rs w u → InOrder ds rs → AllTyped (map call_of rs) → Fine f → Taken ds rs w
  taken_whole rs p o h g =
      let z = goes_on p o (λ i. refl) h begun g in
      let x = z.0 in
      let K = holds x.calls x.typed in
      let same = K.logged in
      record {
        told = record {
          calls = x.calls;
          typed = x.typed;
          offers = x.offered;
          lines = x.lines ∙ ap printed_of same;
          claim = K.claim;
          rest = rest x z.1;
        };
        done = subst OffersDone same x.taken;
        readings = λ i. ap (accepted i) (sym same) ∙ done_accepted i f x.calls x.taken ∙ ap (readings_of i) x.offered;
        bounds = λ i. ap (known i) (sym same) ∙ done_known 0 i f x.calls x.taken ∙ ap (bound_from 0 i) x.offered;
        lines = subst EventLines (sym x.lines) (done_lines (seen_by f x.calls) x.taken);
      }

-- ## The whole

-- Of every plan that load takes, on every buffer: a list of records in order is taken whole.
pub replay_taken : (plan s : List ℕ) → (load_reply plan s).number ≡ 0 → (rs : List Record) → AllTyped (map call_of rs) → InOrder (declared (capacity (length s)) plan) rs
    → {w t : List ℕ} → Replays (capacity (length s)) (load_reply plan s).buffer rs w t → Taken (declared (capacity (length s)) plan) rs w
unfolding seen_by left_by
replay_taken plan s e rs h o p = taken_whole (declared (capacity (length s)) plan) (load_reply plan s).buffer (capacity (length s)) (omega (arith, capacity_few (length s))) few holds rs p o h (inl fine)
  where
    l : capacity (length (load_reply plan s).buffer) ≡ capacity (length s)
    l = ap capacity (load_length plan s)

    holds : (cs : List Call) → AllTyped cs → Inside (declared (capacity (length s)) plan) cs (seen_by (load_reply plan s).buffer cs) (left_by (load_reply plan s).buffer cs)
    holds cs k = subst (λ (c : ℕ). Inside (declared c plan) cs (seen_by (load_reply plan s).buffer cs) (left_by (load_reply plan s).buffer cs)) l (load_then plan s e cs k)

    fresh : Inside (declared (capacity (length s)) plan) [] [] (load_reply plan s).buffer
    fresh = holds [] tt

    few : length (declared (capacity (length s)) plan) ≤ capacity (length s)
    few = omega (arith, fresh.rules.few, l)

    fine : Bytes (load_reply plan s).buffer
    fine = rw fresh.bytes (state_bytes (length (load_reply plan s).buffer) (final (declared (capacity (length s)) plan) []))

-- And of its text, that has these lines and no others: no line of it is refused, and what is printed are events alone.
pub ordered_printed : {plan trace s w t : List ℕ} → (load_reply plan s).number ≡ 0 → (rs : List Record) → Lines trace rs [] → InOrder (declared (capacity (length s)) plan) rs → Printed plan trace s w t → Taken (declared (capacity (length s)) plan) rs w
ordered_printed e rs l o (refused q) = let z : ◌≡◌ {A = ℕ} 0 1 = cc in absurd (omega arith)
ordered_printed {plan} {s = s} e rs l o (played {w = w} {t = t} q m p x) =
    let g = lines_once m x l end in
    subst (Taken (declared (capacity (length s)) plan) rs) (sym (append-nil w) ∙ ap (λ (v : List ℕ). w ++ v) (sym g.1))
    (replay_taken plan s e rs (lines_typed l) o (subst (λ (k : List Record). Replays (capacity (length s)) (load_reply plan s).buffer k w t) g.0 p))
