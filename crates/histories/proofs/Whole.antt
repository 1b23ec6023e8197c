-- The whole theorem, over bytes: any history of loads, calls, register writes, copies into a longer buffer and copies put back, on a
-- lent buffer.
use Prim.Native.Nat.{ℕ, zero, suc, ◌+◌, ◌*◌, ◌≤◌, ◌<◌}
use mathlib.Core.Path.{◌≡◌, refl, sym, ap, ap₂, ◌∙◌, subst}
use mathlib.Core.Bool.{Bool, true, false, cond}
use Rattle.std.specs.Prelude.{Option, None, Some}
use mathlib.Core.List.{List, [], ◌∷◌, ◌++◌, append-nil, append_assoc}
use native.Mathlib.Omega.{arith}
use lib.Dec.{eqb, lit<, lit≤}
use lib.ListN.{length, length-append, length-map, get_or, take, drop}
use lib.Seq.{drop-drop}
use borrow.Author.Tests.{eqb-true, eqb-false, le-ltb}
use Rattle.meaning.specs.Plan.{eqn_at}
use Rattle.meaning.specs.Events.{Streams, horizon}
use Rattle.meaning.specs.Table.{Solves}
use Rattle.machine.specs.State.{Declared, declared_plan, declares, declared_in, State, cell_at, loaded}
use Rattle.machine.proofs.SamePlan.{loaded_plan, call_plan}
use Rattle.machine.specs.Calls.{Call, reading, progress, moving, running, collecting, call, no_counts, missing}
use Rattle.runs.specs.Seen.{Seen, Typed, AllTyped}
use Rattle.runs.specs.Demand3.{readings_seen, AtRest, Demand3}
use Rattle.runs.specs.Inside.{missed_as}
use Rattle.runs.specs.History.{seen_of, after, log}
use Rattle.runs.specs.Claim.{Keeps, final, next_number, Claim, RestReached}
use Rattle.runs.proofs.Whole.{whole_runs, rest_reached}
use Rattle.le.specs.Bytes.{Bytes, le, part}
use Rattle.le.specs.Layout.{offset}
use Rattle.le.proofs.Fields.{part_part}
use Rattle.layout.specs.Record.{bound_f}
use Rattle.layout.proofs.Laws.{num_get}
use Rattle.encoding.specs.Back.{state_of}
use Rattle.encoding.proofs.Cells.{state_length_lem}
use Rattle.valid.specs.Valid.{count}
use Rattle.readers.proofs.States.{row_bound}
use Rattle.counts.specs.Missing.{missing_reply}
use Rattle.counts.proofs.Cases.{reply_state}
use Rattle.operators.specs.Limits.{most_streams, long_length, capacity}
use Rattle.operators.proofs.Sizes.{capacity_few, long_room}
use Rattle.encoding.specs.View.{bytes_of}
use Rattle.encoding.specs.Sound.{Sound}
use Rattle.preserve.proofs.Calls.{Offered, call_sound}
use Rattle.roundtrip.proofs.Whole.{bytes_length}
use Rattle.roundtrip.proofs.In.{bytes_are, bytes_in}
use Rattle.render.specs.Render.{render}
use Rattle.writing.specs.Text.{given, plan_text}
use Rattle.writing.proofs.Cases.{text_state}
use Rattle.plan.specs.Rules.{number, declared}
use Rattle.plan.specs.Taken.{KeepsRules}
use Rattle.plan.proofs.Taken.{taken_rendered}
use Rattle.plan.proofs.Rendered.{arguments_at}
use Rattle.plan.proofs.More.{rules_more}
use Rattle.load.proofs.Fresh.{loaded_sound}
use Rattle.calls.specs.Reply.{Reply, reply_of, reply, left_by}
use Rattle.calls.proofs.Replies.{call_15}
use Rattle.calls.proofs.Bytes.{state_bytes}
use Rattle.widen.specs.Widen.{widen_reply}
use Rattle.widen.proofs.Spread.{sound_more}
use Rattle.widen.proofs.Cases.{widen_done}
use Rattle.registers.specs.Write.{call_in, write, starts}
use Rattle.registers.proofs.Sequence.{one_write}
use Rattle.engine.specs.Load.{load_reply}
use Rattle.histories.specs.Demands.{Act, load, make, ask_text, ask_missing, widen, write_to, put_back, Course, Point, seen_in, course_of_call, shown_in, acted, point_from, point_after, TypedAct, AllTypedActs, RestAhead, bound_in, Demands, DemandsAt}
use Rattle.histories.specs.Inside.{calls_of, Inside, InsideAt}
use Rattle.calls.proofs.Answers.{reply_machine}
use Rattle.engine.proofs.Loads.{load_done, load_refused, load_length}
use Rattle.histories.proofs.Shown.{shown_is, typed_call}

-- ---- where a bound lies

bound_lies : (n : ℕ) (b : List ℕ) (s : ℕ) → s < n → bound_in b s ≡ (cell_at (state_of n b) s).bound
unfolding offset
bound_lies n b s h =
    sym
    (row_bound s n b (part b (s * 256) 256) s h refl
    ∙ num_get (part b (s * 256) 256) bound_f (lit< tt) (lit≤ tt)
    ∙ ap le (part_part 8 16 256 (drop (s * 256) b) (lit≤ tt) ∙ ap (take 8) (drop-drop 16 (s * 256) b)))

-- ---- a plan that keeps the written rules is one that the theorem on runs speaks of

pub rules_keep : {cap : ℕ} (ds : List Declared) → KeepsRules cap ds → Keeps ds
rules_keep ds k = record { arguments = λ s. arguments_at (length ds) ds s k.each; acyclic = k.clear }

-- ---- one call more

after_more : (cs : List Call) (c : Call) (M : State) → after (cs ++ c ∷ []) M ≡ (call c (after cs M)).state
unfolding after
after_more [] c M = refl
after_more (d ∷ cs) c M = after_more cs c (call d M).state

log_more : (cs : List Call) (c : Call) (M : State) → log (cs ++ c ∷ []) M ≡ log cs M ++ seen_of c (call c (after cs M)) ∷ []
unfolding after log
log_more [] c M = refl
log_more (d ∷ cs) c M = ap (λ (l : List Seen). seen_of d (call d M) ∷ l) (log_more cs c (call d M).state)

after_plan : (cs : List Call) (M : State) → declared_in (after cs M) ≡ declared_in M
unfolding after
after_plan [] M = refl
after_plan (c ∷ cs) M = after_plan cs (call c M).state ∙ call_plan c M

typed_more : (cs : List Call) (c : Call) → AllTyped cs → Typed c → AllTyped (cs ++ c ∷ [])
typed_more [] c h t = (t, tt)
typed_more (d ∷ cs) c h t = (h.0, typed_more cs c h.1 t)

calls_more : (l : List Seen) (x : Seen) → calls_of (l ++ x ∷ []) ≡ calls_of l ++ x.made ∷ []
calls_more [] x = refl
calls_more (y ∷ l) x = ap (λ (cs : List Call). y.made ∷ cs) (calls_more l x)

pub typed_offered : (c : Call) → Typed c → Offered c
typed_offered (reading s t v) h = (omega (arith, h.1), h.2)
typed_offered (progress s y) h = tt
typed_offered (moving s) h = tt
typed_offered (running n) h = tt
typed_offered (collecting s) h = tt

-- ---- what every call keeps: the bytes b are the machine's state after the calls cs, and `seen` is what was seen of them

record Kept (ds : List Declared) (cs : List Call) (seen : List Seen) (b : List ℕ) : Type 0 where
  rules : KeepsRules (capacity (length b)) ds
  typed : AllTyped cs
  sound : Sound (capacity (length b)) (final ds cs)
  bytes : b ≡ bytes_of (length b) (final ds cs)
  logged : seen ≡ log cs (loaded ds)
  made : calls_of seen ≡ cs

-- a load that was done: the plan is read with the room that the buffer has, which stays as long as it was
start : (text b : List ℕ) (size : ℕ) → 0 < capacity size → number (capacity size) text ≡ 0 → b ≡ bytes_of size (loaded (declared (capacity size) text)) → Kept (declared (capacity (length b)) text) [] [] b
unfolding after log
start text b size l e q =
    let sized : length b ≡ size = ap length q ∙ bytes_length size (loaded (declared (capacity size) text)) (loaded_sound l (declared (capacity size) text) (taken_rendered (capacity size) text e).1) in
    fresh (rw sized l) (ap (λ (n : ℕ). number (capacity n) text) sized ∙ e) (q ∙ ap (λ (n : ℕ). bytes_of n (loaded (declared (capacity n) text))) (sym sized))
  where
    fresh : 0 < capacity (length b) → number (capacity (length b)) text ≡ 0 → b ≡ bytes_of (length b) (loaded (declared (capacity (length b)) text)) → Kept (declared (capacity (length b)) text) [] [] b
    fresh l e q =
        let k = (taken_rendered (capacity (length b)) text e).1 in
        record { rules = k; typed = tt; sound = loaded_sound l (declared (capacity (length b)) text) k; bytes = q; logged = refl; made = refl }

-- one call more, on a buffer that stays as long as it was
further : (ds : List Declared) (cs : List Call) (seen : List Seen) (b : List ℕ) (c : Call) → Typed c → Kept ds cs seen b → Kept ds (cs ++ c ∷ []) (seen ++ seen_in c (reply c b) ∷ []) (reply c b).buffer
further ds cs seen b c t k =
    let M = final ds cs in
    let size = length b in
    let r = reply_machine size c M b k.sound k.bytes in
    let m = after_more cs c (loaded ds) in
    let ok = call_sound c M (typed_offered c t) k.sound in
    let left : (reply c b).buffer ≡ bytes_of size (call c M).state = ap (λ (y : Reply). y.buffer) r in
    let sized : size ≡ length (reply c b).buffer = sym (ap length left ∙ bytes_length size (call c M).state ok) in
    record {
      rules = subst (λ (n : ℕ). KeepsRules (capacity n) ds) sized k.rules;
      typed = typed_more cs c k.typed t;
      sound = subst (λ (n : ℕ). Sound (capacity n) (after (cs ++ c ∷ []) (loaded ds))) sized (subst (Sound (capacity size)) (sym m) ok);
      bytes = left ∙ ap₂ bytes_of sized (sym m);
      logged = ap₂ (λ (l : List Seen) (y : Reply). l ++ seen_in c y ∷ []) k.logged r ∙ sym (log_more cs c (loaded ds));
      made = calls_more seen (seen_in c (reply c b)) ∙ ap (λ (l : List Call). l ++ c ∷ []) k.made;
    }

-- the same point, in a longer buffer
longer : (ds : List Declared) (cs : List Call) (seen : List Seen) (b t : List ℕ) → (widen_reply b t).number ≡ 0 → Kept ds cs seen b → Kept ds cs seen (widen_reply b t).buffer
longer ds cs seen b t z k =
    let M = final ds cs in
    let more : capacity (length b) ≤ capacity long_length = rw long_room (capacity_few (length b)) in
    let ok = sound_more (capacity (length b)) (capacity long_length) M more k.sound in
    let left : (widen_reply b t).buffer ≡ bytes_of long_length M = (widen_done b t z).buffer ∙ ap (bytes_of long_length) (bytes_in (length b) M b k.sound k.bytes) in
    let sized : long_length ≡ length (widen_reply b t).buffer = sym (ap length left ∙ bytes_length long_length M ok) in
    record {
      rules = subst (λ (n : ℕ). KeepsRules (capacity n) ds) sized (rules_more (capacity (length b)) (capacity long_length) more ds k.rules);
      typed = k.typed;
      sound = subst (λ (n : ℕ). Sound (capacity n) M) sized ok;
      bytes = left ∙ ap (λ (n : ℕ). bytes_of n M) sized;
      logged = k.logged;
      made = k.made;
    }

-- what is seen of calls made one after the other
unfoldable pub seen_by : List ℕ → List Call → List Seen
seen_by s [] = []
seen_by s (c ∷ cs) = seen_in c (reply c s) ∷ seen_by (reply c s).buffer cs

calls_kept : (more : List Call) (ds : List Declared) (cs : List Call) (seen : List Seen) (b : List ℕ) → AllTyped more → Kept ds cs seen b → Kept ds (cs ++ more) (seen ++ seen_by b more) (left_by b more)
unfolding seen_by left_by
calls_kept [] ds cs seen b t k = rw (append-nil cs, append-nil seen) k
calls_kept (c ∷ more) ds cs seen b t k =
    let x = seen_in c (reply c b) in
    rw (append_assoc cs (c ∷ []) more, append_assoc seen (x ∷ []) (seen_by (reply c b).buffer more)) at
    (calls_kept more ds (cs ++ c ∷ []) (seen ++ x ∷ []) (reply c b).buffer t.1 (further ds cs seen b c t.0 k))

-- ---- a history

-- and the text is that of the plan
abbrev KeptIn : Option Course → List ℕ → Type 0
KeptIn None b = Unit {0}
KeptIn (Some x) b = (cs : List Call) × Kept x.plan cs x.seen b × (render x.plan ≡ x.text)

abbrev KeptAt : Point → Type 0
KeptAt p = KeptIn p.course p.bytes

abbrev AllKept : List Point → Type 0
AllKept [] = Unit {0}
AllKept (p ∷ ps) = KeptAt p × AllKept ps

kept_more : (ps : List Point) (p : Point) → AllKept ps → KeptAt p → AllKept (ps ++ p ∷ [])
kept_more [] p h k = (k, tt)
kept_more (q ∷ ps) p h k = (h.0, kept_more ps p h.1 k)

kept_at : (ps : List Point) (k : ℕ) (p : Point) → AllKept ps → KeptAt p → KeptAt (get_or ps k p)
kept_at [] k p h g = g
kept_at (q ∷ ps) zero p h g = h.0
kept_at (q ∷ ps) (suc k) p h g = kept_at ps k p h.1 g

kept_act : (a : Act) (past : List Point) (p : Point) → TypedAct a → AllKept past → KeptAt p → KeptAt (acted a past p)
unfolding acted
kept_act (load text) past p t h k = by (eqb (load_reply text p.bytes).number 0) refl
  where
    by : (x : Bool) → eqb (load_reply text p.bytes).number 0 ≡ x
        → KeptIn (cond x (Some (record { text = text; plan = declared (capacity (length (load_reply text p.bytes).buffer)) text; seen = [] })) p.course) (load_reply text p.bytes).buffer
    by true e =
        let d = load_done text p.bytes (eqb-true (load_reply text p.bytes).number 0 e) in
        let b = (load_reply text p.bytes).buffer in
        let z : length b ≡ length p.bytes = load_length text p.bytes in
        ([], start text b (length p.bytes) d.2 d.0 d.1, rw z (taken_rendered (capacity (length p.bytes)) text d.0).0)
    by false e = subst (KeptIn p.course) (sym (load_refused text p.bytes (eqb-false (load_reply text p.bytes).number 0 e))) k
kept_act (make c) past p t h k = by p.course k
  where
    by : (o : Option Course) → KeptIn o p.bytes → KeptIn (course_of_call c (reply c p.bytes) o) (reply c p.bytes).buffer
    by None k = tt
    by (Some x) k = (k.0 ++ c ∷ [], further x.plan k.0 x.seen p.bytes c t k.1, k.2)
kept_act (ask_text b) past p t h k = k
kept_act (ask_missing i) past p t h k = k
kept_act (widen b) past p t h k = by (eqb (widen_reply p.bytes b).number 0) refl
  where
    moved : (widen_reply p.bytes b).number ≡ 0 → (o : Option Course) → KeptIn o p.bytes → KeptIn o (widen_reply p.bytes b).buffer
    moved z None k = tt
    moved z (Some x) k = (k.0, longer x.plan k.0 x.seen p.bytes b z k.1, k.2)

    by : (x : Bool) → eqb (widen_reply p.bytes b).number 0 ≡ x → KeptAt (cond x (record { bytes = (widen_reply p.bytes b).buffer; course = p.course }) p)
    by true e = moved (eqb-true (widen_reply p.bytes b).number 0 e) p.course k
    by false e = k
kept_act (write_to b at x) past p t h k = by (starts b at x) refl p.course k
  where
    by : (q : Bool) → starts b at x ≡ q → (o : Option Course) → KeptIn o p.bytes
        → KeptIn (cond q (course_of_call (call_in b x) (shown_in x (reply (call_in b x) p.bytes) (write p.bytes b at x)) o) o) (write p.bytes b at x).state
    by true q None k = tt
    by true q (Some y) k =
        let bytes : Bytes p.bytes = subst Bytes (sym k.1.bytes) (state_bytes (length p.bytes) (final y.plan k.0)) in
        let e = shown_is p.bytes b at x bytes q in
        let f = ((one_write p.bytes b at x).started q).1 in (
          k.0 ++ call_in b x ∷ [],
          subst (λ (m : List ℕ). Kept y.plan (k.0 ++ call_in b x ∷ []) (y.seen ++ seen_in (call_in b x) (shown_in x (reply (call_in b x) p.bytes) (write p.bytes b at x)) ∷ []) m) (sym f)
              (subst (λ (r : Reply). Kept y.plan (k.0 ++ call_in b x ∷ []) (y.seen ++ seen_in (call_in b x) r ∷ []) (reply (call_in b x) p.bytes).buffer) (sym e)
              (further y.plan k.0 y.seen p.bytes (call_in b x) (typed_call b x t) k.1)),
          k.2,
        )
    by false q o k = subst (KeptIn o) (sym ((one_write p.bytes b at x).none q)) k
kept_act (put_back n) past p t h k = kept_at past n p h k

kept_all : (acts : List Act) (past : List Point) (p : Point) → AllTypedActs acts → AllKept past → KeptAt p → KeptAt (point_from acts past p)
unfolding point_from
kept_all [] past p t h k = k
kept_all (a ∷ acts) past p t h k = kept_all acts (past ++ p ∷ []) (acted a past p) t.1 (kept_more past p h k) (kept_act a past p t.0 h k)

-- ---- with the machine

-- the next call is answered from the machine's state
next_answer : (ds : List Declared) (cs : List Call) (seen : List Seen) (b : List ℕ) → Kept ds cs seen b → (c : Call) → reply c b ≡ reply_of (length b) (call c (final ds cs))
next_answer ds cs seen b k c = reply_machine (length b) c (final ds cs) b k.sound k.bytes

next_number_lem : (ds : List Declared) (cs : List Call) (seen : List Seen) (b : List ℕ) → Kept ds cs seen b → (c : Call) → next_number ds cs c ≡ (reply c b).number
next_number_lem ds cs seen b k c = sym (ap (λ (y : Reply). y.number) (next_answer ds cs seen b k c))

-- the counts are read from the machine's state
next_counts : (ds : List Declared) (cs : List Call) (seen : List Seen) (b : List ℕ) → Kept ds cs seen b → (s : ℕ) → missing_reply s b ≡ missing s (final ds cs)
next_counts ds cs seen b k s =
    reply_state s b (bytes_are (length b) (final ds cs) b (length (final ds cs)) k.sound refl k.bytes).is_valid
    ∙ ap (missing s) (bytes_in (length b) (final ds cs) b k.sound k.bytes)

-- and the bound of a stream lies in its record
next_bound : (ds : List Declared) (cs : List Call) (seen : List Seen) (b : List ℕ) → Kept ds cs seen b → (s : ℕ) → s < length (final ds cs) → bound_in b s ≡ (cell_at (final ds cs) s).bound
next_bound ds cs seen b k s h =
    let e = bytes_in (length b) (final ds cs) b k.sound k.bytes in
    let m : s < count b = rw (sym (state_length_lem (count b) b) ∙ ap length e) h in
    bound_lies (count b) b s m ∙ ap (λ (M : State). (cell_at M s).bound) e

kept_inside : (ds : List Declared) (cs : List Call) (seen : List Seen) (b : List ℕ) → Kept ds cs seen b → Inside ds cs seen b
kept_inside ds cs seen b k = record {
  rules = k.rules;
  bytes = k.bytes;
  logged = k.logged;
  answers = next_answer ds cs seen b k;
  counts = next_counts ds cs seen b k;
  claim = whole_runs ds (rules_keep ds k.rules) cs k.typed;
}

-- ---- by what is returned

-- demand 3 and rest depend on the numbers alone
rest_numbers : (ds : List Declared) (n m : Call → ℕ) → ((c : Call) → n c ≡ m c) → AtRest ds n → AtRest ds m
rest_numbers ds n m e r = record { moved = λ s h. sym (e (moving s)) ∙ r.moved s h; collected = λ s h. sym (e (collecting s)) ∙ r.collected s h }

demand_numbers : (ds : List Declared) (seen : List Seen) (n m : Call → ℕ) (S : Streams) → ((c : Call) → n c ≡ m c) → Demand3 ds seen n S → Demand3 ds seen m S
demand_numbers ds seen n m S e d = record {
  beginning = d.beginning;
  complete = λ r. d.complete (back r);
  space = λ r i h t v q. d.space (back r) i h t v (e (reading i t v) ∙ q);
  alone = λ r. d.alone (back r);
}
  where
    back : AtRest ds m → AtRest ds n
    back = rest_numbers ds m n (λ c. sym (e c))

-- no call changes the plan, so the text of the state is that of the load
kept_text : (ds : List Declared) (cs : List Call) (seen : List Seen) (b : List ℕ) → Kept ds cs seen b → (lent : List ℕ) → plan_text b lent ≡ given (render ds) lent
kept_text ds cs seen b k lent =
    let v = (bytes_are (length b) (final ds cs) b (length (final ds cs)) k.sound refl k.bytes).is_valid in
    text_state b lent v ∙ ap (λ (l : List Declared). given (render l) lent) (ap declared_in (bytes_in (length b) (final ds cs) b k.sound k.bytes) ∙ after_plan cs (loaded ds) ∙ loaded_plan ds)

-- past the last stream
final_length : (ds : List Declared) (cs : List Call) → length (final ds cs) ≡ length ds
final_length ds cs = sym (length-map (final ds cs) declares) ∙ ap length (after_plan cs (loaded ds) ∙ loaded_plan ds)

absent_stream : (M : State) (s : ℕ) → length M ≤ s → missing s M ≡ no_counts 11
unfolding missing
absent_stream M s h = rw (le-ltb s (length M) h)

kept_demands : (x : Course) (b : List ℕ) (cs : List Call) → Kept x.plan cs x.seen b → render x.plan ≡ x.text → Demands x b
kept_demands x b cs k text =
    let keep = rules_keep x.plan k.rules in
    let c : Claim x.plan cs = whole_runs x.plan keep cs k.typed in
    let few : length x.plan ≤ most_streams = omega (arith, k.rules.few, capacity_few (length b)) in
    record {
      rules = k.rules;
      solution = c.solution;
      solves = subst (λ (l : List Seen). Solves (declared_plan x.plan) (readings_seen l) c.solution horizon) (sym k.logged) c.solves;
      only = λ S h. c.only S (subst (λ (l : List Seen). Solves (declared_plan x.plan) (readings_seen l) S horizon) k.logged h);
      demand3 =
          subst (λ (l : List Seen). Demand3 x.plan l (λ d. (reply d b).number) c.solution) (sym k.logged)
          (demand_numbers x.plan (log cs (loaded x.plan)) (next_number x.plan cs) (λ d. (reply d b).number) c.solution (next_number_lem x.plan cs x.seen b k) c.demand3);
      can_rest = rest (rest_reached x.plan keep (omega arith) cs k.typed);
      missed = λ s h.
          let l = final_length x.plan cs in
          next_counts x.plan cs x.seen b k s ∙ c.demand2.missed s h
          ∙ ap₂ (λ (l : List Seen) (y : ℕ). missed_as (eqn_at (declared_plan x.plan) s) (readings_seen l) c.solution s y) (sym k.logged) (sym (next_bound x.plan cs x.seen b k s (omega arith)));
      no_stream = λ s h. next_counts x.plan cs x.seen b k s ∙ absent_stream (final x.plan cs) s (let l = final_length x.plan cs in omega arith);
      text_back = λ lent. kept_text x.plan cs x.seen b k lent ∙ ap (λ (w : List ℕ). given w lent) text;
      never15 = λ d q. call_15 d (final x.plan cs) (next_number_lem x.plan cs x.seen b k d ∙ q);
    }
  where
    rest : RestReached x.plan cs → RestAhead x.plan b
    rest r =
        let more = r.more in
        let g = calls_kept more x.plan cs x.seen b r.typed k in
        record {
          more = more;
          quiet = r.quiet;
          typed = r.typed;
          rest = rest_numbers x.plan (next_number x.plan (cs ++ more)) (λ d. (reply d (left_by b more)).number) (next_number_lem x.plan (cs ++ more) (x.seen ++ seen_by b more) (left_by b more) g) r.rest;
        }

-- ---- the theorems

history_kept : (acts : List Act) → AllTypedActs acts → (s : List ℕ) → KeptAt (point_after acts s)
history_kept acts t s = kept_all acts [] (record { bytes = s; course = None }) t tt tt

-- Whatever loads, calls and register writes are made on a lent buffer and whatever copies are put back, whatever it held before:
-- demands 2 and 3 hold of the list since the last load that was done, by what was returned alone.
pub demands_hold : (acts : List Act) → AllTypedActs acts → (s : List ℕ) → DemandsAt (point_after acts s).course (point_after acts s).bytes
demands_hold acts t s = go (point_after acts s).course (history_kept acts t s)
  where
    go : (o : Option Course) → KeptIn o (point_after acts s).bytes → DemandsAt o (point_after acts s).bytes
    go None k = tt
    go (Some x) k = kept_demands x (point_after acts s).bytes k.0 k.1 k.2

-- The same with the machine: the bytes are its state after the calls, and demand 2 holds of it.
pub inside_holds : (acts : List Act) → AllTypedActs acts → (s : List ℕ) → InsideAt (point_after acts s).course (point_after acts s).bytes
inside_holds acts t s = go (point_after acts s).course (history_kept acts t s)
  where
    go : (o : Option Course) → KeptIn o (point_after acts s).bytes → InsideAt o (point_after acts s).bytes
    go None k = tt
    go (Some x) k =
        let b = (point_after acts s).bytes in
        let g = subst (λ (l : List Call). Kept x.plan l x.seen b) (sym k.1.made) k.1 in
        kept_inside x.plan (calls_of x.seen) x.seen b g

-- A load that is done, and any calls after it.
pub load_then : (text s : List ℕ) → (load_reply text s).number ≡ 0 → (cs : List Call) → AllTyped cs
    → Inside (declared (capacity (length (load_reply text s).buffer)) text) cs (seen_by (load_reply text s).buffer cs) (left_by (load_reply text s).buffer cs)
load_then text s e cs t =
    let d = load_done text s e in
    let b = (load_reply text s).buffer in
    let ds = declared (capacity (length b)) text in
    kept_inside ds cs (seen_by b cs) (left_by b cs) (calls_kept cs ds [] [] b t (start text b (length s) d.2 d.0 d.1))

-- ---- a copy put back

goes_append : (acts more : List Act) (past : List Point) (p : Point) → (ps : List Point) × (point_from (acts ++ more) past p ≡ point_from more (past ++ ps) (point_from acts past p)) × (length ps ≡ length acts)
unfolding point_from
goes_append [] more past p = ([], ap (λ (l : List Point). point_from more l p) (sym (append-nil past)), refl)
goes_append (a ∷ acts) more past p =
    let g = goes_append acts more (past ++ p ∷ []) (acted a past p) in
    (p ∷ g.0, g.1 ∙ ap (λ (l : List Point). point_from more l (point_from acts (past ++ p ∷ []) (acted a past p))) (append_assoc past (p ∷ []) g.0), ap suc g.2)

point_in : (ps qs : List Point) (k : ℕ) (p q : Point) → k < length ps → get_or (ps ++ qs) k p ≡ get_or ps k q
point_in [] qs k p q l = absurd (omega arith)
point_in (r ∷ ps) qs zero p q l = refl
point_in (r ∷ ps) qs (suc k) p q l = point_in ps qs k p q (omega arith)

point_end : (ps : List Point) (p q : Point) → get_or (ps ++ p ∷ []) (length ps) q ≡ p
point_end [] p q = refl
point_end (r ∷ ps) p q = point_end ps p q

point_out : (ps : List Point) (p : Point) → get_or ps (length ps) p ≡ p
point_out [] p = refl
point_out (r ∷ ps) p = point_out ps p

-- whatever is done meanwhile
goes_back : (more : List Act) (past : List Point) (p : Point) (k : ℕ) → k < length past → point_from (more ++ put_back k ∷ []) past p ≡ get_or past k p
unfolding point_from acted
goes_back [] past p k l = refl
goes_back (a ∷ more) past p k l =
    goes_back more (past ++ p ∷ []) (acted a past p) k (rw (length-append past (p ∷ [])) (omega arith)) ∙ point_in past (p ∷ []) k (acted a past p) p l

-- A copy put back point_from on as the original did: it has had the acts up to the copy, and none after it.
pub put_back_lem : (acts more : List Act) (s : List ℕ) → point_after (acts ++ (more ++ put_back (length acts) ∷ [])) s ≡ point_after acts s
unfolding point_from acted
put_back_lem acts more s =
    let g = goes_append acts (more ++ put_back (length acts) ∷ []) [] (record { bytes = s; course = None }) in
    g.1 ∙ from more g.0 g.2
  where
    from : (more : List Act) (ps : List Point) → length ps ≡ length acts → point_from (more ++ put_back (length acts) ∷ []) ps (point_after acts s) ≡ point_after acts s
    from [] ps e = rw (sym e) (point_out ps (point_after acts s))
    from (a ∷ more) ps e =
        rw (sym e)
        (goes_back more (ps ++ point_after acts s ∷ []) (acted a ps (point_after acts s)) (length ps) (rw (length-append ps (point_after acts s ∷ [])) (omega arith))
        ∙ point_end ps (point_after acts s) (acted a ps (point_after acts s)))
