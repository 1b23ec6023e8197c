-- The answers of the offers and of collect on a state, case by case.
use Prim.Native.Nat.{ℕ, suc, ◌<◌, ◌≤◌}
use mathlib.Core.Path.{◌≡◌, refl, sym, ap, ap₂, ◌∙◌}
use mathlib.Core.List.{List, [], ◌∷◌, map}
use mathlib.Core.Bool.{Bool, true, false, not, cond}
use Rattle.std.specs.Prelude.{Option, None, Some}
use native.Mathlib.Omega.{arith}
use lib.Dec.{ltb, leb}
use lib.IntN.{ℤ}
use lib.ListN.{length, get_or, set, length-set}
use borrow.Author.Tests.{ltb-true, ltb-false, leb-false, not-false}
use mir.Syntax.{w64}
use mir.Val.{of_z, to_z}
use Rattle.meaning.specs.Plan.{Eqn, input, nil, is_input}
use Rattle.meaning.specs.Events.{Event, ev, horizon}
use Rattle.meaning.proofs.Inputs.{input_is}
use Rattle.meaning.proofs.Tests.{is_true}
use Rattle.machine.specs.State.{Cell, State, cell_at, room, with_bound, with_next}
use Rattle.machine.specs.Step.{can_move, release, raise}
use Rattle.machine.specs.Calls.{Call, reading, progress, moving, running, collecting, Outcome, refused, unless, done, arrivals, no_input, no_equation, offer_reading, offer_progress, move_one, run, oldest, hand_out, collect, call}
use Rattle.machine.proofs.Lengths.{raise_length, call_length}
use Rattle.machine.proofs.Outcomes.{run_number}
use Rattle.le.specs.Bytes.{Bytes}
use Rattle.layout.specs.Record.{Slot, Raws, no_slot, encode, decode, row_at, slot_at, change, with_num, bound_f}
use Rattle.encoding.specs.View.{slot_of, pad_to, of_cell, raws_of, bytes_of}
use Rattle.encoding.specs.Sound.{IsValue, Rising, SoundCell, Sound}
use Rattle.encoding.proofs.Widths.{value_back}
use Rattle.preserve.proofs.Calls.{Offered, stamp_below, call_sound}
use Rattle.roundtrip.specs.In.{state_in, IsState}
use Rattle.roundtrip.proofs.In.{bytes_are, sound, streams, raws, stays}
use Rattle.readers.specs.Step.{offered}
use Rattle.offers.specs.Numbers.{reading_raw, progress_raw, waiting_slot, collect_raw, collected_raw}
use Rattle.refine.proofs.Whole.{row_of}
use Rattle.refine.proofs.Calls.{absent_at, reading_number, progress_number, progress_of, step_of}
use Rattle.refine.proofs.Collects.{Waiting, nothing, waits, waiting_is, slot_in, collect_number, collect_of}
use Rattle.calls.specs.Reply.{Reply, plain, handing, reply_of, reply_in}

-- ---- the machine's outcomes

-- an outcome that is refused leaves the state, with all results 0 and a number from 1 to 14
pub data Ended (M : State) (o : Outcome) : Type 0 where
  was_refused : (k : ℕ) → (0 < k) × (k < 15) → o ≡ refused k M → Ended M o
  was_done : o.number ≡ 0 → Ended M o

unless_ended : (b : Bool) (k : ℕ) (M : State) (o : Outcome) → (0 < k) × (k < 15) → Ended M o → Ended M (unless b k M o)
unless_ended true k M o z h = was_refused k z refl
unless_ended false k M o z h = h

-- what a number other than 0 says
pub refused_is : (M : State) (o : Outcome) (k : ℕ) → Ended M o → k ≡ o.number → (k ≡ 0 → ⊥) → o ≡ refused k M
refused_is M o k (was_refused j z e) q h = e ∙ ap (λ (m : ℕ). refused m M) (sym (q ∙ ap (λ (x : Outcome). x.number) e))
refused_is M o k (was_done e) q h = absurd (h (q ∙ e))

reading_ended : (i t : ℕ) (v : ℤ) (M : State) → Ended M (offer_reading i t v M)
unfolding offer_reading
reading_ended i t v M =
    unless_ended (no_input i M) 7 M _ (omega arith, omega arith)
    (unless_ended (ltb t (cell_at M i).bound) 8 M _ (omega arith, omega arith)
    (unless_ended (leb room (length (cell_at M i).held)) 9 M _ (omega arith, omega arith) (was_done refl)))

progress_ended : (i y : ℕ) (M : State) → Ended M (offer_progress i y M)
unfolding offer_progress
progress_ended i y M =
    unless_ended (no_input i M) 7 M _ (omega arith, omega arith)
    (unless_ended (ltb horizon y) 10 M _ (omega arith, omega arith)
    (unless_ended (ltb y (cell_at M i).bound) 8 M _ (omega arith, omega arith) (was_done refl)))

collect_ended : (i : ℕ) (M : State) → Ended M (collect i M)
unfolding collect
collect_ended i M = unless_ended (not (cell_at M i).out) 13 M _ (omega arith, omega arith) (go (oldest (cell_at M i).next (cell_at M i).held))
  where
    go : (o : Option Event) → Ended M (hand_out o i M)
    go None = was_refused 14 (omega arith, omega arith) refl
    go (Some e) = was_done refl

move_ended : (i : ℕ) (M : State) → Ended M (move_one i M)
unfolding move_one
move_ended i M = unless_ended (no_equation i M) 11 M _ (omega arith, omega arith) (unless_ended (not (can_move i M)) 12 M _ (omega arith, omega arith) (was_done refl))

pub call_ended : (c : Call) (M : State) → Ended M (call c M)
unfolding call
call_ended (reading i t v) M = reading_ended i t v M
call_ended (progress i y) M = progress_ended i y M
call_ended (moving i) M = move_ended i M
call_ended (running n) M = was_done (run_number n M)
call_ended (collecting i) M = collect_ended i M

-- a call on a state is never refused 15
pub call_15 : (c : Call) (M : State) → (call c M).number ≡ 15 → ⊥
call_15 c M = go (call c M) (call_ended c M)
  where
    go : (o : Outcome) → Ended M o → o.number ≡ 15 → ⊥
    go o (was_refused k z e) q = let r = ap (λ (x : Outcome). x.number) e in let u = z.1 in omega arith
    go o (was_done e) q = omega arith

-- what a 0 says
unless_zero : (b : Bool) (k : ℕ) (M : State) (o : Outcome) → (k ≡ 0 → ⊥) → (unless b k M o).number ≡ 0 → (b ≡ false) × (unless b k M o ≡ o)
unless_zero true k M o z e = absurd (z e)
unless_zero false k M o z e = (refl, refl)

is_input_lem : (e : Eqn) → not (is_input e) ≡ false → e ≡ input
is_input_lem e h = input_is e (is_true (is_input e) (not-false (is_input e) h))

-- an input is a stream of the state
input_there : (M : State) (i : ℕ) → (cell_at M i).eqn ≡ input → i < length M
input_there M i e = go (ltb i (length M)) refl
  where
    go : (p : Bool) → ltb i (length M) ≡ p → i < length M
    go true q = ltb-true i (length M) q
    go false q =
        let n : (cell_at M i).eqn ≡ nil = ap (λ (c : Cell). c.eqn) (absent_at M i (ltb-false i (length M) q)) in
        let z : ◌≡◌ {A = ℕ} 0 1 = cc in
        absurd (omega arith)

pub record ReadingDone (i t : ℕ) (v : ℤ) (M : State) : Type 0 where
  pub there : i < length M
  pub is_input : (cell_at M i).eqn ≡ input
  pub space : length (cell_at M i).held < room
  pub outcome : offer_reading i t v M ≡ done (arrivals i (ev t v ∷ [])) (raise i (suc t) (ev t v ∷ []) M)

pub reading_done : (i t : ℕ) (v : ℤ) (M : State) → (offer_reading i t v M).number ≡ 0 → ReadingDone i t v M
unfolding offer_reading
reading_done i t v M e =
    let c = cell_at M i in
    let o₃ = done (arrivals i (ev t v ∷ [])) (raise i (suc t) (ev t v ∷ []) M) in
    let o₂ = unless (leb room (length c.held)) 9 M o₃ in
    let o₁ = unless (ltb t c.bound) 8 M o₂ in
    let h₁ = unless_zero (no_input i M) 7 M o₁ (λ q. omega arith) e in
    let h₂ = unless_zero (ltb t c.bound) 8 M o₂ (λ q. omega arith) (ap (λ (o : Outcome). o.number) (sym h₁.1) ∙ e) in
    let h₃ = unless_zero (leb room (length c.held)) 9 M o₃ (λ q. omega arith) (ap (λ (o : Outcome). o.number) (sym (h₁.1 ∙ h₂.1)) ∙ e) in
    let q = is_input_lem c.eqn h₁.0 in
    record { there = input_there M i q; is_input = q; space = leb-false room (length c.held) h₃.0; outcome = h₁.1 ∙ h₂.1 ∙ h₃.1 }

pub record ProgressDone (i y : ℕ) (M : State) : Type 0 where
  pub there : i < length M
  pub outcome : offer_progress i y M ≡ done [] (set M i (with_bound y (cell_at M i)))

pub progress_done : (i y : ℕ) (M : State) → (offer_progress i y M).number ≡ 0 → ProgressDone i y M
unfolding offer_progress
progress_done i y M e =
    let c = cell_at M i in
    let o₃ = done [] (set M i (with_bound y c)) in
    let o₂ = unless (ltb y c.bound) 8 M o₃ in
    let o₁ = unless (ltb horizon y) 10 M o₂ in
    let h₁ = unless_zero (no_input i M) 7 M o₁ (λ q. omega arith) e in
    let h₂ = unless_zero (ltb horizon y) 10 M o₂ (λ q. omega arith) (ap (λ (o : Outcome). o.number) (sym h₁.1) ∙ e) in
    let h₃ = unless_zero (ltb y c.bound) 8 M o₃ (λ q. omega arith) (ap (λ (o : Outcome). o.number) (sym (h₁.1 ∙ h₂.1)) ∙ e) in
    record { there = input_there M i (is_input_lem c.eqn h₁.0); outcome = h₁.1 ∙ h₂.1 ∙ h₃.1 }

-- a collect that is done: the oldest waiting event, in the slot that the code finds
pub record CollectDone (i : ℕ) (M : State) : Type 0 where
  pub there : i < length M
  pub event : Event
  pub slot : slot_at (waiting_slot (of_cell (cell_at M i))) (of_cell (cell_at M i)) ≡ slot_of event
  pub inside : waiting_slot (of_cell (cell_at M i)) < room
  pub stamp : event.stamp < horizon
  pub value : IsValue event.value
  pub outcome : collect i M ≡ hand_out (Some event) i M

oldest_value : (w lo top : ℕ) (es : List Event) (e : Event) → Rising lo top es → oldest w es ≡ Some e → IsValue e.value
oldest_value w lo top [] e r q = let z : ◌≡◌ {A = ℕ} 0 1 = cc in absurd (omega arith)
oldest_value w lo top (x ∷ es) e r q = go (leb w x.stamp) q (λ h. oldest_value w (suc x.stamp) top es e r.2 h)
  where
    go : (p : Bool) → cond p (Some x) (oldest w es) ≡ Some e → (oldest w es ≡ Some e → IsValue e.value) → IsValue e.value
    go true h rec = let y : x ≡ e = cc in rw (sym y) r.1
    go false h rec = rec h

out_there : (M : State) (i : ℕ) → (cell_at M i).out ≡ true → i < length M
out_there M i e = go (ltb i (length M)) refl
  where
    go : (p : Bool) → ltb i (length M) ≡ p → i < length M
    go true q = ltb-true i (length M) q
    go false q =
        let n : (cell_at M i).out ≡ false = ap (λ (c : Cell). c.out) (absent_at M i (ltb-false i (length M) q)) in
        let z : ◌≡◌ {A = ℕ} 0 1 = ap (λ (x : Bool). cond x 1 0) (sym n ∙ e) in
        absurd (omega arith)

slots_in : (c : Cell) → (of_cell c).slots ≡ pad_to room no_slot (map slot_of c.held)
unfolding of_cell
slots_in c = refl

-- a collect that is done is of a stream that is there
pub collect_stream : (i : ℕ) (M : State) → (collect i M).number ≡ 0 → i < length M
unfolding collect
collect_stream i M e =
    let c = cell_at M i in
    out_there M i (not-false c.out (unless_zero (not c.out) 13 M (hand_out (oldest c.next c.held) i M) (λ q. omega arith) e).0)

pub collect_done : {cap : ℕ} (i : ℕ) (M : State) → Sound cap M → (collect i M).number ≡ 0 → CollectDone i M
unfolding collect
collect_done i M snd e =
    let c = cell_at M i in
    let h = unless_zero (not c.out) 13 M (hand_out (oldest c.next c.held) i M) (λ q. omega arith) e in
    let l = collect_stream i M e in
    let f = snd.each i l in
    go (waiting_is c.next room c.held f.few) l f h.1 (ap (λ (o : Outcome). o.number) (sym h.1) ∙ e)
  where
    c : Cell
    c = cell_at M i

    go : Waiting c.next room c.held → i < length M → SoundCell (length M) c → unless (not c.out) 13 M (hand_out (oldest c.next c.held) i M) ≡ hand_out (oldest c.next c.held) i M
        → (hand_out (oldest c.next c.held) i M).number ≡ 0 → CollectDone i M
    go (nothing o g) l f u d =
        let z : ◌≡◌ {A = ℕ} 14 0 = sym (ap (λ (x : Option Event). (hand_out x i M).number) o) ∙ d in
        absurd (omega arith)
    go (waits x o g q) l f u d =
        let j = slot_in c f.few in
        let k = f.few in
        let y = f.bound in
        record {
          there = l;
          event = x;
          slot = ap₂ (λ (m : ℕ) (sl : List Slot). get_or sl m no_slot) j (slots_in c) ∙ q;
          inside = rw j (omega arith);
          stamp = omega (arith, stamp_below c.next 0 c.bound c.held x f.held o);
          value = oldest_value c.next 0 c.bound c.held x f.held o;
          outcome = u ∙ ap (λ (y : Option Event). hand_out y i M) o;
        }

-- ---- the answers on a state

-- the answer of a call whose outcome is known
pub reply_of_lem : (c : Call) (s : List ℕ) (o : Outcome) → call c (state_in s) ≡ o → reply_in c s ≡ reply_of (length s) o
unfolding reply_in
reply_of_lem c s o e = ap (reply_of (length s)) e

module _ (s : List ℕ) (b : Bytes s) (n : ℕ) (ok : IsState s n) where
  -- records of as many streams are the next state's bytes
  written : (M : State) (s' : List ℕ) → length M ≡ length (state_in s) → s' ≡ encode n (raws_of (length s) M) → s' ≡ bytes_of (length s) M
  unfolding bytes_of
  written M s' l q = q ∙ ap (λ (m : ℕ). encode m (raws_of (length s) M)) (streams s b n ok ∙ sym l)

  few_at : (j : ℕ) → j < length (state_in s) → length (cell_at (state_in s) j).held ≤ room
  few_at j l = ((sound s b n ok).each j l).few

  -- what a call leaves is a state again
  pub still : (c : Call) → Offered c → (s' : List ℕ) → s' ≡ (reply_in c s).buffer → IsState s' n
  unfolding reply_in
  still c o s' e =
      bytes_are (length s) (call c (state_in s)).state s' n (call_sound c (state_in s) o (sound s b n ok)) (streams s b n ok ∙ sym (call_length c (state_in s))) e

  -- a run
  pub run_finished : (most made : ℕ) (s' : List ℕ) → (made ≡ (run most (state_in s)).moves) × (s' ≡ bytes_of (length s) (run most (state_in s)).state)
      → (made ≡ (reply_in (running most) s).moves) × (s' ≡ (reply_in (running most) s).buffer) × IsState s' n
  run_finished most made s' e =
      let r = reply_of_lem (running most) s (run most (state_in s)) (unfold call in refl) in
      let q = e.1 ∙ sym (ap (λ (y : Reply). y.buffer) r) in
      (e.0 ∙ sym (ap (λ (y : Reply). y.moves) r), q, still (running most) tt s' q)

  -- the raw number is the machine's
  raw_number : (f : ℕ → Raws → ℕ) (g : State → ℕ) → f (length (state_in s)) (raws_of (length s) (state_in s)) ≡ g (state_in s) → (k : ℕ) → k ≡ f n (decode n s) → k ≡ g (state_in s)
  raw_number f g h k q = q ∙ ap₂ f (streams s b n ok) (raws s b n ok) ∙ h

  -- a refusal: its number, all results 0, and the buffer as it came
  pub refused_reply : (c : Call) (k : ℕ) → k ≡ (call c (state_in s)).number → (k ≡ 0 → ⊥) → plain k s ≡ reply_in c s
  refused_reply c k q h =
      ap (plain k) (stays s b n ok)
      ∙ sym (reply_of_lem c s (refused k (state_in s)) (refused_is (state_in s) (call c (state_in s)) k (call_ended c (state_in s)) q h))

  module _ (i t : ℕ) (v : ℤ) (k : ℕ) (q : k ≡ reading_raw n (decode n s) i t) where
    reading_k : k ≡ (offer_reading i t v (state_in s)).number
    reading_k = raw_number (λ m r. reading_raw m r i t) (λ M. (offer_reading i t v M).number) (reading_number (length s) (state_in s) i t v) k q

    pub reading_refused : (k ≡ 0 → ⊥) → plain k s ≡ reply_in (reading i t v) s
    reading_refused h = refused_reply (reading i t v) k (unfold call in reading_k) h

    facts : k ≡ 0 → ReadingDone i t v (state_in s)
    facts h = reading_done i t v (state_in s) (sym reading_k ∙ h)

    pub reading_there : k ≡ 0 → i < n
    reading_there h = rw (streams s b n ok) (facts h).there

    pub reading_finished : (h : k ≡ 0) (s' : List ℕ) → s' ≡ encode n (offered i t (of_z w64 v) (decode n s))
        → plain 0 s' ≡ reply_in (reading i t v) s
    reading_finished h s' w =
        let f = facts h in
        let M' = raise i (suc t) (ev t v ∷ []) (state_in s) in
        let o : call (reading i t v) (state_in s) ≡ done (arrivals i (ev t v ∷ [])) M' = unfold call in f.outcome in
        let p = w ∙ ap (encode n) (ap (offered i t (of_z w64 v)) (raws s b n ok) ∙ step_of (length s) (state_in s) i t v f.there f.is_input f.space) in
        ap (plain 0) (written M' s' (raise_length i (suc t) (ev t v ∷ []) (state_in s)) p)
        ∙ sym (reply_of_lem (reading i t v) s (done (arrivals i (ev t v ∷ [])) M') o)

  module _ (i y : ℕ) (k : ℕ) (q : k ≡ progress_raw n (decode n s) i y) where
    progress_k : k ≡ (offer_progress i y (state_in s)).number
    progress_k = raw_number (λ m r. progress_raw m r i y) (λ M. (offer_progress i y M).number) (progress_number (length s) (state_in s) i y) k q

    pub progress_refused : (k ≡ 0 → ⊥) → plain k s ≡ reply_in (progress i y) s
    progress_refused h = refused_reply (progress i y) k (unfold call in progress_k) h

    progress_facts : k ≡ 0 → ProgressDone i y (state_in s)
    progress_facts h = progress_done i y (state_in s) (sym progress_k ∙ h)

    pub progress_there : k ≡ 0 → i < n
    progress_there h = rw (streams s b n ok) (progress_facts h).there

    pub progress_finished : (h : k ≡ 0) (s' : List ℕ) → s' ≡ encode n (change i (with_num bound_f y) (decode n s))
        → plain 0 s' ≡ reply_in (progress i y) s
    progress_finished h s' w =
        let f = progress_facts h in
        let M' = set (state_in s) i (with_bound y (cell_at (state_in s) i)) in
        let o : call (progress i y) (state_in s) ≡ done [] M' = unfold call in f.outcome in
        let p = w ∙ ap (encode n) (ap (change i (with_num bound_f y)) (raws s b n ok) ∙ progress_of (length s) (state_in s) i y f.there) in
        ap (plain 0) (written M' s' (length-set (state_in s) i (with_bound y (cell_at (state_in s) i))) p)
        ∙ sym (reply_of_lem (progress i y) s (done [] M') o)

  -- ---- collect

  module _ (i : ℕ) (k : ℕ) (q : k ≡ collect_raw n (decode n s) i) where
    pub collect_k : k ≡ (collect i (state_in s)).number
    collect_k = raw_number (λ m r. collect_raw m r i) (λ M. (collect i M).number) (collect_number (length s) (state_in s) i few_at) k q

    pub collect_refused : (k ≡ 0 → ⊥) → plain k s ≡ reply_in (collecting i) s
    collect_refused h = refused_reply (collecting i) k (unfold call in collect_k) h

    done_at : k ≡ 0 → CollectDone i (state_in s)
    done_at h = collect_done i (state_in s) (sound s b n ok) (sym collect_k ∙ h)

    row_is : k ≡ 0 → row_at (decode n s) i ≡ of_cell (cell_at (state_in s) i)
    row_is h = ap (λ (r : Raws). row_at r i) (raws s b n ok) ∙ (unfold raws_of in row_of (state_in s) i (done_at h).there)

    pub collect_there : k ≡ 0 → i < n
    collect_there h = rw (streams s b n ok) (done_at h).there

    module _ (h : k ≡ 0) (j : ℕ) (w : j ≡ waiting_slot (row_at (decode n s) i)) where
      j_is : j ≡ waiting_slot (of_cell (cell_at (state_in s) i))
      j_is = w ∙ ap waiting_slot (row_is h)

      pub collect_inside : j < room
      collect_inside = rw j_is (done_at h).inside

      slot_is : slot_at j (row_at (decode n s) i) ≡ slot_of (done_at h).event
      slot_is = ap₂ slot_at j_is (row_is h) ∙ (done_at h).slot

      pub collect_finished : (t : ℕ) (v : ℤ) (u : ℕ) (s' : List ℕ) → t ≡ (slot_at j (row_at (decode n s) i)).stamp → v ≡ to_z w64 u → u ≡ (slot_at j (row_at (decode n s) i)).value
          → s' ≡ encode n (collected_raw i j (decode n s))
          → handing t v s' ≡ reply_in (collecting i) s
      collect_finished t v u s' et ev' eu es =
          let f = done_at h in
          let x = f.event in
          let c = cell_at (state_in s) i in
          let c' = with_next (suc x.stamp) c in
          let M' = release i (set (state_in s) i c') in
          let o : call (collecting i) (state_in s) ≡ hand_out (Some x) i (state_in s) = unfold call in f.outcome in
          let pt : t ≡ x.stamp = et ∙ ap (λ (y : Slot). y.stamp) slot_is in
          let pv : v ≡ x.value = ev' ∙ ap (to_z w64) (eu ∙ ap (λ (y : Slot). y.value) slot_is) ∙ value_back x.value f.value in
          let sl : slot_at j (of_cell c) ≡ slot_of x = ap (λ (m : ℕ). slot_at m (of_cell c)) j_is ∙ f.slot in
          let l = f.there in
          let p = es ∙ ap (encode n) (ap (collected_raw i j) (raws s b n ok) ∙ collect_of (length s) (state_in s) i j x l (few_at i l) sl) in
          let pb = written M' s' (sym (ap (λ (y : Outcome). length y.state) o) ∙ call_length (collecting i) (state_in s)) p in
          (λ y. handing (pt y) (pv y) (pb y)) ∙ sym (reply_of_lem (collecting i) s (hand_out (Some x) i (state_in s)) o)
