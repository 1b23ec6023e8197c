-- A state copied into a longer buffer, and what is then done to both.
use Prim.Native.Nat.{ℕ, zero, suc, ◌≤◌, ◌<◌}
use mathlib.Core.Path.{◌≡◌, refl, sym, ap, ap₂, ◌∙◌, subst}
use mathlib.Core.Bool.{Bool, true, false, cond, ◌&&◌, ◌||◌}
use Rattle.std.specs.Prelude.{Option, None, Some}
use mathlib.Core.List.{List, [], ◌∷◌, ◌++◌}
use native.Mathlib.Omega.{arith}
use native.Mathlib.Decide.{ℕ_discrete}
use lib.Dec.{eqb, ltb, lit<, lit≤}
use lib.IntN.{pos}
use lib.ListN.{length, set, get_or}
use borrow.Author.Tests.{eq-eqb, ne_eqb}
use Rattle.le.specs.Bytes.{Bytes}
use Rattle.meaning.specs.Table.{any_below}
use Rattle.meaning.proofs.Causal.{any_cong}
use Rattle.machine.specs.State.{State, Declared, declared_in, loaded}
use Rattle.machine.specs.Calls.{Call, Outcome, collecting, call, missing}
use Rattle.operators.specs.Limits.{state_length, long_length, stream_limit, most_streams, capacity}
use Rattle.operators.proofs.Sizes.{capacity_few, short_room, long_room}
use Rattle.encoding.specs.View.{bytes_of}
use Rattle.encoding.specs.Sound.{Sound}
use Rattle.preserve.proofs.Calls.{Offered, call_sound}
use Rattle.valid.specs.Valid.{valid}
use Rattle.roundtrip.specs.In.{state_in}
use Rattle.roundtrip.proofs.Whole.{valid_sound, valid_bytes, bytes_length, bytes_valid}
use Rattle.roundtrip.proofs.In.{bytes_in}
use Rattle.render.specs.Render.{render}
use Rattle.plan.specs.Rules.{number, declared}
use Rattle.plan.proofs.Taken.{taken_rendered}
use Rattle.plan.proofs.More.{taken_more, number_more}
use Rattle.load.proofs.Fresh.{loaded_sound}
use Rattle.calls.specs.Reply.{Reply, reply_of, reply}
use Rattle.calls.proofs.Answers.{reply_machine}
use Rattle.writing.specs.Text.{given, plan_text}
use Rattle.writing.proofs.Cases.{text_state}
use Rattle.counts.specs.Missing.{missing_reply}
use Rattle.counts.proofs.Cases.{reply_state}
use Rattle.widen.specs.Widen.{WidenReply, widen_reply}
use Rattle.widen.proofs.Spread.{sound_more}
use Rattle.widen.proofs.Cases.{done, widen_done}
use Rattle.block.specs.Block.{block_length, command_at, flags_at, mask_at, flags_in, cleared, ended, value_in, reply_stamp_in}
use Rattle.registers.specs.Write.{Written, is_command, call_in, answered, waiting, commanded, refused, stored, write, starts}
use Rattle.registers.proofs.Sequence.{one_write}
use Rattle.engine.specs.Load.{load_reply}
use Rattle.engine.proofs.Loads.{load_done, load_refused, load_length}
use Rattle.runs.specs.Seen.{Seen, Typed}
use Rattle.histories.specs.Demands.{Act, load, make, ask_text, ask_missing, widen, write_to, put_back, Course, Point, seen_in, course_of_load, course_of_call, course_of_write, shown_in, acted, point_from, TypedAct, AllTypedActs}
use Rattle.histories.specs.Widening.{Longer, Alike, OnBoth, AllOnBoth, going, GoesOn}
use Rattle.histories.proofs.Shown.{typed_call}
use Rattle.histories.proofs.Taking.{number_of}
use Rattle.histories.proofs.Whole.{typed_offered}

-- ---- both lengths

more_room : capacity state_length ≤ capacity long_length
more_room = rw long_room (capacity_few state_length)

module _ (M : State) (ok : Sound stream_limit M) where
  sound_short : Sound (capacity state_length) M
  sound_short = subst (λ (n : ℕ). Sound n M) (sym short_room) ok

  sound_long : Sound (capacity long_length) M
  sound_long = sound_more (capacity state_length) (capacity long_length) M more_room sound_short

-- ---- one state in both

module _ (s w : List ℕ) (l : Longer s w) where
  short_length : length s ≡ state_length
  short_length = ap length l.short ∙ bytes_length state_length l.state (sound_short l.state l.sound)

  long_length_lem : length w ≡ long_length
  long_length_lem = ap length l.long ∙ bytes_length long_length l.state (sound_long l.state l.sound)

  short_valid : valid s ≡ true
  short_valid = ap valid l.short ∙ bytes_valid state_length l.state (sound_short l.state l.sound)

  long_valid : valid w ≡ true
  long_valid = ap valid l.long ∙ bytes_valid long_length l.state (sound_long l.state l.sound)

  same_state_lem : state_in s ≡ state_in w
  same_state_lem =
      bytes_in state_length l.state s (sound_short l.state l.sound) l.short
      ∙ sym (bytes_in long_length l.state w (sound_long l.state l.sound) l.long)

  short_reply : (c : Call) → reply c s ≡ reply_of state_length (call c l.state)
  short_reply c = reply_machine state_length c l.state s (sound_short l.state l.sound) l.short

  long_reply : (c : Call) → reply c w ≡ reply_of long_length (call c l.state)
  long_reply c = reply_machine long_length c l.state w (sound_long l.state l.sound) l.long

  same_seen : (c : Call) → seen_in c (reply c s) ≡ seen_in c (reply c w)
  same_seen c = ap (seen_in c) (short_reply c) ∙ sym (ap (seen_in c) (long_reply c))

  same_waiting : waiting s ≡ waiting w
  unfolding waiting
  same_waiting = any_cong most_streams _ _ (λ i h. ap (λ (y : Seen). eqb y.number 0) (same_seen (collecting i)))

  call_longer : (c : Call) → Offered c → Longer (reply c s).buffer (reply c w).buffer
  call_longer c o = record {
    state = (call c l.state).state;
    sound = subst (λ (n : ℕ). Sound n (call c l.state).state) short_room (call_sound c l.state o (sound_short l.state l.sound));
    short = ap (λ (r : Reply). r.buffer) (short_reply c);
    long = ap (λ (r : Reply). r.buffer) (long_reply c);
  }

  -- a load
  short_number : (text : List ℕ) → (load_reply text s).number ≡ number stream_limit text
  short_number text =
      let e : capacity (length s) ≡ stream_limit = ap capacity short_length ∙ short_room in
      number_of text s (rw e (lit< tt)) ∙ ap (λ (n : ℕ). number n text) e

  long_number : (text : List ℕ) → (load_reply text w).number ≡ number most_streams text
  long_number text =
      let e : capacity (length w) ≡ most_streams = ap capacity long_length_lem ∙ long_room in
      number_of text w (rw e (lit< tt)) ∙ ap (λ (n : ℕ). number n text) e

  same_number : (text : List ℕ) → (number stream_limit text ≡ 3 → ⊥) → (load_reply text s).number ≡ (load_reply text w).number
  same_number text z = short_number text ∙ sym (long_number text ∙ number_more stream_limit most_streams (lit≤ tt) (omega arith) text z)

  module _ (text : List ℕ) (e : (load_reply text s).number ≡ 0) where
    taken : number stream_limit text ≡ 0
    taken = sym (short_number text) ∙ e

    same_streams : declared most_streams text ≡ declared stream_limit text
    same_streams = (taken_more stream_limit most_streams (lit≤ tt) (omega arith) text taken).1

    long_taken : (load_reply text w).number ≡ 0
    long_taken = long_number text ∙ (taken_more stream_limit most_streams (lit≤ tt) (omega arith) text taken).0

    load_longer : Longer (load_reply text s).buffer (load_reply text w).buffer
    load_longer = record {
      state = loaded (declared stream_limit text);
      sound = loaded_sound (lit< tt) (declared stream_limit text) (taken_rendered stream_limit text taken).1;
      short = (load_done text s e).1 ∙ ap₂ (λ (n m : ℕ). bytes_of n (loaded (declared m text))) short_length (ap capacity short_length ∙ short_room);
      long = (load_done text w long_taken).1 ∙ ap₂ (λ (n m : ℕ). bytes_of n (loaded (declared m text))) long_length_lem (ap capacity long_length_lem ∙ long_room) ∙ ap (λ (ds : List Declared). bytes_of long_length (loaded ds)) same_streams;
    }

    load_plan : declared (capacity (length (load_reply text s).buffer)) text ≡ declared (capacity (length (load_reply text w).buffer)) text
    load_plan =
        ap (λ (n : ℕ). declared n text) (ap capacity (load_length text s ∙ short_length) ∙ short_room)
        ∙ sym (ap (λ (n : ℕ). declared n text) (ap capacity (load_length text w ∙ long_length_lem) ∙ long_room) ∙ same_streams)

-- a write shows the same, if its call is answered alike
module _ (s w : List ℕ) (l : Longer s w) (b : List ℕ) (at x : ℕ) (t : Bytes b) where
  abbrev o : Outcome
  o = call (call_in b x) l.state

  left : Longer (reply (call_in b x) s).buffer (reply (call_in b x) w).buffer
  left = call_longer s w l (call_in b x) (typed_offered (call_in b x) (typed_call b x t))

  commanded_same : ((commanded s b x).number ≡ (commanded w b x).number) × ((commanded s b x).block ≡ (commanded w b x).block)
  unfolding commanded answered
  commanded_same =
      let e = short_reply s w l (call_in b x) in
      let f = long_reply s w l (call_in b x) in
      let g : waiting (bytes_of state_length o.state) ≡ waiting (bytes_of long_length o.state) = sym (ap (λ (r : Reply). waiting r.buffer) e) ∙ same_waiting (reply (call_in b x) s).buffer (reply (call_in b x) w).buffer left ∙ ap (λ (r : Reply). waiting r.buffer) f in
      rw (e, f) (refl, ap (λ (y : Bool). ended o.number y (set (answered x (reply_of state_length o) b) command_at x)) g)

  write_same : ((write s b at x).number ≡ (write w b at x).number) × ((write s b at x).block ≡ (write w b at x).block)
  unfolding write
  write_same = by (eqb (length b) block_length) (eqb at command_at) (is_command x) (eqb at flags_at) (ltb at command_at || eqb at mask_at)
    where
      of : List ℕ → (p q r u v : Bool) → Written
      of y p q r u v =
          cond p
          (cond q (cond r (commanded y b x) (refused y b))
          (cond u (stored y (set b flags_at (cleared (flags_in b) x))) (cond v (stored y (set b at x)) (refused y b))))
          (record { number = 17; block = b; state = y })

      by : (p q r u v : Bool) → ((of s p q r u v).number ≡ (of w p q r u v).number) × ((of s p q r u v).block ≡ (of w p q r u v).block)
      by false q r u v = (refl, refl)
      by true true true u v = commanded_same
      by true true false u v = (refl, refl)
      by true false r true v = (refl, refl)
      by true false r false true = (refl, refl)
      by true false r false false = (refl, refl)

  write_longer : Longer (write s b at x).state (write w b at x).state
  write_longer = by (starts b at x) refl
    where
      by : (p : Bool) → starts b at x ≡ p → Longer (write s b at x).state (write w b at x).state
      by true e =
          let f = ((one_write s b at x).started e).1 in
          let g = ((one_write w b at x).started e).1 in
          subst (Longer (write s b at x).state) (sym g) (subst (λ (y : List ℕ). Longer y (reply (call_in b x) w).buffer) (sym f) left)
      by false e =
          let f = (one_write s b at x).none e in
          let g = (one_write w b at x).none e in
          subst (Longer (write s b at x).state) (sym g) (subst (λ (y : List ℕ). Longer y w) (sym f) l)

  -- what is seen of a write depends on its number, its block and the call's moves alone
  abbrev shows : ℕ → List ℕ → ℕ → Seen
  shows n k m = let d = eqb x 2 && eqb n 0 in record { made = call_in b x; number = n; moves = m; stamp = cond d (reply_stamp_in k) 0; value = cond d (value_in k) (pos 0) }

  write_seen : seen_in (call_in b x) (shown_in x (reply (call_in b x) s) (write s b at x)) ≡ seen_in (call_in b x) (shown_in x (reply (call_in b x) w) (write w b at x))
  write_seen =
      ap₂ (λ (n : ℕ) (k : List ℕ). shows n k (reply (call_in b x) s).moves) write_same.0 write_same.1
      ∙ ap (λ (y : Seen). shows (write w b at x).number (write w b at x).block y.moves) (same_seen s w l (call_in b x))

-- ---- a history

-- at the same point
abbrev At : Point → Point → Type 0
At p q = Longer p.bytes q.bytes × (p.course ≡ q.course)

abbrev AllAt : List Point → List Point → Type 0
AllAt [] [] = Unit {0}
AllAt [] (q ∷ qs) = ⊥
AllAt (p ∷ ps) [] = ⊥
AllAt (p ∷ ps) (q ∷ qs) = At p q × AllAt ps qs

at_more : (ps qs : List Point) (p q : Point) → AllAt ps qs → At p q → AllAt (ps ++ p ∷ []) (qs ++ q ∷ [])
at_more [] [] p q h k = (k, tt)
at_more [] (y ∷ qs) p q h k = absurd h
at_more (x ∷ ps) [] p q h k = absurd h
at_more (x ∷ ps) (y ∷ qs) p q h k = (h.0, at_more ps qs p q h.1 k)

at_past : (ps qs : List Point) (k : ℕ) (p q : Point) → AllAt ps qs → At p q → At (get_or ps k p) (get_or qs k q)
at_past [] [] k p q h g = g
at_past [] (y ∷ qs) k p q h g = absurd h
at_past (x ∷ ps) [] k p q h g = absurd h
at_past (x ∷ ps) (y ∷ qs) zero p q h g = h.0
at_past (x ∷ ps) (y ∷ qs) (suc k) p q h g = at_past ps qs k p q h.1 g

at_act : (a : Act) (ps qs : List Point) (p q : Point) → TypedAct a → OnBoth a → AllAt ps qs → At p q → At (acted a ps p) (acted a qs q)
unfolding acted
at_act (load text) ps qs p q t u h k = by (ℕ_discrete (load_reply text p.bytes).number 0)
  where
    by : Dec ((load_reply text p.bytes).number ≡ 0) → At (acted (load text) ps p) (acted (load text) qs q)
    by (yes e) =
        let f = long_taken p.bytes q.bytes k.0 text e in (
          load_longer p.bytes q.bytes k.0 text e,
          rw (eq-eqb (load_reply text p.bytes).number 0 e, eq-eqb (load_reply text q.bytes).number 0 f)
              (ap (λ (ds : List Declared). Some (record { text = text; plan = ds; seen = [] })) (load_plan p.bytes q.bytes k.0 text e)),
        )
    by (no z) =
        let n : (load_reply text p.bytes).number ≡ (load_reply text q.bytes).number = same_number p.bytes q.bytes k.0 text u in
        let y : (load_reply text q.bytes).number ≡ 0 → ⊥ = λ e. z (n ∙ e) in (
          subst (Longer (load_reply text p.bytes).buffer) (sym (load_refused text q.bytes y)) (subst (λ (b : List ℕ). Longer b q.bytes) (sym (load_refused text p.bytes z)) k.0),
          rw (ne_eqb (load_reply text p.bytes).number 0 z, ne_eqb (load_reply text q.bytes).number 0 y) k.1,
        )
at_act (make c) ps qs p q t u h k = (
  call_longer p.bytes q.bytes k.0 c (typed_offered c t),
  by p.course q.course k.1,
)
  where
    by : (o v : Option Course) → o ≡ v → course_of_call c (reply c p.bytes) o ≡ course_of_call c (reply c q.bytes) v
    by o v e = ap (course_of_call c (reply c p.bytes)) e ∙ seen v
      where
        seen : (v : Option Course) → course_of_call c (reply c p.bytes) v ≡ course_of_call c (reply c q.bytes) v
        seen None = refl
        seen (Some x) = ap (λ (y : Seen). Some (record { text = x.text; plan = x.plan; seen = x.seen ++ y ∷ [] })) (same_seen p.bytes q.bytes k.0 c)
at_act (ask_text b) ps qs p q t u h k = k
at_act (ask_missing i) ps qs p q t u h k = k
at_act (widen b) ps qs p q t u h k = absurd u
at_act (write_to b at x) ps qs p q t u h k = (
  write_longer p.bytes q.bytes k.0 b at x t,
  by (starts b at x) p.course q.course k.1,
)
  where
    by : (z : Bool) (o v : Option Course) → o ≡ v
        → cond z (course_of_call (call_in b x) (shown_in x (reply (call_in b x) p.bytes) (write p.bytes b at x)) o) o
        ≡ cond z (course_of_call (call_in b x) (shown_in x (reply (call_in b x) q.bytes) (write q.bytes b at x)) v) v
    by true o v e = ap (course_of_call (call_in b x) (shown_in x (reply (call_in b x) p.bytes) (write p.bytes b at x))) e ∙ seen v
      where
        seen : (v : Option Course) → course_of_call (call_in b x) (shown_in x (reply (call_in b x) p.bytes) (write p.bytes b at x)) v ≡ course_of_call (call_in b x) (shown_in x (reply (call_in b x) q.bytes) (write q.bytes b at x)) v
        seen None = refl
        seen (Some y) = ap (λ (z : Seen). Some (record { text = y.text; plan = y.plan; seen = y.seen ++ z ∷ [] })) (write_seen p.bytes q.bytes k.0 b at x t)
    by false o v e = e
at_act (put_back n) ps qs p q t u h k = at_past ps qs n p q h k

at_all : (acts : List Act) (ps qs : List Point) (p q : Point) → AllTypedActs acts → AllOnBoth acts → AllAt ps qs → At p q → At (point_from acts ps p) (point_from acts qs q)
unfolding point_from
at_all [] ps qs p q t u h k = k
at_all (a ∷ acts) ps qs p q t u h k = at_all acts (ps ++ p ∷ []) (qs ++ q ∷ []) (acted a ps p) (acted a qs q) t.1 u.1 (at_more ps qs p q h k) (at_act a ps qs p q t.0 u.0 h k)

-- ---- the theorem

copied : (s t : List ℕ) → Bytes s → (widen_reply s t).number ≡ 0 → Longer s (widen_reply s t).buffer
copied s t b e =
    let d = widen_done s t e in
    let c : capacity (length s) ≡ stream_limit = ap capacity d.source ∙ short_room in
    record {
      state = state_in s;
      sound = subst (λ (n : ℕ). Sound n (state_in s)) c (valid_sound s b d.is_state);
      short = valid_bytes s b d.is_state ∙ ap (λ (n : ℕ). bytes_of n (state_in s)) d.source;
      long = d.buffer;
    }

answers : (s w : List ℕ) → Longer s w → Alike s w
answers s w l = record {
  calls = same_seen s w l;
  text = λ lent. text_state s lent (short_valid s w l) ∙ ap (λ (N : State). given (render (declared_in N)) lent) (same_state_lem s w l) ∙ sym (text_state w lent (long_valid s w l));
  counts = λ i. reply_state i s (short_valid s w l) ∙ ap (missing i) (same_state_lem s w l) ∙ sym (reply_state i w (long_valid s w l));
  writes = write_same s w l;
  loads = λ text z. same_number s w l text (λ e. z (short_number s w l text ∙ e));
}

-- A state copied into a longer buffer is the same state there, and whatever is then done to both, they answer alike.
pub goes_on : GoesOn
goes_on = record {
  taken = λ s t a v b. ap (λ (r : WidenReply). r.number) (done s t a b v);
  same = copied;
  still = λ s w o l acts t u. (at_all acts [] [] (record { bytes = s; course = o }) (record { bytes = w; course = o }) t u tt (l, refl)).0;
  course = λ s w o l acts t u. (at_all acts [] [] (record { bytes = s; course = o }) (record { bytes = w; course = o }) t u tt (l, refl)).1;
  alike = answers;
}
