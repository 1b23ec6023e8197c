-- What a command's write shows of its call is the call's answer, and what a block of bytes asks for has the calls' types.
use Prim.Native.Nat.{ℕ, zero, suc, ◌<◌}
use mathlib.Core.Path.{◌≡◌, refl, sym, ap, ◌∙◌}
use mathlib.Core.Bool.{Bool, true, false, cond, ◌&&◌, false≢true}
use mathlib.Core.List.{List}
use native.Mathlib.Decide.{ℕ_discrete}
use lib.Dec.{eqb, ltb, leb, lit<}
use lib.IntN.{ℤ, pos}
use lib.ListN.{length}
use borrow.Author.Tests.{eqb-true, eqb-false}
use mir.Syntax.{w64}
use mir.Facts.{sfits_to_z}
use Rattle.le.specs.Bytes.{Bytes}
use Rattle.le.proofs.Laws.{part_below}
use Rattle.machine.specs.State.{State, cell_at, room}
use Rattle.machine.specs.Calls.{Call, reading, running, Outcome, unless, no_input, offer_reading, lowest, run, call}
use Rattle.machine.proofs.Outcomes.{run_more, run_ends}
use Rattle.runs.specs.Seen.{Typed}
use Rattle.block.specs.Block.{block_length, stream_in, stamp_in, value_in, reply_stamp_in, command_at}
use Rattle.valid.specs.Valid.{valid}
use Rattle.roundtrip.specs.In.{state_in}
use Rattle.calls.specs.Reply.{Reply, reply}
use Rattle.calls.proofs.Answers.{reply_outcome, reply_none, refused_plain}
use Rattle.registers.specs.Write.{Written, is_command, call_in, commanded, write, starts}
use Rattle.registers.proofs.Commands.{call_1, call_2, call_3}
use Rattle.registers.proofs.Writes.{write_command}
use Rattle.registers.proofs.Refusals.{laws}
use Rattle.histories.specs.Demands.{shown_in}

-- ---- only a collect hands out an event

abbrev NoEvent : Outcome → Type 0
NoEvent o = (o.stamp ≡ 0) × (o.value ≡ pos 0)

unless_none : (b : Bool) (k : ℕ) (M : State) (o : Outcome) → NoEvent o → NoEvent (unless b k M o)
unless_none true k M o h = (refl, refl)
unless_none false k M o h = h

reading_none : (i t : ℕ) (v : ℤ) (M : State) → NoEvent (call (reading i t v) M)
unfolding call offer_reading
reading_none i t v M =
    unless_none (no_input i M) 7 M _
    (unless_none (ltb t (cell_at M i).bound) 8 M _
    (unless_none (leb room (length (cell_at M i).held)) 9 M _ (refl, refl)))

run_none : (n : ℕ) (M : State) → NoEvent (run n M)
unfolding run
run_none zero M = (refl, refl)
run_none (suc n) M = go (ltb (lowest M) (length M)) refl
  where
    go : (p : Bool) → ltb (lowest M) (length M) ≡ p → NoEvent (run (suc n) M)
    go true e = rw (run_more n M e) (refl, refl)
    go false e = rw (run_ends n M e) (refl, refl)

-- of an answer
abbrev NoneShown : Reply → Type 0
NoneShown r = (r.stamp ≡ 0) × (r.value ≡ pos 0)

answer_none : (c : Call) (s : List ℕ) → NoEvent (call c (state_in s)) → NoneShown (reply c s)
answer_none c s h = go (valid s) refl
  where
    go : (p : Bool) → valid s ≡ p → NoneShown (reply c s)
    go true v = rw (reply_outcome c s v) h
    go false v = rw (reply_none c s v) (refl, refl)

other_none : (s b : List ℕ) (x : ℕ) → (x ≡ 2 → ⊥) → NoneShown (reply (call_in b x) s)
other_none s b x d = go (ℕ_discrete x 1)
  where
    go : Dec (x ≡ 1) → NoneShown (reply (call_in b x) s)
    go (yes e) = rw (call_1 b x e) (answer_none (reading (stream_in b) (stamp_in b) (value_in b)) s (reading_none (stream_in b) (stamp_in b) (value_in b) (state_in s)))
    go (no e) = rw (call_3 b x e d) (answer_none (running 64) s (unfold call in run_none 64 (state_in s)))

refused_none : (s : List ℕ) → Bytes s → (c : Call) → ((reply c s).number ≡ 0 → ⊥) → NoneShown (reply c s)
refused_none s h c d = let e = refused_plain c s h d in (ap (λ (y : Reply). y.stamp) e, ap (λ (y : Reply). y.value) e)

-- ---- a write that starts a command

pub record Started (b : List ℕ) (at x : ℕ) : Type 0 where
  pub whole : length b ≡ block_length
  pub place : at ≡ command_at
  pub command : is_command x ≡ true

pub started : (b : List ℕ) (at x : ℕ) → starts b at x ≡ true → Started b at x
started b at x = go (eqb (length b) block_length) refl (eqb at command_at) refl (is_command x) refl
  where
    go : (p : Bool) → eqb (length b) block_length ≡ p → (q : Bool) → eqb at command_at ≡ q → (r : Bool) → is_command x ≡ r → (p && (q && r)) ≡ true → Started b at x
    go true p true q true r e = record { whole = eqb-true (length b) block_length p; place = eqb-true at command_at q; command = r }
    go true p true q false r e = absurd (false≢true e)
    go true p false q z r e = absurd (false≢true e)
    go false p y q z r e = absurd (false≢true e)

-- the write gives the call's number and its buffer, and the block the event of a done collect
pub shown_is : (s b : List ℕ) (at x : ℕ) → Bytes s → starts b at x ≡ true → shown_in x (reply (call_in b x) s) (write s b at x) ≡ reply (call_in b x) s
shown_is s b at x h q = go (eqb x 2) refl (eqb (write s b at x).number 0) refl
  where
    z : Started b at x
    z = started b at x q

    answer : write s b at x ≡ commanded s b x
    answer = write_command s b at x z.whole z.place z.command

    number : (write s b at x).number ≡ (reply (call_in b x) s).number
    number = ap (λ (y : Written). y.number) answer ∙ (unfold commanded in refl)

    state : (write s b at x).state ≡ (reply (call_in b x) s).buffer
    state = ap (λ (y : Written). y.state) answer ∙ (unfold commanded in refl)

    same : (t : ℕ) (v : ℤ) → t ≡ (reply (call_in b x) s).stamp → v ≡ (reply (call_in b x) s).value
        → record { number = (write s b at x).number; moves = (reply (call_in b x) s).moves; stamp = t; value = v; buffer = (write s b at x).state } ≡ reply (call_in b x) s
    same t v et ev = λ y. record { number = number y; moves = (reply (call_in b x) s).moves; stamp = et y; value = ev y; buffer = state y }

    event : x ≡ 2 → (write s b at x).number ≡ 0 → (reply_stamp_in (write s b at x).block ≡ (reply (call_in b x) s).stamp) × (value_in (write s b at x).block ≡ (reply (call_in b x) s).value)
    event e k = from x at e z.place k
      where
        from : (y p : ℕ) → y ≡ 2 → p ≡ command_at → (write s b p y).number ≡ 0 → (reply_stamp_in (write s b p y).block ≡ (reply (call_in b y) s).stamp) × (value_in (write s b p y).block ≡ (reply (call_in b y) s).value)
        from y p e f k = rw (e, f) (let c = laws.collected s b h z.whole (rw (e, f) at k) in (c.stamp, c.value))

    go : (p : Bool) → eqb x 2 ≡ p → (k : Bool) → eqb (write s b at x).number 0 ≡ k
        → record { number = (write s b at x).number; moves = (reply (call_in b x) s).moves; stamp = cond (p && k) (reply_stamp_in (write s b at x).block) 0; value = cond (p && k) (value_in (write s b at x).block) (pos 0); buffer = (write s b at x).state } ≡ reply (call_in b x) s
    go true p true k = let e = event (eqb-true x 2 p) (eqb-true (write s b at x).number 0 k) in same (reply_stamp_in (write s b at x).block) (value_in (write s b at x).block) e.0 e.1
    go true p false k = let e = refused_none s h (call_in b x) (λ q. eqb-false (write s b at x).number 0 k (number ∙ q)) in same 0 (pos 0) (sym e.0) (sym e.1)
    go false p k q = let e = other_none s b x (eqb-false x 2 p) in same 0 (pos 0) (sym e.0) (sym e.1)

-- ---- the call's arguments

pub typed_call : (b : List ℕ) (x : ℕ) → Bytes b → Typed (call_in b x)
typed_call b x h = go (ℕ_discrete x 1) (ℕ_discrete x 2)
  where
    go : Dec (x ≡ 1) → Dec (x ≡ 2) → Typed (call_in b x)
    go (yes e) d = rw (call_1 b x e) (part_below b 0 4 h, part_below b 4 4 h, (sfits_to_z {w = w64} (record { fits = part_below b 8 8 h })).sfits)
    go (no e) (yes f) = rw (call_2 b x f) (part_below b 0 4 h)
    go (no e) (no f) = rw (call_3 b x e f) (lit< tt)
