-- What a refused write and a refused command leave, and what a done collect fills in.
use Prim.Native.Nat.{ℕ}
use mathlib.Core.Path.{◌≡◌, refl, sym, ap, ◌∙◌, subst}
use mathlib.Core.Bool.{Bool, true, false, ◌||◌}
use mathlib.Core.List.{List}
use native.Mathlib.Omega.{arith}
use native.Mathlib.Decide.{ℕ_discrete}
use lib.ListN.{length, get_or, set, length-set}
use lib.Seq.{get_or-set_other}
use Rattle.le.specs.Bytes.{Bytes}
use Rattle.block.specs.Block.{block_length, stream_in, command_at, status_at, flags_at, flags_in, value_in, reply_stamp_in, bit}
use Rattle.block.proofs.Bits.{raised_one}
use Rattle.block.proofs.Places.{ended_status, ended_other, ended_stamp, ended_value, command_stamp, command_value, filled_stamp, filled_value}
use Rattle.calls.specs.Reply.{reply}
use Rattle.calls.proofs.Answers.{reply_refused, collect_is_value, collect_is_stamp}
use Rattle.registers.specs.Write.{Written, call_in, answered, waiting, commanded, refused, write, starts}
use Rattle.registers.specs.Laws.{Refusal, Collected, Laws}
use Rattle.registers.proofs.Outputs.{waiting_is}
use Rattle.registers.proofs.Commands.{reply_small, call_2, answered_refused, answered_done}
use Rattle.registers.proofs.Writes.{write_length, write_command}
use Rattle.registers.proofs.Sequence.{one_write}
use Rattle.registers.proofs.Ways.{Way, was_command, was_refused, was_flags, was_stored, way}
use Rattle.registers.proofs.Flags.{answered_length, refused_flags, flags_hold}

-- ---- the state

state_stays : (s b : List ℕ) (at x : ℕ) → Bytes s → ((write s b at x).number ≡ 0 → ⊥) → (write s b at x).state ≡ s
state_stays s b at x h d = go (starts b at x) refl
  where
    go : (p : Bool) → starts b at x ≡ p → (write s b at x).state ≡ s
    go true q = let o = (one_write s b at x).started q in o.1 ∙ reply_refused (call_in b x) s h (λ e. d (o.0 ∙ e))
    go false q = (one_write s b at x).none q

-- ---- the block, of a refused write and of a refused call

or_off : (p : Bool) → (p || false) ≡ p
or_off true = refl
or_off false = refl

-- status, bit 1, the bytes that stay on 17, and those that stay on any number
record Leaves (b : List ℕ) (w : Written) : Type 0 where
  status : (w.number ≡ 0 → ⊥) → get_or w.block status_at 0 ≡ w.number
  same_bit : w.number ≡ 17 → bit 1 (flags_in w.block) ≡ bit 1 (flags_in b)
  same_bytes : w.number ≡ 17 → (i : ℕ) → (i ≡ status_at → ⊥) → (i ≡ flags_at → ⊥) → get_or w.block i 0 ≡ get_or b i 0
  others_same : (w.number ≡ 0 → ⊥) → (i : ℕ) → (i ≡ command_at → ⊥) → (i ≡ status_at → ⊥) → (i ≡ flags_at → ⊥) → get_or w.block i 0 ≡ get_or b i 0

done_leaves : (b : List ℕ) (w : Written) → w.number ≡ 0 → Leaves b w
done_leaves b w e = record { status = λ d. absurd (d e); same_bit = λ q. absurd (omega arith); same_bytes = λ q. absurd (omega arith); others_same = λ d. absurd (d e) }

refused_leaves : (s b : List ℕ) → length b ≡ block_length → Leaves b (refused s b)
refused_leaves s b l = record {
  status = λ d. ended_status 17 false b l;
  same_bit = λ q. ap (bit 1) (refused_flags b l) ∙ raised_one (flags_in b) 17 false ∙ or_off (bit 1 (flags_in b));
  same_bytes = λ q. ended_other 17 false b;
  others_same = λ d i c. ended_other 17 false b i;
}

command_leaves : (s b : List ℕ) (x : ℕ) → length b ≡ block_length → Leaves b (commanded s b x)
unfolding commanded
command_leaves s b x l =
    let r = reply (call_in b x) s in
    let h = reply_small (call_in b x) s in
    let a = answered x r b in
    record {
      status = λ d. ended_status r.number (waiting r.buffer) (set a command_at x) (length-set a command_at x ∙ answered_length x r b ∙ l);
      same_bit = λ q. absurd (omega arith);
      same_bytes = λ q. absurd (omega arith);
      others_same = λ d i c e f. ended_other r.number (waiting r.buffer) (set a command_at x) i e f ∙ get_or-set_other a command_at i x 0 c ∙ ap (λ (y : List ℕ). get_or y i 0) (answered_refused b x r d);
    }

leaves : (s b : List ℕ) (at x : ℕ) → length b ≡ block_length → Leaves b (write s b at x)
leaves s b at x l = go (way s b at x l)
  where
    go : Way s b at x → Leaves b (write s b at x)
    go (was_command q d e) = subst (Leaves b) (sym e) (command_leaves s b x l)
    go (was_refused q d e) = subst (Leaves b) (sym e) (refused_leaves s b l)
    go (was_flags q d e) = done_leaves b (write s b at x) (ap (λ (y : Written). y.number) e)
    go (was_stored q d e) = done_leaves b (write s b at x) (ap (λ (y : Written). y.number) e)

refusal : (s b : List ℕ) (at x : ℕ) → Bytes s → Refusal s b at x (write s b at x)
refusal s b at x h = go (ℕ_discrete (length b) block_length)
  where
    same : (length b ≡ block_length → ⊥) → (write s b at x).block ≡ b
    same d = ap (λ (y : Written). y.block) (write_length s b at x d)

    go : Dec (length b ≡ block_length) → Refusal s b at x (write s b at x)
    go (yes l) =
        let v = leaves s b at x l in
        record { same_state = state_stays s b at x h; other_length = λ d. absurd (d l); status = λ q. v.status; same_bit = v.same_bit; same_bytes = v.same_bytes; others_same = v.others_same }
    go (no d) =
        record {
          same_state = state_stays s b at x h;
          other_length = λ q. (ap (λ (y : Written). y.number) (write_length s b at x d), same d);
          status = λ q. absurd (d q);
          same_bit = λ q. ap (λ (y : List ℕ). bit 1 (flags_in y)) (same d);
          same_bytes = λ q i e f. ap (λ (y : List ℕ). get_or y i 0) (same d);
          others_same = λ q i c e f. ap (λ (y : List ℕ). get_or y i 0) (same d);
        }

-- ---- a done collect

in_block : (s b : List ℕ) → Bytes s → length b ≡ block_length → (reply (call_in b 2) s).number ≡ 0 → Collected s b (commanded s b 2)
unfolding commanded
in_block s b h l k =
    let r = reply (call_in b 2) s in
    let a = answered 2 r b in
    let f = answered_done b 2 r refl k in
    let c = call_2 b 2 refl in
    record {
      stamp =
          ended_stamp r.number (waiting r.buffer) (set a command_at 2) ∙ command_stamp 2 a ∙ ap (λ (y : List ℕ). reply_stamp_in y) f
          ∙ filled_stamp r.stamp r.value b l (rw c (collect_is_stamp s h (stream_in b)));
      value =
          ended_value r.number (waiting r.buffer) (set a command_at 2) ∙ command_value 2 a ∙ ap (λ (y : List ℕ). value_in y) f
          ∙ filled_value r.stamp r.value b l (record { sfits = rw c (collect_is_value s h (stream_in b)) });
    }

collected : (s b : List ℕ) → Bytes s → length b ≡ block_length → (write s b command_at 2).number ≡ 0 → Collected s b (write s b command_at 2)
unfolding commanded
collected s b h l z =
    let e = write_command s b command_at 2 l refl refl in
    subst (Collected s b) (sym e) (in_block s b h l (sym (ap (λ (y : Written). y.number) e) ∙ z))

-- ---- all of them

pub laws : Laws
laws = record { waiting = waiting_is; flags = flags_hold; refusal = refusal; collected = collected }
