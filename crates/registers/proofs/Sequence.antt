-- Any writes leave the engine as the calls that they start would, and return those calls' numbers.
use Prim.Native.Nat.{ℕ}
use mathlib.Core.Path.{◌≡◌, refl, sym, ap, ap₂, ◌∙◌}
use mathlib.Core.Bool.{Bool, true, false, cond, ◌&&◌, ◌||◌, false≢true}
use mathlib.Core.List.{List, [], ◌∷◌, ◌++◌}
use lib.Dec.{eqb, ltb}
use lib.ListN.{length, set}
use Rattle.machine.specs.Calls.{Call}
use Rattle.block.specs.Block.{block_length, command_at, flags_at, mask_at, flags_in, cleared}
use Rattle.calls.specs.Reply.{reply, left_by, numbers_by}
use Rattle.registers.specs.Write.{Written, is_command, call_in, commanded, refused, stored, write, starts}
use Rattle.registers.specs.Sequence.{Byte, state_after, calls_of, numbers_of, SameAsCalls}

-- ---- one write

-- it is the call that it starts, or it leaves the state
pub record OneWrite (c : Call) (s : List ℕ) (p : Bool) (w : Written) : Type 0 where
  pub started : p ≡ true → (w.number ≡ (reply c s).number) × (w.state ≡ (reply c s).buffer)
  pub none : p ≡ false → w.state ≡ s

stays : (c : Call) (s : List ℕ) (w : Written) → w.state ≡ s → OneWrite c s false w
stays c s w e = record { started = λ q. absurd (false≢true q); none = λ q. e }

pub one_write : (s b : List ℕ) (at x : ℕ) → OneWrite (call_in b x) s (starts b at x) (write s b at x)
unfolding write
one_write s b at x = by (eqb (length b) block_length) (eqb at command_at) (is_command x) (eqb at flags_at) (ltb at command_at || eqb at mask_at)
  where
    by : (p q r u v : Bool)
        → OneWrite (call_in b x) s (p && (q && r))
        (cond p
        (cond q (cond r (commanded s b x) (refused s b))
        (cond u (stored s (set b flags_at (cleared (flags_in b) x))) (cond v (stored s (set b at x)) (refused s b))))
        (record { number = 17; block = b; state = s }))
    by false q r u v = stays (call_in b x) s (record { number = 17; block = b; state = s }) refl
    by true true true u v = unfold commanded in record { started = λ e. (refl, refl); none = λ e. absurd (false≢true (sym e)) }
    by true true false u v = stays (call_in b x) s (refused s b) refl
    by true false r true v = stays (call_in b x) s (stored s (set b flags_at (cleared (flags_in b) x))) refl
    by true false r false true = stays (call_in b x) s (stored s (set b at x)) refl
    by true false r false false = stays (call_in b x) s (refused s b) refl

-- ---- a list of writes

state_also : (c : Call) (s : List ℕ) (p : Bool) (w : Written) (l : List Call) → OneWrite c s p w → left_by w.state l ≡ left_by s (cond p (c ∷ []) [] ++ l)
unfolding left_by
state_also c s true w l h = ap (λ (y : List ℕ). left_by y l) (h.started refl).1
state_also c s false w l h = ap (λ (y : List ℕ). left_by y l) (h.none refl)

numbers_also : (c : Call) (s : List ℕ) (p : Bool) (w : Written) (l : List Call) → OneWrite c s p w → cond p (w.number ∷ []) [] ++ numbers_by w.state l ≡ numbers_by s (cond p (c ∷ []) [] ++ l)
unfolding numbers_by
numbers_also c s true w l h = ap₂ (λ (k : ℕ) (y : List ℕ). k ∷ numbers_by y l) (h.started refl).0 (h.started refl).1
numbers_also c s false w l h = ap (λ (y : List ℕ). numbers_by y l) (h.none refl)

same_state_lem : (xs : List Byte) (s b : List ℕ) → state_after xs s b ≡ left_by s (calls_of xs s b)
unfolding state_after calls_of
same_state_lem [] s b = unfold left_by in refl
same_state_lem (x ∷ xs) s b =
    let w = write s b x.at x.byte in
    same_state_lem xs w.state w.block ∙ state_also (call_in b x.byte) s (starts b x.at x.byte) w (calls_of xs w.state w.block) (one_write s b x.at x.byte)

same_numbers : (xs : List Byte) (s b : List ℕ) → numbers_of xs s b ≡ numbers_by s (calls_of xs s b)
unfolding numbers_of calls_of
same_numbers [] s b = unfold numbers_by in refl
same_numbers (x ∷ xs) s b =
    let w = write s b x.at x.byte in
    let p = starts b x.at x.byte in
    ap (λ (l : List ℕ). cond p (w.number ∷ []) [] ++ l) (same_numbers xs w.state w.block)
    ∙ numbers_also (call_in b x.byte) s p w (calls_of xs w.state w.block) (one_write s b x.at x.byte)

-- "Any sequence of register writes leaves the engine as the same direct calls would."
pub same_as_calls : SameAsCalls
same_as_calls = record { state = same_state_lem; numbers = same_numbers }
