-- A sound cell's record keeps within its widths, and is read back as the cell.
use Prim.Native.Nat.{ℕ, zero, suc, ◌+◌, ◌*◌, ◌^◌, ◌<◌, ◌≤◌, min}
use mathlib.Core.Path.{◌≡◌, refl, sym, ap, ap₂, ◌∙◌}
use mathlib.Core.List.{List, [], ◌∷◌, map}
use mathlib.Core.Bool.{Bool, true, false, not}
use Rattle.std.specs.Prelude.{Option, None, Some}
use native.Mathlib.Omega.{arith}
use lib.Dec.{eqb, lit<}
use lib.IntN.{ℤ, pos, negsuc}
use lib.ListN.{length, take}
use mir.Syntax.{w64}
use mir.Val.{of_z, to_z}
use mir.Facts.{to_z-of_z}
use Rattle.meaning.specs.Plan.{Eqn, input, nil, unit, one, two, last, delay, signal, window}
use Rattle.meaning.specs.Arguments.{reads, arg_a, arg_b, AllBelow}
use Rattle.meaning.specs.Events.{Event, ev, horizon}
use Rattle.meaning.specs.Missing.{Outside, ZeroDivisor, can_lack}
use Rattle.machine.specs.State.{Kept, Passed, Cell, room, no_passed, with_passed}
use Rattle.operators.specs.Windows.{IsWidth}
use Rattle.operators.specs.Operators.{group_of, number_of, value_of, eqn_of}
use Rattle.operators.proofs.Laws.{one_group, two_group, signal_group, window_group, number_range, eqn_back}
use Rattle.le.proofs.RoundTrip.{All}
use Rattle.layout.specs.Record.{no_slot}
use Rattle.layout.proofs.Laws.{RawOk, SlotOk}
use Rattle.encoding.specs.View.{flag, flag_of, bits_of, KeptNums, kept_nums, slot_of, pad_to, counts_word, raw_of, of_cell}
use Rattle.encoding.specs.Back.{optional, event_of, held_of, kept_of, to_cell}
use Rattle.encoding.specs.Sound.{IsValue, IsOptional, Rising, IsNext, IsKept, IsPassed, IsCount, SoundCell}

-- ---- numbers below their widths

pub bits_below : (v : ℤ) → IsValue v → of_z w64 v < 2 ^ 64
bits_below (pos n) h = omega arith
bits_below (negsuc n) h = omega arith

pub value_back : (v : ℤ) → IsValue v → to_z w64 (of_z w64 v) ≡ v
value_back v h = to_z-of_z {w = w64} {z = v} (record { sfits = h })

flag_below : (o : Option ℤ) → flag_of o < 256
flag_below None = lit< tt
flag_below (Some v) = lit< tt

bool_below : (b : Bool) → flag b < 256
bool_below true = lit< tt
bool_below false = lit< tt

optional_below : (o : Option ℤ) → IsOptional o → bits_of o < 2 ^ 64
optional_below None h = lit< tt
optional_below (Some v) h = bits_below v h

optional_back : (o : Option ℤ) → IsOptional o → optional (flag_of o) (bits_of o) ≡ o
optional_back None h = refl
optional_back (Some v) h = ap Some (value_back v h)

number_below : (e : Eqn) → number_of e < 256
number_below e = let r = number_range e in omega arith

module _ (n : ℕ) (h : n ≤ 256) where
  first_below : (e : Eqn) → AllBelow n (reads e) → arg_a e < 256
  first_below input k = lit< tt
  first_below nil k = lit< tt
  first_below unit k = lit< tt
  first_below (one f a) k = omega (arith, k.0)
  first_below (two g a b) k = omega (arith, k.0)
  first_below (last a b) k = omega (arith, k.0)
  first_below (delay a b) k = omega (arith, k.0)
  first_below (signal c a b) k = omega (arith, k.0)
  first_below (window f w a) k = omega (arith, k.0)

  second_below : (e : Eqn) → AllBelow n (reads e) → arg_b e < 256
  second_below input k = lit< tt
  second_below nil k = lit< tt
  second_below unit k = lit< tt
  second_below (one f a) k = lit< tt
  second_below (two g a b) k = omega (arith, k.1.0)
  second_below (last a b) k = omega (arith, k.1.0)
  second_below (delay a b) k = omega (arith, k.1.0)
  second_below (signal c a b) k = omega (arith, k.1.0)
  second_below (window f w a) k = lit< tt

-- the five numbers of what is kept
pub record KeptSmall (n : KeptNums) : Type 0 where
  pub flag : n.flag < 256
  pub prior_flag : n.prior_flag < 256
  pub kept : n.kept < 2 ^ 64
  pub value : n.value < 2 ^ 64
  pub prior : n.prior < 2 ^ 64

none_small : KeptSmall (record { flag = 0; prior_flag = 0; kept = 0; value = 0; prior = 0 })
none_small = record { flag = lit< tt; prior_flag = lit< tt; kept = lit< tt; value = lit< tt; prior = lit< tt }

kept_small : (e : Eqn) (y : ℕ) (k : Kept) (w : Passed) → y ≤ horizon → IsWidth e → IsKept e y k → IsPassed e y w → KeptSmall (kept_nums e k w)
kept_small input y k w h i ok p = none_small
kept_small nil y k w h i ok p = none_small
kept_small unit y k w h i ok p = none_small
kept_small (one f a) y k w h i ok p = none_small
kept_small (two g a b) y k w h i ok p = none_small
kept_small (last a b) y k w h i ok p =
    record { flag = flag_below k.prev; prior_flag = lit< tt; kept = optional_below k.prev ok.prev; value = lit< tt; prior = lit< tt }
kept_small (delay a b) y k w h i ok p =
    let s = ok.since in
    record { flag = flag_below k.value; prior_flag = flag_below k.prior; kept = omega arith; value = optional_below k.value ok.value; prior = optional_below k.prior ok.prior }
kept_small (signal c a b) y k w h i ok p =
    record { flag = flag_below k.prev; prior_flag = flag_below k.prev_b; kept = optional_below k.prev ok.prev; value = optional_below k.prev_b ok.prev_b; prior = lit< tt }
kept_small (window f n a) y k w h i ok p =
    let s = p.few in
    let l = i.1 in
    record { flag = omega arith; prior_flag = lit< tt; kept = lit< tt; value = lit< tt; prior = lit< tt }

-- ---- slots

pub rising_le : (lo top : ℕ) (es : List Event) → Rising lo top es → lo ≤ top
rising_le lo top [] r = r
rising_le lo top (e ∷ es) r = let u = rising_le (suc e.stamp) top es r.2 in let v = r.0 in omega arith

slots_small : (lo top n : ℕ) (es : List Event) → top ≤ horizon → Rising lo top es → All SlotOk (pad_to n no_slot (map slot_of es))
unfolding pad_to
slots_small lo top zero es h r = tt
slots_small lo top (suc n) [] h r = ((lit< tt, lit< tt), slots_small lo top n [] h r)
slots_small lo top (suc n) (e ∷ es) h r =
    let b = rising_le (suc e.stamp) top es r.2 in
    ((omega arith, bits_below e.value r.1), slots_small (suc e.stamp) top n es h r.2)

pub pad_length : {A : Type 0} (n : ℕ) (d : A) (l : List A) → length (pad_to n d l) ≡ n
unfolding pad_to
pad_length zero d l = refl
pad_length (suc n) d [] = ap suc (pad_length n d [])
pad_length (suc n) d (a ∷ l) = ap suc (pad_length n d l)

pub cell_raw : (n : ℕ) (c : Cell) → n ≤ 256 → SoundCell n c → RawOk (of_cell c)
unfolding of_cell
cell_raw n c h ok =
    let k = kept_small c.eqn c.bound c.kept c.passed ok.bound ok.width ok.kept ok.passed in
    let b = ok.bound in
    let f = ok.few in
    record {
      heads = (
        number_below c.eqn,
        (
          first_below n h c.eqn ok.arguments,
          (
            second_below n h c.eqn ok.arguments,
            (
              bool_below c.out,
              (
                omega arith,
                (k.flag, (k.prior_flag, (lit< tt, (bits_below (value_of c.eqn) ok.value, (omega arith, (next_small c.out ok.next, (k.kept, (k.value, (k.prior, (counts_small c.passed.outside c.passed.divisors (ok.counts Outside) (ok.counts ZeroDivisor), tt)))))))))),
              ),
            ),
          ),
        ),
      );
      many = pad_length room no_slot (map slot_of c.held);
      good = slots_small 0 c.bound room c.held b ok.held;
    }
  where
    count_small : (b : Bool) (m : ℕ) → IsCount b c.bound m → m < 2 ^ 32
    count_small true m q = q.0
    count_small false m q = omega arith

    counts_small : (m n : ℕ) → IsCount (can_lack c.eqn) c.bound m → IsCount (can_lack c.eqn) c.bound n → m + n * 2 ^ 32 < 256 ^ 8
    counts_small m n p q = let i = count_small (can_lack c.eqn) m p in let j = count_small (can_lack c.eqn) n q in omega arith

    next_small : (o : Bool) → IsNext o c.next c.bound → c.next < 256 ^ 8
    next_small true q = omega (arith, ok.bound)
    next_small false q = omega (arith, q)

-- ---- read back

held_back : (lo top n : ℕ) (es : List Event) → length es ≤ n → Rising lo top es → map event_of (take (length es) (pad_to n no_slot (map slot_of es))) ≡ es
unfolding pad_to
held_back lo top zero [] h r = refl
held_back lo top (suc n) [] h r = refl
held_back lo top zero (e ∷ es) h r = absurd (omega arith)
held_back lo top (suc n) (e ∷ es) h r =
    ap₂ ◌∷◌ (ap (ev e.stamp) (value_back e.value r.1)) (held_back (suc e.stamp) top n es (omega arith) r.2)

kept_back : (e : Eqn) (k : Kept) (w : Passed) (o : Bool) (y : ℕ) (h : List Event) (m z : ℕ) → IsKept e y k → kept_of (raw_of e o y h m (kept_nums e k w) z) ≡ k
unfolding kept_of group_of number_of
kept_back input k w o y h m z ok = sym ok
kept_back nil k w o y h m z ok = sym ok
kept_back unit k w o y h m z ok = sym ok
kept_back (one f a) k w o y h m z ok = rw (one_group f) (sym ok)
kept_back (two g a b) k w o y h m z ok = rw (two_group g) (sym ok)
kept_back (last a b) k w o y h m z ok =
    let p = optional_back k.prev ok.prev in
    λ i. record { prev = p i; prev_b = sym ok.prev_b i; since = sym ok.since i; value = sym ok.value i; prior = sym ok.prior i }
kept_back (delay a b) k w o y h m z ok =
    let v = optional_back k.value ok.value in
    let p = optional_back k.prior ok.prior in
    λ i. record { prev = sym ok.prev i; prev_b = sym ok.prev_b i; since = k.since; value = v i; prior = p i }
kept_back (signal c a b) k w o y h m z ok =
    let p = optional_back k.prev ok.prev in
    let q = optional_back k.prev_b ok.prev_b in
    rw (signal_group c) (λ i. record { prev = p i; prev_b = q i; since = sym ok.since i; value = sym ok.value i; prior = sym ok.prior i })
kept_back (window f n a) k w o y h m z ok = rw (window_group f) (sym ok)

out_back : (b : Bool) → not (eqb (flag b) 0) ≡ b
out_back true = refl
out_back false = refl

-- every sound cell is what its record gives, but for what is kept of the passed stamps
pub cell_back : (n : ℕ) (c : Cell) → SoundCell n c → to_cell (of_cell c) ≡ with_passed no_passed c
unfolding to_cell held_of of_cell
cell_back n c ok =
    let f = ok.few in
    let m : min (length c.held) room ≡ length c.held = omega arith in
    let e = ap (eqn_of (number_of c.eqn) (arg_a c.eqn) (arg_b c.eqn)) (value_back (value_of c.eqn) ok.value) ∙ eqn_back c.eqn in
    let h = ap (λ (j : ℕ). map event_of (take j (pad_to room no_slot (map slot_of c.held)))) m ∙ held_back 0 c.bound room c.held f ok.held in
    let k = kept_back c.eqn c.kept c.passed c.out c.bound c.held c.next (counts_word c.passed) ok.kept in
    λ i. record { eqn = e i; out = out_back c.out i; bound = c.bound; held = h i; next = c.next; kept = k i; passed = no_passed }
