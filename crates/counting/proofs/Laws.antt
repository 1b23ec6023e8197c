-- The laws that the functions of this crate cite: one for each way out, and one turn of the count after the other.
use Prim.Native.Nat.{ℕ, suc, ◌+◌, ◌*◌, ◌/◌, ◌%◌, ◌^◌, ◌<◌, ◌≤◌, min}
use native.Mathlib.Omega.{arith}
use mathlib.Core.Path.{◌≡◌, refl, sym, ap, ◌∙◌}
use mathlib.Core.Bool.{Bool, true, false, cond, ◌||◌}
use mathlib.Core.Logic.{◌⊎◌}
use Rattle.std.specs.Prelude.{Option, None, Some, is_some}
use Rattle.events.proofs.Laws.{neither_has, either_has}
use mathlib.Core.List.{List, []}
use lib.Dec.{ltb, lit<}
use lib.Seq.{set-get_or}
use lib.IntN.{ℤ}
use lib.ListN.{length}
use borrow.Author.Tests.{lt-ltb, le-ltb}
use Rattle.meaning.specs.Plan.{Calc}
use Rattle.meaning.specs.Events.{has}
use Rattle.meaning.specs.Missing.{Reason, Outside, ZeroDivisor, said_for, calc_says, signal_says, count_limit}
use Rattle.machine.specs.Windows.{take_below}
use Rattle.machine.specs.Counting.{tally_of}
use Rattle.layout.specs.Record.{Slot, Raw, dec_raw, num, with_num, slot_at, counts_f}
use Rattle.layout.proofs.Laws.{RawOk, num_small}
use Rattle.encoding.specs.Back.{held_of}
use Rattle.machine.specs.Step.{drop_below}
use Rattle.apply.specs.declared.Unary.{Unary}
use Rattle.apply.specs.declared.Calc as code
use Rattle.apply.specs.declared.Binary.{Binary}
use Rattle.streams.specs.declared.Op.{Op}
use Rattle.streams.specs.declared.Op.TheVariants.{One, Two, Signal}
use Rattle.streams.specs.declared.Kept.{Kept}
use Rattle.apply.specs.Lack.{lack_for}
use Rattle.windows.proofs.Fits.{events_in, events_more, events_none}
use Rattle.counting.specs.declared.Tally.{Tally}
use Rattle.counting.specs.Tally.{count_in, hears_in, asked_in, tallied_in, counted_row}

-- ---- one stamp more

abbrev pub of : (m n : ℕ) → Tally
of m n = record { outside = m; divisors = n }

pub none_is : (q : Reason) → count_in q (of 0 0) ≡ 0
none_is Outside = refl
none_is ZeroDivisor = refl

pub more_none : (q : Reason) (c : Tally) {x : Option Reason} → x ≡ None → count_in q c ≡ cond (lack_for q x) (suc (count_in q c)) (count_in q c)
more_none q c e = rw e

pub more_outside : (q : Reason) (c : Tally) {x : Option Reason} {r : Reason} → x ≡ Some r → r ≡ Outside → count_in q (of (c.outside + 1) c.divisors) ≡ cond (lack_for q x) (suc (count_in q c)) (count_in q c)
more_outside Outside c e d = rw (e, d) (omega arith)
more_outside ZeroDivisor c e d = rw (e, d)

pub more_divisor : (q : Reason) (c : Tally) {x : Option Reason} {r : Reason} → x ≡ Some r → r ≡ ZeroDivisor → count_in q (of c.outside (c.divisors + 1)) ≡ cond (lack_for q x) (suc (count_in q c)) (count_in q c)
more_divisor Outside c e d = rw (e, d)
more_divisor ZeroDivisor c e d = rw (e, d) (omega arith)

-- ---- a signal form

module _ (q : Reason) (c : Calc) (u w x y : Option ℤ) where
  pub signal_quiet : is_some u ≡ false → is_some w ≡ false → false ≡ said_for q (signal_says c u w x y)
  unfolding signal_says
  signal_quiet e d = let k : (has u || has w) ≡ false = neither_has u w e d in rw k

  pub signal_heard : (is_some u ≡ true) ⊎ (is_some w ≡ true) → said_for q (calc_says c x y) ≡ said_for q (signal_says c u w x y)
  unfolding signal_says
  signal_heard e = let k : (has u || has w) ≡ true = either_has u w e in rw k

-- ---- an arm of a match on the operator

pub hears_arm : (q : Reason) (k : Kept) (A B : List ℕ) (t : ℕ) {p r : Op} → p ≡ r → said_for q (hears_in r k A B t) ≡ said_for q (hears_in p k A B t)
hears_arm q k A B t e = sym (ap (λ (o : Op). said_for q (hears_in o k A B t)) e)

pub tallied_arm : (q : Reason) (k : Kept) (A B : List ℕ) (y x : ℕ) {p r : Op} → p ≡ r → tallied_in q r k A B y x ≡ tallied_in q p k A B y x
tallied_arm q k A B y x e = sym (ap (λ (o : Op). tallied_in q o k A B y x) e)

module _ (q : Reason) (k : Kept) (A B : List ℕ) (y x : ℕ) where
  abbrev first : Op → ℕ
  first op = tally_of (asked_in q false op k A B) (take_below x (drop_below y (held_of (dec_raw A))))

  pub one_tallied : {op : Op} (f : Unary) (a : ℕ) → op ≡ One f a → first op ≡ tallied_in q op k A B y x
  one_tallied f a e = rw e

  pub two_tallied : {op : Op} (g : Binary) (a b : ℕ) → op ≡ Two g a b → first op ≡ tallied_in q op k A B y x
  two_tallied g a b e = rw e

  pub signal_tallied : {op : Op} (g : code.Calc) (a b : ℕ) → op ≡ Signal g a b
      → first op + tally_of (asked_in q true op k A B) (take_below x (drop_below y (held_of (dec_raw B)))) ≡ tallied_in q op k A B y x
  signal_tallied g a b e = rw e

-- ---- of both arguments

pub both_sum : (q : Reason) (c d : Tally) → count_in q (of (c.outside + d.outside) (c.divisors + d.divisors)) ≡ count_in q c + count_in q d
both_sum Outside c d = refl
both_sum ZeroDivisor c d = refl

-- ---- a turn of the count

pub tally_end : (f : ℕ → Bool) (x n : ℕ) (l : List Slot) → tally_of f (take_below x (events_in n n l)) ≡ 0
unfolding take_below tally_of
tally_end f x n l = rw (events_none n l)

module _ (f : ℕ → Bool) (x i n : ℕ) (r : Raw) (h : i < n) (many : n ≤ length r.slots) (t : ℕ) (stamp : t ≡ (slot_at i r).stamp) where
  abbrev rest : ℕ
  rest = tally_of f (take_below x (events_in (i + 1) n r.slots))

  turn : (b : Bool) → ltb t x ≡ b → tally_of f (take_below x (events_in i n r.slots)) ≡ cond b (cond (f t) (suc rest) rest) 0
  unfolding take_below tally_of
  turn true e = rw (events_more i n r.slots h many, ← stamp, e)
  turn false e = rw (events_more i n r.slots h many, ← stamp, e)

  pub tally_stop : x ≤ t → tally_of f (take_below x (events_in i n r.slots)) ≡ 0
  tally_stop q = turn false (le-ltb t x q)

  pub tally_more : t < x → tally_of f (take_below x (events_in i n r.slots)) ≡ cond (f t) (suc rest) rest
  tally_more q = turn true (lt-ltb t x q)

-- the count so far, and the rest of it
pub tallied_on : (b d : Bool) (c m rest n all : ℕ) → d ≡ b → m ≡ cond d (suc c) c → n ≡ cond b (suc rest) rest → c + n ≡ all → m + rest ≡ all
tallied_on true d c m rest n all q e p t = let e' : m ≡ suc c = e ∙ rw q in omega arith
tallied_on false d c m rest n all q e p t = let e' : m ≡ c = e ∙ rw q in omega arith

-- ---- the counts of a record

pub counted_is : (m n x y : ℕ) (r : Raw) → x ≡ min count_limit (num counts_f r % 2 ^ 32 + m) → y ≡ min count_limit (num counts_f r / 2 ^ 32 + n) → counted_row m n r ≡ with_num counts_f (x + y * 2 ^ 32) r
unfolding counted_row
counted_is m n x y r d e = rw (d, e)

pub halves : (x : ℕ) → x < 2 ^ 64 → (x % 2 ^ 32 ≤ count_limit) × (x / 2 ^ 32 ≤ count_limit)
halves x h = (omega arith, omega arith)

-- nothing comes to them, and the record stays
pub counted_none : (r : Raw) → RawOk r → counted_row 0 0 r ≡ r
unfolding counted_row
counted_none r ok =
    let h = num_small r counts_f ok (lit< tt) in
    let e : min count_limit (num counts_f r % 2 ^ 32 + 0) + min count_limit (num counts_f r / 2 ^ 32 + 0) * 2 ^ 32 ≡ num counts_f r = omega arith in
    ap (λ (v : ℕ). with_num counts_f v r) e ∙ ap (λ (l : List ℕ). record { nums = l; slots = r.slots }) (set-get_or r.nums counts_f 0)

-- ---- no event is passed

pub none_at_end : (x n i : ℕ) (l : List Slot) → i ≡ n → take_below x (events_in i n l) ≡ []
unfolding take_below
none_at_end x n i l e = rw (e, events_none n l)

pub none_below : (x i n : ℕ) (r : Raw) → i < n → n ≤ length r.slots → (t : ℕ) → t ≡ (slot_at i r).stamp → x ≤ t → take_below x (events_in i n r.slots) ≡ []
unfolding take_below
none_below x i n r h many t stamp q = rw (events_more i n r.slots h many, ← stamp, le-ltb t x q)
