-- How many of the held events come into a window at which its sum has no value: one turn of the count after the other.
use Prim.Native.Nat.{ℕ, suc, ◌+◌, ◌<◌, ◌≤◌}
use native.Mathlib.Omega.{arith}
use mathlib.Core.Path.{◌≡◌, sym, ap, ap₂, ◌∙◌}
use mathlib.Core.Bool.{Bool, true, false, cond}
use Rattle.std.specs.Prelude.{Option, None}
use mathlib.Core.List.{List}
use lib.Dec.{ltb}
use lib.IntN.{ℤ}
use lib.ListN.{length}
use borrow.Author.Tests.{lt-ltb, le-ltb}
use Rattle.meaning.specs.Plan.{wsum}
use Rattle.meaning.specs.Events.{has}
use Rattle.meaning.specs.Table.{latest_of, folded, value_of}
use Rattle.machine.specs.Counting.{sum_tally}
use Rattle.layout.specs.Record.{Slot, Raw, slot_at}
use Rattle.windows.specs.Window.{slot_words}
use Rattle.windows.proofs.Fits.{events_in, events_more, events_none, grown, now_is}

-- one more where there is no value
pub lack_more : (c : ℕ) {v : Option ℤ} → v ≡ None → c + 1 ≡ cond (has v) c (suc c)
lack_more c e = rw e (omega arith)

-- the count so far, and the rest of it
pub missed_on : (o : Bool) (c m rest n all : ℕ) → m ≡ cond o c (suc c) → n ≡ cond o rest (suc rest) → c + n ≡ all → m + rest ≡ all
missed_on true c m rest n all e q t = omega arith
missed_on false c m rest n all e q t = omega arith

pub missed_end : (k x n : ℕ) (w : List ℤ) (l : List Slot) → sum_tally k x w (events_in n n l) ≡ 0
unfolding sum_tally
missed_end k x n w l = rw (events_none n l)

module _ (k x first i n : ℕ) (w : List ℤ) (r : Raw) (low : first ≤ i) (h : i < n) (many : n ≤ length r.slots) (words : n ≤ length (slot_words r)) (t : ℕ) (stamp : t ≡ (slot_at i r).stamp) where
  abbrev rest : ℕ
  rest = sum_tally k x (grown first (i + 1) w r) (events_in (i + 1) n r.slots)

  turn : sum_tally k x (grown first i w r) (events_in i n r.slots) ≡ cond (ltb t x) (cond (has (value_of (folded wsum (latest_of k (grown first (i + 1) w r))))) rest (suc rest)) 0
  unfolding sum_tally
  turn =
      ap (sum_tally k x (grown first i w r)) (events_more i n r.slots h many)
      ∙ ap₂ (λ (s : ℕ) (z : List ℤ). cond (ltb s x) (cond (has (value_of (folded wsum (latest_of k z)))) (sum_tally k x z (events_in (i + 1) n r.slots)) (suc (sum_tally k x z (events_in (i + 1) n r.slots)))) 0) (sym stamp)
      (now_is wsum k x first i n w r low h many words t stamp)

  pub missed_stop : x ≤ t → sum_tally k x (grown first i w r) (events_in i n r.slots) ≡ 0
  missed_stop q = turn ∙ rw (le-ltb t x q)

  pub missed_more : t < x → (o : Option ℤ) → o ≡ value_of (folded wsum (latest_of k (grown first (i + 1) w r))) → sum_tally k x (grown first i w r) (events_in i n r.slots) ≡ cond (has o) rest (suc rest)
  missed_more q o e = turn ∙ rw (lt-ltb t x q, ← e)
