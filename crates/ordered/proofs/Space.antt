-- At rest a stream holds only events from the stamp on to which every input is known. So an input that is less than 16 stamps
-- ahead of each other has space.
use Prim.Native.Nat.{ℕ, suc, ◌+◌, ◌-◌, ◌≤◌, ◌<◌}
use mathlib.Core.Path.{◌≡◌, refl, sym, ◌∙◌}
use mathlib.Core.Logic.{◌⊎◌, inl, inr}
use Rattle.std.specs.Prelude.{None}
use mathlib.Core.List.{List, [], ◌∷◌}
use native.Mathlib.Omega.{arith}
use lib.Dec.{T, leb→le}
use lib.ListN.{length}
use lib.IntN.{ℤ}
use Rattle.meaning.specs.Events.{Event, Streams, events, horizon, found}
use Rattle.meaning.specs.Table.{Solves}
use Rattle.meaning.proofs.Tests.{eqb_self}
use Rattle.machine.specs.State.{Declared, State, cell_at, room, declared_plan}
use Rattle.machine.specs.Step.{reads_it, least_waiting}
use Rattle.machine.specs.Calls.{Call, reading}
use Rattle.machine.proofs.Rising.{Rising, events_rising, rising_dropped}
use Rattle.machine.proofs.Release.{waiting_who}
use Rattle.runs.specs.Seen.{AllTyped, known}
use Rattle.runs.specs.Demand3.{IsInput, AtRest}
use Rattle.runs.specs.Claim.{Keeps, final, seen, next_number, readings}
use Rattle.runs.proofs.Tracks.{Tracks}
use Rattle.runs.proofs.Numbers.{reading_number, offer_9}
use Rattle.runs.proofs.Claimed.{tracks, known_is, none_waits, reached}

-- events by rising stamp are no more than the stamps
rising_few : (lo hi : ℕ) (xs : List Event) → Rising lo hi xs → length xs ≤ hi - lo
rising_few lo hi [] r = omega arith
rising_few lo hi (e ∷ es) r = let a = r.0 in let b = r.1 in omega (arith, rising_few (suc e.stamp) hi es r.2)

module _ (ds : List Declared) (keeps : Keeps ds) (cs : List Call) (typed : AllTyped cs) (S : Streams) (sol : Solves (declared_plan ds) (readings ds cs) S horizon) (rest : AtRest ds (next_number ds cs)) where
  abbrev M : State
  M = final ds cs

  abbrev tracked : Tracks S (final ds cs)
  tracked = tracks ds keeps cs typed S sol

  -- every stream is known to m or further
  held_few : (m : ℕ) → ((r : ℕ) → r < length M → m ≤ (cell_at M r).bound) → (s : ℕ) → length (cell_at M s).held ≤ (cell_at M s).bound - m
  held_few m all s =
      go (cell_at M s).held refl
      (rw (tracked.held s) (rising_dropped (least_waiting s M) 0 (cell_at M s).bound (events (S s) (cell_at M s).bound) (events_rising (S s) (cell_at M s).bound)))
    where
      go : (xs : List Event) → (cell_at M s).held ≡ xs → Rising (least_waiting s M) (cell_at M s).bound (cell_at M s).held → length xs ≤ (cell_at M s).bound - m
      go [] q r = omega arith
      go (e ∷ es) q r =
          let k : Rising (least_waiting s M) (cell_at M s).bound (e ∷ es) = rw q at r in
          let a = k.0 in let b = k.1 in let t = tracked.top s in
          omega (arith, b, who (waiting_who s M e.stamp (omega arith) a), rising_few (suc e.stamp) (cell_at M s).bound es k.2)
        where
          -- whoever waits for the oldest is known to m
          who : ((r : ℕ) × (r < length M) × T (reads_it s (cell_at M r).eqn) × ((cell_at M r).bound ≤ e.stamp)) ⊎ (T (cell_at M s).out × ((cell_at M s).next ≤ e.stamp)) → m ≤ e.stamp
          who (inl x) = let c = x.3 in omega (arith, all x.0 x.1)
          who (inr x) =
              let n : found (e ∷ es) e.stamp ≡ None = rw q at (none_waits ds keeps cs typed S sol rest s x.0 e.stamp x.1) in
              let z : ◌≡◌ {A = ℕ} 0 1 = cc (eqb_self e.stamp) in absurd (omega arith)

  -- no reading of it is refused 9
  pub near_space : (s : ℕ) → IsInput ds s → ((j : ℕ) → IsInput ds j → known s (seen ds cs) < known j (seen ds cs) + room) → (t : ℕ) (v : ℤ) → next_number ds cs (reading s t v) ≡ 9 → ⊥
  near_space s i near t v q =
      let y = (cell_at M s).bound in
      let e = known_is ds keeps cs typed S sol s i.1 in
      let m = y - 15 in
      let top = tracked.top s in
      let all = reached ds keeps cs typed S sol rest m (omega arith) (λ j h. omega (arith, near j h, known_is ds keeps cs typed S sol j h.1)) in
      omega (arith, held_few m all s, leb→le room (length (cell_at M s).held) (offer_9 s t v M (sym (reading_number s t v M) ∙ q)))
