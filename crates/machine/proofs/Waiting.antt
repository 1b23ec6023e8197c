-- The least reader bound tells, for every stamp, whether some reader waits for an event there; no other number does.
use Prim.Native.Nat.{ℕ, zero, suc, ◌≤◌, ◌<◌}
use mathlib.Core.Path.{◌≡◌}
use mathlib.Core.Logic.{◌⊎◌, inl, inr}
use mathlib.Core.Bool.{Bool, true, false, not}
use mathlib.Core.List.{List, [], ◌∷◌, map}
use native.Mathlib.Omega.{arith}
use native.Mathlib.Decide.{dec_lt}
use lib.Dec.{T, eqb, eqb→eq, eqb_refl}
use Rattle.meaning.specs.Arguments.{Argument, arguments}
use Rattle.meaning.specs.Plan.{Eqn}
use Rattle.meaning.specs.Events.{horizon}
use Rattle.meaning.proofs.Tests.{Is, yes!, no!, look, T-or, T-or-l, T-or-r}
use Rattle.machine.specs.State.{State, cell_at}
use Rattle.machine.specs.Step.{any_of, reads_it, least_reader}
use Rattle.machine.specs.Waiting.{Among, Reader, TellsWaiting, SpaceTest, LeastBound}
use Rattle.machine.proofs.Release.{reader_top, reader_le, reader_who}

-- ---- the test for an argument finds just the arguments

found_first : (a s : ℕ) → a ≡ s → T (eqb a s)
found_first a s e = rw e (eqb_refl s)

among_any : (s : ℕ) (l : List Argument) → Among s l → T (any_of s (map (λ x. x.stream) l))
among_any s [] h = h
among_any s (x ∷ []) (inl e) = found_first x.stream s e
among_any s (x ∷ []) (inr h) = absurd h
among_any s (x ∷ y ∷ l) (inl e) = T-or-l (eqb x.stream s) (any_of s (map (λ z. z.stream) (y ∷ l))) (found_first x.stream s e)
among_any s (x ∷ y ∷ l) (inr h) = T-or-r (eqb x.stream s) (any_of s (map (λ z. z.stream) (y ∷ l))) (among_any s (y ∷ l) h)

any_among : (s : ℕ) (l : List Argument) → T (any_of s (map (λ x. x.stream) l)) → Among s l
any_among s [] h = h
any_among s (x ∷ []) h = inl (eqb→eq x.stream s h)
any_among s (x ∷ y ∷ l) h = go (T-or (eqb x.stream s) (any_of s (map (λ z. z.stream) (y ∷ l))) h) (any_among s (y ∷ l))
  where
    go : T (eqb x.stream s) ⊎ T (any_of s (map (λ z. z.stream) (y ∷ l))) → (T (any_of s (map (λ z. z.stream) (y ∷ l))) → Among s (y ∷ l)) → Among s (x ∷ y ∷ l)
    go (inl q) rest = inl (eqb→eq x.stream s q)
    go (inr q) rest = inr (rest q)

pub reads_among : (s : ℕ) (e : Eqn) → T (reads_it s e) → Among s (arguments e)
reads_among s e h = any_among s (arguments e) h

pub among_reads : (s : ℕ) (e : Eqn) → Among s (arguments e) → T (reads_it s e)
among_reads s e h = among_any s (arguments e) h

-- ---- the theorem

tells : (M : State) (s : ℕ) → TellsWaiting M s (least_reader s M)
tells M s =
    record {
      enough = λ t h x. let l = reader_le s M x.0 (among_reads s (cell_at M x.0).eqn x.1.1) in let y = x.2 in omega arith;
      needed = λ t h l. let x = reader_who s M (omega arith) in let y = x.3 in (x.0, (x.1, reads_among s (cell_at M x.0).eqn x.2), omega arith);
    }

-- two numbers that tell the same at every stamp are equal: the smaller one is a stamp at which they would differ
tells_once : (M : State) (s w v : ℕ) → w ≤ horizon → v ≤ horizon → TellsWaiting M s w → TellsWaiting M s v → w ≤ v
tells_once M s w v h k p q = go (dec_lt v w)
  where
    go : Dec (v < w) → w ≤ v
    go (no d) = omega arith
    go (yes d) = p.enough v (omega arith) (q.needed v (omega arith) (omega arith))

pub space_test : SpaceTest
space_test =
    record {
      holds = tells;
      once = λ M s w h p.
          let k = reader_top s M in
          let x = tells_once M s w (least_reader s M) h k p (tells M s) in
          let y = tells_once M s (least_reader s M) w k h (tells M s) p in
          omega arith;
    }

-- ---- the number among the bounds

-- somebody reads s, or nobody does
any_reader : (s : ℕ) (M : State) → ((r : ℕ) × Reader M s r) ⊎ ((r : ℕ) → Reader M s r → ⊥)
any_reader s [] = inr (λ r h. let l = h.0 in omega arith)
any_reader s (c ∷ M) = go (look (reads_it s c.eqn)) (any_reader s M)
  where
    none : T (not (reads_it s c.eqn)) → ((r : ℕ) → Reader M s r → ⊥) → (r : ℕ) → Reader (c ∷ M) s r → ⊥
    none x h zero k = not_both (reads_it s c.eqn) (among_reads s c.eqn k.1) x
      where
        not_both : (b : Bool) → T b → T (not b) → ⊥
        not_both true p q = q
        not_both false p q = p
    none x h (suc r) k = let l = k.0 in h r (omega arith, k.1)

    go : Is (reads_it s c.eqn) → ((r : ℕ) × Reader M s r) ⊎ ((r : ℕ) → Reader M s r → ⊥) → ((r : ℕ) × Reader (c ∷ M) s r) ⊎ ((r : ℕ) → Reader (c ∷ M) s r → ⊥)
    go (yes! q x) d = inl (0, (omega arith, reads_among s c.eqn x))
    go (no! q x) (inl d) = let l = d.1.0 in inl (suc d.0, (omega arith, d.1.1))
    go (no! q x) (inr h) = inr (none x h)

pub least_bound : (M : State) (s : ℕ) → ((r : ℕ) → Reader M s r → (cell_at M r).bound ≤ horizon) → LeastBound M s (least_reader s M)
least_bound M s h = record { least = below; one = go (dec_lt (least_reader s M) horizon) (any_reader s M) }
  where
    below : (r : ℕ) → Reader M s r → least_reader s M ≤ (cell_at M r).bound
    below r k = reader_le s M r (among_reads s (cell_at M r).eqn k.1)

    go : Dec (least_reader s M < horizon) → ((r : ℕ) × Reader M s r) ⊎ ((r : ℕ) → Reader M s r → ⊥)
        → ((r : ℕ) × Reader M s r × ((cell_at M r).bound ≡ least_reader s M)) ⊎ (((r : ℕ) → Reader M s r → ⊥) × (least_reader s M ≡ horizon))
    go (yes d) e =
        let x = reader_who s M d in
        let k : Reader M s x.0 = (x.1, reads_among s (cell_at M x.0).eqn x.2) in
        let y = x.3 in
        let z = below x.0 k in
        inl (x.0, k, omega arith)
    go (no d) (inl (r, k)) = let z = below r k in let y = h r k in inl (r, k, omega arith)
    go (no d) (inr e) = let z = reader_top s M in inr (e, omega arith)
