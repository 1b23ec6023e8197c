-- What a last, a delay, a signal form or a window keeps, and the counts, told by the solution: the machine's search for the
-- latest set point finds the latest, and what a signal form or a window needs of its arguments is known.
use mathlib.Core.Path.{◌≡◌, refl, ap}
use mathlib.Core.Logic.{inl, inr}
use Prim.Native.Nat.{ℕ, zero, suc, pred, ◌≤◌, ◌<◌, max}
use native.Mathlib.Omega.{arith}
use native.Mathlib.Decide.{dec_le}
use lib.Dec.{ltb, lt→ltb}
use lib.ListN.{length}
use Rattle.meaning.specs.Plan.{Eqn, input, nil, unit, one, two, last, delay, signal, window}
use Rattle.meaning.specs.Events.{Stream, Streams}
use Rattle.meaning.specs.Missing.{Outside, ZeroDivisor}
use Rattle.meaning.proofs.Tests.{true_is}
use Rattle.meaning.proofs.Missing.{count_readings}
use Rattle.machine.specs.State.{State, cell_at}
use Rattle.machine.specs.Reach.{past_latest}
use Rattle.machine.specs.Calls.{missing}
use Rattle.machine.proofs.Window.{past_max, past_hit}
use Rattle.runs.specs.Inside.{known_in, SetPoint, PastLatest, never, past, KeptAs, PassedAs, missed_as}
use Rattle.runs.proofs.Kept.{kept_of, point_of, point_le}
use Rattle.runs.proofs.Passed.{passed_of}
use Rattle.runs.proofs.Tracks.{cut_latest, Ahead, Tracks}

-- every set point below y is counted
pub point_max : (b d : Stream) (y p : ℕ) → p < y → SetPoint b d p → p < point_of b d y
point_max b d y p l (inl h) = let k = past_max b y p l h in omega arith
point_max b d y p l (inr h) = let k = past_max d y p l h in omega arith

-- and what is counted is one past a set point
pub point_hit : (b d : Stream) (y : ℕ) → 0 < point_of b d y → SetPoint b d (pred (point_of b d y))
point_hit b d y l = go (dec_le (past_latest d y) (past_latest b y))
  where
    go : Dec (past_latest d y ≤ past_latest b y) → SetPoint b d (pred (max (past_latest b y) (past_latest d y)))
    go (yes k) = let e : max (past_latest b y) (past_latest d y) ≡ past_latest b y = omega arith in rw e (inl (past_hit b y (omega arith)))
    go (no k) = let e : max (past_latest b y) (past_latest d y) ≡ past_latest d y = omega arith in rw e (inr (past_hit d y (omega arith)))

pub point_latest : (b d : Stream) (y : ℕ) → PastLatest b d y (point_of b d y)
point_latest b d y = go (point_of b d y) refl
  where
    go : (z : ℕ) → point_of b d y ≡ z → PastLatest b d y z
    go zero e = never (λ p l s. let k = point_max b d y p l s in absurd (omega arith))
    go (suc p) e =
        let k = point_le b d y in
        let q : pred (point_of b d y) ≡ p = ap pred e in
        past {p = p} (omega arith) (rw q at (point_hit b d y (omega arith))) (λ r i j s. let m = point_max b d y r j s in absurd (omega arith))

kept_of_lem : (e : Eqn) (S : Streams) (M : State) (s y : ℕ) → Ahead e M y → KeptAs e S (known_in S M) s y (kept_of e (known_in S M) s y)
kept_of_lem input S M s y h = refl
kept_of_lem nil S M s y h = refl
kept_of_lem unit S M s y h = refl
kept_of_lem (one f a) S M s y h = refl
kept_of_lem (two g a b) S M s y h = refl
kept_of_lem (last a b) S M s y h = record { prev = refl; others = (refl, refl, refl, refl) }
kept_of_lem (delay a b) S M s y h = record { prev = refl; prev_b = refl; since = point_latest (known_in S M b) (known_in S M s) y; value = refl; prior = refl }
kept_of_lem (signal c a b) S M s y h = record { prev = cut_latest (S a) (cell_at M a).bound y h.0; prev_b = cut_latest (S b) (cell_at M b).bound y h.1; others = (refl, refl, refl) }
kept_of_lem (window f k a) S M s y h = refl

pub kept_as : (S : Streams) (M : State) → Tracks S M → (s : ℕ) → KeptAs (cell_at M s).eqn S (known_in S M) s (cell_at M s).bound (cell_at M s).kept
kept_as S M inv s = rw (inv.kept s) (kept_of_lem (cell_at M s).eqn S M s (cell_at M s).bound (inv.ahead s))

passed_of_lem : (e : Eqn) (S : Streams) (s y : ℕ) → PassedAs e S y (passed_of e S s y)
passed_of_lem input S s y = refl
passed_of_lem nil S s y = refl
passed_of_lem unit S s y = refl
passed_of_lem (one f a) S s y = refl
passed_of_lem (two g a b) S s y = refl
passed_of_lem (last a b) S s y = refl
passed_of_lem (delay a b) S s y = refl
passed_of_lem (signal c a b) S s y = refl
passed_of_lem (window f k a) S s y = refl

pub passed_as : (S : Streams) (M : State) → Tracks S M → (s : ℕ) → PassedAs (cell_at M s).eqn S (cell_at M s).bound (cell_at M s).passed
passed_as S M inv s = rw (inv.passed s) (passed_of_lem (cell_at M s).eqn S s (cell_at M s).bound)

-- the counts that are read
pub missed_as_lem : (S : Streams) (M : State) → Tracks S M → (rd : Streams) (s : ℕ) → s < length M → missing s M ≡ missed_as (cell_at M s).eqn rd S s (cell_at M s).bound
unfolding missing
missed_as_lem S M inv rd s l =
    rw (true_is (ltb s (length M)) (lt→ltb s (length M) l), inv.passed s, count_readings (cell_at M s).eqn Outside S rd S s (cell_at M s).bound, count_readings (cell_at M s).eqn ZeroDivisor S rd S s (cell_at M s).bound)
