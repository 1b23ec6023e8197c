-- What holds of a state of any size: its streams lie within it, and no size has more than the greatest capacity.
use Prim.Native.Nat.{ℕ, ◌+◌, ◌*◌, ◌<◌, ◌≤◌}
use mathlib.Core.Path.{◌≡◌, refl}
use mathlib.Core.Bool.{Bool, true, false, cond}
use native.Mathlib.Omega.{arith}
use lib.Dec.{eqb}
use borrow.Author.Tests.{eqb-true}
use Rattle.operators.specs.Limits.{state_length, long_length, stream_limit, most_streams, width_limit, window_limit, capacity}

-- what holds of every size with its capacity holds of 0, and of each size that a state may have
by_size : (P : ℕ → Type 0) → (size : ℕ) → P 0 → (size ≡ state_length → P stream_limit) → (size ≡ long_length → P most_streams) → P (capacity size)
unfolding capacity
by_size P size none state long = go (eqb size state_length) refl (eqb size long_length) refl
  where
    go : (b : Bool) → eqb size state_length ≡ b → (c : Bool) → eqb size long_length ≡ c → P (cond b stream_limit (cond c most_streams 0))
    go true e c f = state (eqb-true size state_length e)
    go false e true f = long (eqb-true size long_length f)
    go false e false f = none

pub capacity_fits : (size : ℕ) → capacity size * 256 ≤ size
capacity_fits size = by_size (λ (n : ℕ). n * 256 ≤ size) size (omega arith) (λ e. omega arith) (λ e. omega arith)

pub capacity_few : (size : ℕ) → capacity size ≤ most_streams
capacity_few size = by_size (λ (n : ℕ). n ≤ most_streams) size (omega arith) (λ e. omega arith) (λ e. omega arith)

-- behind the records of a state lies room for the windows, 8 bytes for each value
pub capacity_area : (size : ℕ) → 0 < capacity size → capacity size * 256 + window_limit * width_limit * 8 ≡ size
capacity_area size = by_size (λ (n : ℕ). 0 < n → n * 256 + window_limit * width_limit * 8 ≡ size) size (λ h. absurd (omega arith)) (λ e h. omega arith) (λ e h. omega arith)

-- the two sizes
pub short_room : capacity state_length ≡ stream_limit
unfolding capacity
short_room = refl

pub long_room : capacity long_length ≡ most_streams
unfolding capacity
long_room = refl
