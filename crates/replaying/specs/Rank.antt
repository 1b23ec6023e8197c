-- How: how far a replay is from rest: a number that falls with every call.
use Rattle.std.specs.Prelude.{ℕ, ◌+◌, ◌*◌, ◌-◌, Bool, true, false, List}
use Rattle.resting.specs.Left.{left}
use Rattle.replaying.specs.declared.Place.{Place}
use Rattle.replaying.specs.declared.Place.TheVariants.{Run, Collect, Rest}

abbrev pub is_rest : Place → Bool
is_rest Run = false
is_rest (Collect stream busy) = false
is_rest Rest = true

-- a round goes through n streams

-- one more round is due
abbrev pub more : ℕ → Bool → ℕ
more n true = n + 2
more n false = 0

-- the calls that are left if nothing moves or waits
abbrev pub calls_left : ℕ → Place → ℕ
calls_left n Run = n + 2
calls_left n (Collect stream busy) = 1 + (n - stream) + more n busy
calls_left n Rest = 0

-- more than are left at any place
abbrev pub calls_all : ℕ → ℕ
calls_all n = 2 * (n + 2)

abbrev pub rank : ℕ → Place → List ℕ → ℕ
rank n place s = left s * calls_all n + calls_left n place
