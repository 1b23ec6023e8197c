-- What a stream keeps of the stamps that its bound y has passed: its window and both counts, of the solution itself.
use mathlib.Core.Path.{◌≡◌, refl, sym, ◌∙◌}
use mathlib.Core.Bool.{false}
use mathlib.Core.List.{List, []}
use Prim.Native.Nat.{ℕ}
use lib.IntN.{ℤ}
use Rattle.meaning.specs.Plan.{Eqn, input, nil, unit, one, two, last, delay, signal, window}
use Rattle.meaning.specs.Events.{Streams, events}
use Rattle.meaning.specs.Table.{latest_of, values, width}
use Rattle.meaning.specs.Missing.{Reason, can_lack, count_below}
use Rattle.meaning.proofs.Missing.{never_count}
use Rattle.machine.specs.State.{Passed, no_passed, count_of, with_window, with_counts}
use Rattle.machine.proofs.Cells.{count_with, passed_ext}

abbrev pub window_of : Eqn → Streams → ℕ → List ℤ
window_of input S y = []
window_of nil S y = []
window_of unit S y = []
window_of (one f a) S y = []
window_of (two g a b) S y = []
window_of (last a b) S y = []
window_of (delay a b) S y = []
window_of (signal c a b) S y = []
window_of (window f k a) S y = latest_of (width k) (values (events (S a) y))

-- no count depends on the readings (`count_readings` of crates/meaning), so S stands for them as well
abbrev pub passed_of : Eqn → Streams → (s y : ℕ) → Passed
passed_of e S s y = with_counts (λ q. count_below q e S S s y) (with_window (window_of e S y) no_passed)

pub passed_count : (q : Reason) (e : Eqn) (S : Streams) (s y : ℕ) → count_of q (passed_of e S s y) ≡ count_below q e S S s y
passed_count q e S s y = count_with q (λ q. count_below q e S S s y) (with_window (window_of e S y) no_passed)

-- who never lacks a value counts nothing, whatever the bound
pub passed_still : (e : Eqn) → can_lack e ≡ false → (S : Streams) (s y x : ℕ) → window_of e S y ≡ window_of e S x → passed_of e S s y ≡ passed_of e S s x
passed_still e c S s y x w = passed_ext (passed_of e S s y) (passed_of e S s x) w (λ q. zero q y ∙ sym (zero q x))
  where
    zero : (q : Reason) (z : ℕ) → count_of q (passed_of e S s z) ≡ 0
    zero q z = passed_count q e S s z ∙ never_count e c q S S s z

-- an input keeps nothing
pub input_passed : (e : Eqn) → e ≡ input → (S : Streams) (s y x : ℕ) → passed_of e S s y ≡ passed_of e S s x
input_passed e q S s y x = rw q (passed_still input refl S s y x refl)
