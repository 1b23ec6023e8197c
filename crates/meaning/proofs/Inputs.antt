-- An equation that takes readings is `input`.
use mathlib.Core.Path.{◌≡◌, refl}
use lib.Dec.{T}
use Rattle.meaning.specs.Plan.{Eqn, input, nil, unit, one, two, last, delay, signal, window, is_input}

pub input_is : (e : Eqn) → T (is_input e) → e ≡ input
input_is input h = refl
input_is nil h = absurd h
input_is unit h = absurd h
input_is (one f a) h = absurd h
input_is (two g a b) h = absurd h
input_is (last a b) h = absurd h
input_is (delay a b) h = absurd h
input_is (signal c a b) h = absurd h
input_is (window f k a) h = absurd h
