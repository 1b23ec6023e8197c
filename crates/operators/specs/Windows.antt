-- Believe: the rules for windows: "18, a width outside 1 to 64 or a ninth window".
use Rattle.std.specs.Prelude.{ℕ, suc, ◌≤◌, Bool, true, cond, ◌&&◌, [], ◌∷◌, leb}
use Rattle.meaning.specs.Plan.{Eqn, input, nil, unit, one, two, last, delay, signal, window, Plan}
use Rattle.meaning.specs.Table.{width}
use Rattle.operators.specs.Operators.{group_of, eqn_group, is_window}
use Rattle.operators.specs.Limits.{width_limit}

-- of the fields of one stream, k in two's complement: a negative one is above every limit
unfoldable pub width_ok : ℕ → ℕ → Bool
width_ok op k = cond (is_window (group_of op)) (leb 1 k && leb k width_limit) true

-- of an equation
abbrev pub IsWidth : Eqn → Type 0
IsWidth input = Unit {0}
IsWidth nil = Unit {0}
IsWidth unit = Unit {0}
IsWidth (one f a) = Unit {0}
IsWidth (two g a b) = Unit {0}
IsWidth (last a b) = Unit {0}
IsWidth (delay a b) = Unit {0}
IsWidth (signal c a b) = Unit {0}
IsWidth (window f k a) = (1 ≤ width k) × (width k ≤ width_limit)

abbrev pub is_window_eqn : Eqn → Bool
is_window_eqn e = is_window (eqn_group e)

-- how many windows a plan has
unfoldable pub windows : Plan → ℕ
windows [] = 0
windows (e ∷ es) = cond (is_window_eqn e) (suc (windows es)) (windows es)
