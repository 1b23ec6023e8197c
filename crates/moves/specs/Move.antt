-- How: a move on raw records: total functions of n records.
use Rattle.std.specs.Prelude.{ℕ, max, Bool, not, cond, ◌&&◌, eqb}
use Rattle.meaning.specs.Plan.{Eqn, is_input}
use Rattle.machine.specs.State.{Cell, no_kept}
use Rattle.machine.specs.Reach.{Next, limit, decide}
use Rattle.machine.specs.Counting.{end_of}
use Rattle.meaning.specs.Arguments.{arg_a, arg_b}
use Rattle.operators.specs.Operators.{value_of}
use Rattle.operators.specs.Windows.{is_window_eqn}
use Rattle.layout.specs.Record.{Raws, num, row_at, count_f}
use Rattle.streams.specs.Look.{own_cell}
use Rattle.sliding.specs.Slide.{width_in, fit_row}
use Rattle.passing.specs.Pass.{own_in, other_in, fold_of, passed_raw}
use Rattle.making.specs.Make.{bound_raw, silent_raw, event_raw, step_raw}

-- how far its arguments' bounds let an equation with bound y go
abbrev pub limit_raw : ℕ → Eqn → ℕ → Raws → ℕ
limit_raw n e y st = limit e (own_cell e y no_kept) (other_in n (arg_a e) st) (other_in n (arg_b e) st)

-- what a move of stream i, with this equation and cell, finds: a window by itself, any other over its candidate stamps
abbrev pub found_raw : ℕ → ℕ → Eqn → Cell → Raws → Next
found_raw n i e o st =
    let a = other_in n (arg_a e) st in
    cond (is_window_eqn e) (fit_row (fold_of e) (width_in (value_of e)) i o.bound (max o.bound a.bound) a.held st) (decide e o a (other_in n (arg_b e) st))

unfoldable pub ahead_raw : ℕ → ℕ → Raws → Next
unfolding fit_row
ahead_raw n i st = found_raw n i (own_in i st).eqn (own_in i st) st

-- whether it can move: no input can, and no equation whose bound would stay
unfoldable pub can_raw : ℕ → ℕ → Raws → Bool
unfolding ahead_raw
can_raw n i st = not (is_input (own_in i st).eqn) && not (eqb (bound_raw (ahead_raw n i st) (num count_f (row_at st i))) (own_in i st).bound)

unfoldable pub moved_raw : ℕ → ℕ → Raws → Raws
unfolding silent_raw event_raw ahead_raw passed_raw
moved_raw n i st =
    let o = own_in i st in
    let held = num count_f (row_at st i) in
    step_raw n i o.eqn o.kept (ahead_raw n i st) held (passed_raw n i o.eqn o.kept o.bound (bound_raw (ahead_raw n i st) held) (end_of (ahead_raw n i st)) st)
