-- How: what a last, a delay or a signal form keeps, in the numbers of its record.
use Rattle.std.specs.Prelude.{ℕ, List}
use Rattle.meaning.specs.Plan.{Eqn, input, nil, unit, one, two, last, delay, signal, window}
use Rattle.meaning.specs.Events.{Event}
use Rattle.machine.specs.State.{Cell, Kept, absent, with_bound, with_held, with_kept}
use Rattle.layout.specs.Record.{Raw, dec_raw, with_num, flag_f, prior_flag_f, kept_f, value_f, prior_f}
use Rattle.encoding.specs.View.{flag_of, bits_of}
use Rattle.encoding.specs.Back.{held_of}
use Rattle.streams.specs.declared.Kept as code
use Rattle.streams.specs.Look.{kept_in}

-- the moved stream's own cell, as far as its kept data need it: its bound, its held events and what it kept
abbrev pub moved_cell : ℕ → List Event → Kept → Cell
moved_cell y es k = with_kept k (with_held es (with_bound y absent))

abbrev pub moved_of : code.Kept → ℕ → List ℕ → Cell
moved_of k y s = moved_cell y (held_of (dec_raw s)) (kept_in k)

-- a value that may be absent: whether it is there in number f, its bits in number j
unfoldable pub value_kept : (f j : ℕ) → (has bits : ℕ) → Raw → Raw
value_kept f j has bits r = with_num j bits (with_num f has r)

unfoldable pub delay_kept : Kept → Raw → Raw
unfolding value_kept
delay_kept k r = value_kept prior_flag_f prior_f (flag_of k.prior) (bits_of k.prior) (value_kept flag_f value_f (flag_of k.value) (bits_of k.value) (with_num kept_f k.since r))

unfoldable pub signal_kept : Kept → Raw → Raw
unfolding value_kept
signal_kept k r = value_kept prior_flag_f value_f (flag_of k.prev_b) (bits_of k.prev_b) (value_kept flag_f kept_f (flag_of k.prev) (bits_of k.prev) r)

-- a last's, a delay's and a signal form's record with this kept; those of other equations stay as they are
unfoldable pub kept_row : Eqn → Kept → Raw → Raw
unfolding value_kept delay_kept signal_kept
kept_row input k r = r
kept_row nil k r = r
kept_row unit k r = r
kept_row (one f a) k r = r
kept_row (two g a b) k r = r
kept_row (last a b) k r = value_kept flag_f kept_f (flag_of k.prev) (bits_of k.prev) r
kept_row (delay a b) k r = delay_kept k r
kept_row (signal c a b) k r = signal_kept k r
kept_row (window f n a) k r = r
