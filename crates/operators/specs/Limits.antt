-- Believe: the limits of a plan and the sizes of a state, each named once.
use Rattle.std.specs.Prelude.{ℕ, Bool, cond, ◌&&◌, eqb, leb}

-- a state is a buffer of this many bytes, or of that many
abbrev pub state_length : ℕ
state_length = 12288

abbrev pub long_length : ℕ
long_length = 20480

-- "Saved states of 12,288 bytes still run, with at most 32 streams"
abbrev pub stream_limit : ℕ
stream_limit = 32

-- "A plan may have 64 streams, [..] and a state of 20,480 bytes holds such a plan."
abbrev pub most_streams : ℕ
most_streams = 64

-- how many streams a state of this many bytes has room for; 0: no state has this length
unfoldable pub capacity : ℕ → ℕ
capacity size = cond (eqb size state_length) stream_limit (cond (eqb size long_length) most_streams 0)

-- "a width outside 1 to 64 or a ninth window"
abbrev pub width_limit : ℕ
width_limit = 64

abbrev pub window_limit : ℕ
window_limit = 8

-- "the text limit becomes 4,096 bytes"
abbrev pub text_limit : ℕ
text_limit = 4096

-- "Load gives 3 where the count is above the limit of the buffer lent"
abbrev pub count_fits : ℕ → ℕ → Bool
count_fits cap n = leb 1 n && leb n cap
