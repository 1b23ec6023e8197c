-- What a move counts on raw records is what the machine counts.
use Prim.Native.Nat.{ℕ, zero, suc, ◌+◌, ◌*◌, ◌/◌, ◌%◌, ◌^◌, ◌<◌, ◌≤◌, min}
use mathlib.Core.Path.{◌≡◌, refl, sym, ap, ap₂, ◌∙◌}
use mathlib.Core.Bool.{Bool, true, false, true≢false}
use mathlib.Core.List.{List, [], ◌∷◌, map}
use native.Mathlib.Omega.{arith}
use lib.ListN.{length, set}
use Rattle.meaning.specs.Plan.{Fold, wsum, wmin, wmax, Eqn, input, nil, unit, one, two, last, delay, signal, window}
use Rattle.meaning.specs.Table.{width}
use Rattle.meaning.specs.Missing.{Reason, Outside, ZeroDivisor, said_for, can_lack, count_limit}
use Rattle.machine.specs.State.{Kept, Passed, Cell, State, cell_at, plan_of, count_of, no_passed, with_passed}
use Rattle.machine.specs.Step.{hears, counted, drop_below, pass}
use Rattle.machine.specs.Counting.{sum_tally, tallied}
use Rattle.operators.specs.Operators.{value_of}
use Rattle.operators.specs.Windows.{is_window_eqn}
use Rattle.layout.specs.Record.{Raw, num, with_num, counts_f}
use Rattle.encoding.specs.View.{counts_word, of_cell}
use Rattle.encoding.specs.Sound.{IsCount}
use Rattle.streams.specs.Look.{own_cell}
use Rattle.counting.specs.Tally.{counted_row}
use Rattle.passing.specs.Pass.{fold_of, summed_for}

-- ---- a cell's record with other counts

-- the halves of the two counts' word
halves : (m n : ℕ) → m < 2 ^ 32 → n < 2 ^ 32 → ((m + n * 2 ^ 32) % 2 ^ 32 ≡ m) × ((m + n * 2 ^ 32) / 2 ^ 32 ≡ n)
halves m n h k = (omega arith, omega arith)

-- a cell with these counts
abbrev pub with_both : (m n : ℕ) → Cell → Cell
with_both m n c = with_passed (record { window = c.passed.window; outside = m; divisors = n }) c

count_small : (b : Bool) (y n : ℕ) → IsCount b y n → n < 2 ^ 32
count_small true y n h = h.0
count_small false y n h = omega arith

pub counted_cell : (c : Cell) (m n : ℕ) → ((q : Reason) → IsCount (can_lack c.eqn) c.bound (count_of q c.passed))
    → counted_row m n (of_cell c) ≡ of_cell (with_both (min count_limit (c.passed.outside + m)) (min count_limit (c.passed.divisors + n)) c)
unfolding counted_row of_cell
counted_cell c m n ok =
    let p = c.passed in
    let h = halves p.outside p.divisors (count_small (can_lack c.eqn) c.bound p.outside (ok Outside)) (count_small (can_lack c.eqn) c.bound p.divisors (ok ZeroDivisor)) in
    ap₂ (λ (u w : ℕ). with_num counts_f (min count_limit (u + m) + min count_limit (w + n) * 2 ^ 32) (of_cell c)) h.0 h.1

-- ---- the stamps that are counted

-- of an equation that can lack a value the counts go on
pub pass_count : (e : Eqn) (y : ℕ) (o a b : Cell) → can_lack e ≡ true → (q : Reason) → count_of q (pass e y o a b) ≡ counted (count_of q o.passed) (λ t. said_for q (hears e o a b t)) o.bound y
pass_count input y o a b h q = absurd (true≢false (sym h))
pass_count nil y o a b h q = absurd (true≢false (sym h))
pass_count unit y o a b h q = absurd (true≢false (sym h))
pass_count (one f c) y o a b h Outside = refl
pass_count (one f c) y o a b h ZeroDivisor = refl
pass_count (two g c d) y o a b h Outside = refl
pass_count (two g c d) y o a b h ZeroDivisor = refl
pass_count (last c d) y o a b h q = absurd (true≢false (sym h))
pass_count (delay c d) y o a b h q = absurd (true≢false (sym h))
pass_count (signal g c d) y o a b h Outside = refl
pass_count (signal g c d) y o a b h ZeroDivisor = refl
pass_count (window f k c) y o a b h Outside = refl
pass_count (window f k c) y o a b h ZeroDivisor = refl

-- any but a window looks at its own bound and kept data, and at the arguments' held events
pub tallied_plain : (q : Reason) (e : Eqn) (o a b : Cell) (x : ℕ) → is_window_eqn e ≡ false → tallied q e (own_cell nil o.bound o.kept) (with_passed no_passed a) (with_passed no_passed b) x ≡ tallied q e o a b x
tallied_plain q input o a b x h = refl
tallied_plain q nil o a b x h = refl
tallied_plain q unit o a b x h = refl
tallied_plain q (one f c) o a b x h = refl
tallied_plain q (two g c d) o a b x h = refl
tallied_plain q (last c d) o a b x h = refl
tallied_plain q (delay c d) o a b x h = refl
tallied_plain q (signal g c d) o a b x h = refl
tallied_plain q (window f k c) o a b x h = absurd (true≢false h)

-- a window's, by its sum
pub tallied_window : (q : Reason) (e : Eqn) (o a b : Cell) (x : ℕ) → is_window_eqn e ≡ true
    → summed_for q (fold_of e) (sum_tally (width (value_of e)) x o.passed.window (drop_below o.bound a.held)) ≡ tallied q e o a b x
unfolding value_of
tallied_window q input o a b x h = absurd (true≢false (sym h))
tallied_window q nil o a b x h = absurd (true≢false (sym h))
tallied_window q unit o a b x h = absurd (true≢false (sym h))
tallied_window q (one f c) o a b x h = absurd (true≢false (sym h))
tallied_window q (two g c d) o a b x h = absurd (true≢false (sym h))
tallied_window q (last c d) o a b x h = absurd (true≢false (sym h))
tallied_window q (delay c d) o a b x h = absurd (true≢false (sym h))
tallied_window q (signal g c d) o a b x h = absurd (true≢false (sym h))
tallied_window Outside (window wsum k c) o a b x h = refl
tallied_window Outside (window wmin k c) o a b x h = refl
tallied_window Outside (window wmax k c) o a b x h = refl
tallied_window ZeroDivisor (window f k c) o a b x h = refl

-- ---- the plan stays

pub plan_set : (M : State) (i : ℕ) (c : Cell) → i < length M → c.eqn ≡ (cell_at M i).eqn → plan_of (set M i c) ≡ plan_of M
plan_set [] i c h e = refl
plan_set (d ∷ M) zero c h e = ap (λ (x : Eqn). x ∷ plan_of M) e
plan_set (d ∷ M) (suc i) c h e = ap (◌∷◌ d.eqn) (plan_set M i c (omega arith) e)
