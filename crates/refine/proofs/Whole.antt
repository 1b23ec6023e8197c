-- The steps of the whole raw state are the machine's.
use Prim.Native.Nat.{ℕ, zero, suc, ◌*◌, ◌-◌, ◌<◌, ◌≤◌}
use mathlib.Core.Path.{◌≡◌, refl, sym, ap, ap₂, ◌∙◌}
use mathlib.Core.List.{List, [], ◌∷◌, ◌++◌, map}
use native.Mathlib.Omega.{arith}
use lib.ListN.{length, get_or, set, replicate, length-set, length-map}
use lib.IntN.{ℤ}
use mir.Syntax.{w64}
use mir.Val.{of_z}
use Rattle.meaning.specs.Events.{ev}
use Rattle.machine.specs.State.{Cell, State, cell_at, room, with_held}
use Rattle.machine.specs.Step.{told, tell, least_reader, least_waiting, drop_below, release}
use Rattle.layout.specs.Record.{Raw, Raws, no_raw, row_at, change, change_all}
use Rattle.layout.specs.Windows.{area_length, enc_windows}
use Rattle.encoding.specs.View.{windows_of, words_of, of_cell, behind, raws_of}
use Rattle.queue.specs.Queue.{released}
use Rattle.readers.specs.Step.{told_row, lowered, least_row, waiting_row, released_row}
use Rattle.refine.proofs.Rows.{lower_of, waiting_of, told_of}
use Rattle.refine.proofs.Queues.{release_of}
use Rattle.refine.proofs.Windows.{windows_same, windows_map}

-- ---- a row of the raw state

pub row_of : (M : State) (i : ℕ) → i < length M → get_or (map of_cell M) i no_raw ≡ of_cell (cell_at M i)
row_of [] i h = absurd (omega arith)
row_of (c ∷ M) zero h = refl
row_of (c ∷ M) (suc i) h = row_of M i (omega arith)

pub set_of : (M : State) (i : ℕ) (c : Cell) → set (map of_cell M) i (of_cell c) ≡ map of_cell (set M i c)
set_of [] i c = refl
set_of (d ∷ M) zero c = refl
set_of (d ∷ M) (suc i) c = ap (◌∷◌ (of_cell d)) (set_of M i c)

raws_path : (z : List ℕ) (l k : List Raw) → l ≡ k → ◌≡◌ {A = Raws} (record { rows = l; spare = z }) (record { rows = k; spare = z })
raws_path z l k e = λ j. record { rows = e j; spare = z }

-- what lies behind the records of a state with as many streams and the same windows
same_spare : (size : ℕ) (M N : State) → length N ≡ length M → windows_of N ≡ windows_of M → ◌≡◌ {A = Raws} (record { rows = map of_cell N; spare = behind size M }) (raws_of size N)
unfolding raws_of behind
same_spare size M N e w =
    ap₂ (λ (m : ℕ) (l : List (List ℤ)). record { rows = map of_cell N; spare = replicate {A = ℕ} (size - area_length - m * 256) 0 ++ enc_windows (map words_of l) }) (sym e) (sym w)

-- one record changed as the machine changes its cell, but for what a window keeps
pub change_of : (size : ℕ) (M : State) (i : ℕ) (g : Raw → Raw) (c : Cell) → i < length M → g (of_cell (cell_at M i)) ≡ of_cell c → c.eqn ≡ (cell_at M i).eqn → c.passed.window ≡ (cell_at M i).passed.window
    → change i g (raws_of size M) ≡ raws_of size (set M i c)
unfolding raws_of
change_of size M i g c h e q w =
    let z : List ℕ = behind size M in
    raws_path z (set (map of_cell M) i (g (get_or (map of_cell M) i no_raw))) (map of_cell (set M i c))
    (ap (λ (r : Raw). set (map of_cell M) i (g r)) (row_of M i h) ∙ ap (set (map of_cell M) i) e ∙ set_of M i c)
    ∙ same_spare size M (set M i c) (length-set M i c) (windows_same M i c h q w)

map_map : (f : Cell → Cell) (g : Raw → Raw) → ((c : Cell) → g (of_cell c) ≡ of_cell (f c)) → (M : State) → map g (map of_cell M) ≡ map of_cell (map f M)
map_map f g e [] = refl
map_map f g e (c ∷ M) = ap₂ ◌∷◌ (e c) (map_map f g e M)

-- every record told
pub tell_of : (size : ℕ) (M : State) (s t : ℕ) (v : ℤ) → change_all (told_row s t (of_z w64 v)) (raws_of size M) ≡ raws_of size (tell s (ev t v ∷ []) M)
unfolding raws_of tell
tell_of size M s t v =
    let z : List ℕ = behind size M in
    raws_path z (map (told_row s t (of_z w64 v)) (map of_cell M)) (map of_cell (map (told s t v) M)) (map_map (told s t v) (told_row s t (of_z w64 v)) (told_of s t v) M)
    ∙ same_spare size M (map (told s t v) M) (length-map M (told s t v)) (unfold told in windows_map (told s t v) (λ c. refl) (λ c. refl) M)

-- ---- release

least_of_lem : (s : ℕ) (M : State) → least_row s (map of_cell M) ≡ least_reader s M
unfolding least_row least_reader
least_of_lem s [] = refl
least_of_lem s (c ∷ M) = ap (lowered s (of_cell c)) (least_of_lem s M) ∙ lower_of s (least_reader s M) c

wait_of : (size : ℕ) (M : State) (i : ℕ) → i < length M → waiting_row (least_row i (raws_of size M).rows) (row_at (raws_of size M) i) ≡ least_waiting i M
unfolding raws_of least_waiting
wait_of size M i h = ap₂ waiting_row (least_of_lem i M) (row_of M i h) ∙ waiting_of (least_reader i M) (cell_at M i)

pub release_row_of : (size : ℕ) (M : State) (i : ℕ) → i < length M → length (cell_at M i).held ≤ room → released_row i (raws_of size M) ≡ raws_of size (release i M)
unfolding released_row release
release_row_of size M i h k =
    let w = least_waiting i M in
    ap (λ (x : ℕ). change i (released x) (raws_of size M)) (wait_of size M i h)
    ∙ change_of size M i (released w) (with_held (drop_below w (cell_at M i).held) (cell_at M i)) h (release_of w (cell_at M i) k) refl refl
