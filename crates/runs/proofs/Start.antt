-- The loaded state, and from it every list of calls, keeps what holds.
use mathlib.Core.Path.{◌≡◌, refl, sym, ◌∙◌, ap}
use mathlib.Core.Bool.{false}
use mathlib.Core.List.{List, [], ◌∷◌}
use Prim.Native.Nat.{ℕ, zero, suc}
use native.Mathlib.Omega.{arith}
use lib.ListN.{length, length-map}
use lib.IntN.{ℤ}
use Rattle.meaning.specs.Plan.{Eqn, input, nil, unit, one, two, last, delay, signal, window, eqn_at}
use Rattle.meaning.specs.Events.{Streams}
use Rattle.meaning.specs.Table.{latest, width}
use Rattle.meaning.specs.Missing.{tally, count_below}
use Rattle.machine.specs.State.{Declared, State, fresh, no_kept, no_passed, cell_at, loaded, declared_plan}
use Rattle.machine.specs.Reach.{past_latest}
use Rattle.machine.specs.Step.{least_waiting}
use Rattle.machine.specs.Calls.{Call, reading, progress, moving, running, collecting, call}
use Rattle.machine.proofs.Rising.{drop_nil}
use Rattle.machine.proofs.Lasts.{last_short}
use Rattle.runs.specs.Demand3.{is_out}
use Rattle.runs.specs.Seen.{Typed, AllTyped}
use Rattle.runs.specs.Inside.{known_in}
use Rattle.runs.proofs.Kept.{kept_of}
use Rattle.runs.proofs.Passed.{window_of, passed_of}
use Rattle.runs.proofs.Tracks.{Ahead, Tracks}
use Rattle.runs.proofs.World.{World, start, then, worlds, Good}
use Rattle.runs.proofs.Offers.{offer_reading_good, offer_progress_good}
use Rattle.runs.proofs.Moving.{move_one_good, run_good}
use Rattle.runs.proofs.Collecting.{collect_good}

-- every cell of the loaded state is fresh
pub loaded_cell : (ds : List Declared) (s : ℕ) → (d : Declared) × (cell_at (loaded ds) s ≡ fresh d) × (eqn_at (declared_plan ds) s ≡ d.eqn)
unfolding loaded
loaded_cell [] s = (record { eqn = nil; out = false }, refl, refl)
loaded_cell (d ∷ ds) zero = (d, refl, refl)
loaded_cell (d ∷ ds) (suc s) = loaded_cell ds s

loaded_out : (ds : List Declared) (s : ℕ) → (cell_at (loaded ds) s).out ≡ is_out ds s
unfolding loaded
loaded_out [] s = refl
loaded_out (d ∷ ds) zero = refl
loaded_out (d ∷ ds) (suc s) = loaded_out ds s

loaded_size : (ds : List Declared) → length (loaded ds) ≡ length ds
unfolding loaded
loaded_size ds = length-map ds fresh

fresh_kept : (e : Eqn) (K : Streams) (s : ℕ) → no_kept ≡ kept_of e K s 0
unfolding latest past_latest
fresh_kept input K s = refl
fresh_kept nil K s = refl
fresh_kept unit K s = refl
fresh_kept (one f a) K s = refl
fresh_kept (two g a b) K s = refl
fresh_kept (last a b) K s = refl
fresh_kept (delay a b) K s = refl
fresh_kept (signal c a b) K s = refl
fresh_kept (window f k a) K s = refl

fresh_window : (e : Eqn) (S : Streams) → ◌≡◌ {A = List ℤ} [] (window_of e S 0)
fresh_window input S = refl
fresh_window nil S = refl
fresh_window unit S = refl
fresh_window (one f a) S = refl
fresh_window (two g a b) S = refl
fresh_window (last a b) S = refl
fresh_window (delay a b) S = refl
fresh_window (signal c a b) S = refl
fresh_window (window f k a) S = rw (last_short (width k) [] (omega arith))

fresh_passed : (e : Eqn) (S : Streams) (s : ℕ) → no_passed ≡ passed_of e S s 0
unfolding count_below tally
fresh_passed e S s = rw (sym (fresh_window e S))

fresh_ahead : (e : Eqn) (M : State) → Ahead e M 0
fresh_ahead input M = tt
fresh_ahead nil M = tt
fresh_ahead unit M = tt
fresh_ahead (one f a) M = omega arith
fresh_ahead (two g a b) M = (omega arith, omega arith)
fresh_ahead (last a b) M = tt
fresh_ahead (delay a b) M = omega arith
fresh_ahead (signal c a b) M = (omega arith, omega arith)
fresh_ahead (window f k a) M = omega arith

pub loaded_tracks : (ds : List Declared) (S : Streams) → Tracks S (loaded ds)
loaded_tracks ds S = record {
  held = λ s. let c = (loaded_cell ds s).1 in rw c (sym (drop_nil (least_waiting s (loaded ds))));
  kept = λ s. let c = loaded_cell ds s in rw c.1 (fresh_kept c.0.eqn (known_in S (loaded ds)) s);
  passed = λ s. let c = loaded_cell ds s in rw c.1 (fresh_passed c.0.eqn S s);
  ahead = λ s. let c = loaded_cell ds s in rw c.1 (fresh_ahead c.0.eqn (loaded ds));
  top = λ s. let c = (loaded_cell ds s).1 in rw c (omega arith);
  taken = λ s. let c = (loaded_cell ds s).1 in rw c (omega arith);
}

module _ (ds : List Declared) where
  pub start_good : Good ds (start ds)
  start_good = record {
    shape = record { size = loaded_size ds; eqns = λ s. let c = loaded_cell ds s in ap (λ x. x.eqn) c.1 ∙ sym c.2; outs = loaded_out ds };
    inputs = λ s i. let c = (loaded_cell ds s).1 in rw c;
    above = λ s t l. refl;
    right = λ rd S sol a. record {
      tracks = loaded_tracks ds S;
      handed = λ s o. let c = (loaded_cell ds s).1 in rw c;
      came = λ s l. let c = (loaded_cell ds s).1 in rw c;
    };
  }

  pub call_good : (c : Call) (W : World) → Typed c → Good ds W → Good ds (then c W (call c W.state))
  unfolding call
  call_good (reading s t v) W h g = offer_reading_good ds W g s t v h.1
  call_good (progress s y) W h g = offer_progress_good ds W g s y
  call_good (moving s) W h g = move_one_good ds W g s
  call_good (running n) W h g = run_good ds n W g
  call_good (collecting s) W h g = collect_good ds W g s

  pub calls_good : (cs : List Call) (W : World) → AllTyped cs → Good ds W → Good ds (worlds cs W)
  unfolding worlds
  calls_good [] W h g = g
  calls_good (c ∷ cs) W h g = calls_good cs (then c W (call c W.state)) h.1 (call_good c W h.0 g)
