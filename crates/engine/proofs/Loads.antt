-- The answers of load, case by case.
use Prim.Native.Nat.{ℕ, zero, suc, ◌<◌}
use mathlib.Core.Path.{◌≡◌, refl, sym, ap, ◌∙◌}
use mathlib.Core.Bool.{Bool, true, false, cond}
use mathlib.Core.List.{List}
use lib.Dec.{ltb}
use lib.ListN.{length}
use lib.IntN.{pos}
use borrow.Author.Tests.{eq-eqb, ne_eqb, ltb-true, lt-ltb, le-ltb}
use native.Mathlib.Omega.{arith}
use native.Mathlib.Decide.{ℕ_discrete}
use Rattle.machine.specs.State.{loaded}
use Rattle.operators.specs.Limits.{capacity}
use Rattle.encoding.specs.View.{bytes_of}
use Rattle.roundtrip.proofs.Whole.{bytes_length}
use Rattle.plan.specs.Rules.{number, declared}
use Rattle.plan.proofs.Taken.{taken_rendered}
use Rattle.load.specs.Filled.{filled}
use Rattle.load.proofs.Taken.{taken_filled}
use Rattle.load.proofs.Fresh.{loaded_sound}
use Rattle.calls.specs.Reply.{not_state}
use Rattle.engine.specs.Load.{load_of, load_reply}

-- most is the capacity of the buffer
module _ (text s : List ℕ) (most : ℕ) (m : most ≡ capacity (length s)) where
  pub load_15 : most ≡ 0 → load_reply text s ≡ not_state s
  unfolding load_reply
  load_15 h = rw (le-ltb 0 (capacity (length s)) (omega arith))

  module _ (l : 0 < most) where
    load_is : load_reply text s ≡ load_of (number most text) text s
    unfolding load_reply
    load_is = rw (m, lt-ltb 0 (capacity (length s)) (omega arith))

    pub load_number : (n : ℕ) → n ≡ number most text → n ≡ (load_reply text s).number
    load_number n e = rw load_is e

    -- a refused text leaves the buffer
    pub load_stays : (n : ℕ) → n ≡ number most text → (n ≡ 0 → ⊥) → s ≡ (load_reply text s).buffer
    load_stays n e z = rw (load_is, ne_eqb (number most text) 0 (λ q. z (e ∙ q)))

    -- a taken one fills it
    pub load_fills : (n : ℕ) → n ≡ number most text → n ≡ 0 → filled most text s ≡ (load_reply text s).buffer
    load_fills n e z = rw (load_is, eq-eqb (number most text) 0 (sym e ∙ z), m) (taken_filled text s (rw (sym m) l) (rw (sym m) (sym e ∙ z)))

-- ---- a load

pub load_done : (text s : List ℕ) → (load_reply text s).number ≡ 0 → (number (capacity (length s)) text ≡ 0) × ((load_reply text s).buffer ≡ bytes_of (length s) (loaded (declared (capacity (length s)) text))) × (0 < capacity (length s))
unfolding load_reply
load_done text s = by (ltb 0 (capacity (length s))) refl
  where
    most : ℕ
    most = capacity (length s)

    full : (n : ℕ) → n ≡ 0 → (n ≡ 0) × ((load_of n text s).buffer ≡ bytes_of (length s) (loaded (declared most text)))
    full zero e = (refl, refl)
    full (suc n) e = absurd (omega arith)

    by : (x : Bool) → ltb 0 most ≡ x → (cond x (load_of (number most text) text s) (not_state s)).number ≡ 0 → (number most text ≡ 0) × ((cond x (load_of (number most text) text s) (not_state s)).buffer ≡ bytes_of (length s) (loaded (declared most text))) × (0 < most)
    by true l e = let f = full (number most text) e in (f.0, f.1, ltb-true 0 most l)
    by false l e = absurd (omega arith)

-- a refused load leaves the buffer
pub load_refused : (text s : List ℕ) → ((load_reply text s).number ≡ 0 → ⊥) → (load_reply text s).buffer ≡ s
unfolding load_reply
load_refused text s = by (ltb 0 (capacity (length s)))
  where
    most : ℕ
    most = capacity (length s)

    full : (n : ℕ) → (n ≡ 0 → ⊥) → (load_of n text s).buffer ≡ s
    full n e = rw (ne_eqb n 0 e)

    by : (x : Bool) → ((cond x (load_of (number most text) text s) (not_state s)).number ≡ 0 → ⊥) → (cond x (load_of (number most text) text s) (not_state s)).buffer ≡ s
    by true e = full (number most text) e
    by false e = refl

-- a load has no results
pub load_results : (text s : List ℕ) → ((load_reply text s).moves ≡ 0) × ((load_reply text s).stamp ≡ 0) × ((load_reply text s).value ≡ pos 0)
unfolding load_reply
load_results text s = go (ltb 0 (capacity (length s)))
  where
    go : (x : Bool) → ((cond x (load_of (number (capacity (length s)) text) text s) (not_state s)).moves ≡ 0)
        × ((cond x (load_of (number (capacity (length s)) text) text s) (not_state s)).stamp ≡ 0)
        × ((cond x (load_of (number (capacity (length s)) text) text s) (not_state s)).value ≡ pos 0)
    go true = (refl, refl, refl)
    go false = (refl, refl, refl)

-- a load leaves the buffer as long as it was
pub load_length : (text s : List ℕ) → length (load_reply text s).buffer ≡ length s
load_length text s = go (ℕ_discrete (load_reply text s).number 0)
  where
    go : Dec ((load_reply text s).number ≡ 0) → length (load_reply text s).buffer ≡ length s
    go (yes e) =
        let d = load_done text s e in
        let ds = declared (capacity (length s)) text in
        ap length d.1 ∙ bytes_length (length s) (loaded ds) (loaded_sound d.2 ds (taken_rendered (capacity (length s)) text d.0).1)
    go (no n) = ap length (load_refused text s n)
