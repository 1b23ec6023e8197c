-- Every replay comes to its end, whatever the buffer holds and whatever the plan text and the trace text.
use Prim.Native.Nat.{ℕ, zero, suc, ◌<◌}
use mathlib.Core.Path.{◌≡◌, refl, sym}
use mathlib.Core.Bool.{false, true≢false}
use mathlib.Core.List.{List, [], ◌∷◌, ◌++◌}
use native.Mathlib.Omega.{arith}
use lib.ListN.{length, drop, length-drop}
use Rattle.operators.specs.Limits.{capacity}
use Rattle.calls.specs.Reply.{reply}
use Rattle.engine.specs.Load.{load_reply}
use Rattle.trace.specs.declared.Record.{Record}
use Rattle.std.specs.Prelude.{Option, Some, None}
use Rattle.trace.specs.Trace.{line}
use Rattle.trace.proofs.Ends.{line_ends}
use Rattle.printer.specs.Print.{refused_text}
use Rattle.replaying.specs.declared.Place.{Place}
use Rattle.replaying.specs.declared.Place.TheVariants.{Run, Collect, Rest}
use Rattle.replaying.specs.Replay.{call_of, start, step, Prints, here, on}
use Rattle.replaying.specs.Rank.{is_rest, rank}
use Rattle.replaying.specs.Session.{Replays, ends, goes}
use Rattle.replaying.specs.Whole.{line_number, Lines, none, more, Stops, end, bad, Printed, refused, played}
use Rattle.replaying.proofs.Bytes.{Fine}
use Rattle.replaying.proofs.Nearer.{step_fine, step_falls}

abbrev Rests : ℕ → Place → List ℕ → Type 0
Rests n p s = (w : List ℕ) × (t : List ℕ) × Prints n p s w Rest t

-- one step, and then from where it leads
ahead : (n : ℕ) (p : Place) (s : List ℕ) → is_rest p ≡ false → Fine s → ((q : Place) (t : List ℕ) → Fine t → rank n q t < rank n p s → Rests n q t) → Rests n p s
ahead n p s e f go =
    let x = go (step n p s).place (step n p s).state (step_fine n p s (λ q. f)) (step_falls n s f p e) in
    ((step n p s).printed ++ x.0, x.1, on x.2)

reach : (n k : ℕ) (p : Place) (s : List ℕ) → Fine s → rank n p s < k → Rests n p s
reach n zero p s f h = absurd (omega arith)
reach n (suc k) Run s f h = ahead n Run s refl f (λ q t g l. reach n k q t g (omega arith))
reach n (suc k) (Collect i busy) s f h = ahead n (Collect i busy) s refl f (λ q t g l. reach n k q t g (omega arith))
reach n (suc k) Rest s f h = ([], s, here)

-- the first call leaves bytes, or no state
comes_to_rest : (n : ℕ) (s : List ℕ) → Rests n start s
comes_to_rest n s =
    let p = (step n start s).place in let t = (step n start s).state in
    let x = reach n (suc (rank n p t)) p t (step_fine n start s (λ q. absurd (true≢false (sym q)))) (omega arith) in
    ((step n start s).printed ++ x.0, x.1, on x.2)

pub replay_exists : (n : ℕ) (s : List ℕ) (rs : List Record) → (w : List ℕ) × (t : List ℕ) × Replays n s rs w t
replay_exists n s [] = let x = comes_to_rest n s in (x.0, x.1, ends x.2)
replay_exists n s (r ∷ rs) =
    let x = comes_to_rest n s in
    let y = replay_exists n (reply (call_of r) x.1).buffer rs in
    (_, y.1, goes x.2 y.2)

-- ## The lines of a trace

abbrev Stopped : List ℕ → Type 0
Stopped trace = (rs : List Record) × (rest : List ℕ) × (v : List ℕ) × Lines trace rs rest × Stops rest v

-- each line that is read leaves fewer bytes
lines_exist : (k : ℕ) (trace : List ℕ) → length trace < k → Stopped trace
lines_exist zero trace h = absurd (omega arith)
lines_exist (suc k) [] h = ([], [], [], none, end)
lines_exist (suc k) (c ∷ l) h = go (line (c ∷ l) 0) refl (λ next d. lines_exist k (drop next (c ∷ l)) (rw (length-drop next (c ∷ l)) (omega arith)))
  where
    go : (x : Option (Record × ℕ)) → line (c ∷ l) 0 ≡ x → ((next : ℕ) → 0 < next → Stopped (drop next (c ∷ l))) → Stopped (c ∷ l)
    go (Some (r, next)) e ahead = let x = ahead next (line_ends (c ∷ l) 0 r next e).some in (r ∷ x.0, x.1, x.2, more e x.3, x.4)
    go None e ahead = ([], c ∷ l, refused_text (line_number None), none, bad e)

-- ## The whole

pub printed_exists : (plan trace s : List ℕ) → (w : List ℕ) × (t : List ℕ) × Printed plan trace s w t
printed_exists plan trace s = go (load_reply plan s).number refl
  where
    go : (n : ℕ) → (load_reply plan s).number ≡ n → (w : List ℕ) × (t : List ℕ) × Printed plan trace s w t
    go zero e =
        let l = lines_exist (suc (length trace)) trace (omega arith) in
        let x = replay_exists (capacity (length s)) (load_reply plan s).buffer l.0 in
        (x.0 ++ l.2, x.1, played e l.3 x.2 l.4)
    go (suc n) e = (refused_text (suc n), (load_reply plan s).buffer, refused e)
