-- What is printed is fixed: every step is, and so is what each line reads.
use Prim.Native.Nat.{ℕ, suc}
use mathlib.Core.Path.{◌≡◌, refl, sym, ap, ap₂, ◌∙◌, subst}
use mathlib.Core.List.{List, [], ◌++◌, ◌∷◌}
use native.Mathlib.Omega.{arith}
use lib.ListN.{length, drop}
use Rattle.operators.specs.Limits.{capacity}
use Rattle.lines.specs.Form.{skip}
use Rattle.calls.specs.Reply.{reply}
use Rattle.engine.specs.Load.{load_reply}
use Rattle.trace.specs.declared.Record.{Record}
use Rattle.std.specs.Prelude.{Some}
use Rattle.trace.proofs.Bounds.{same_first, same_second}
use Rattle.trace.specs.Trace.{line}
use Rattle.printer.specs.Print.{refused_text}
use Rattle.replaying.specs.declared.Place.{Place}
use Rattle.replaying.specs.declared.Place.TheVariants.{Rest}
use Rattle.replaying.specs.Replay.{call_of, refusal, step, Prints, here, on}
use Rattle.replaying.specs.Session.{Replays, ends, goes}
use Rattle.replaying.specs.Whole.{Lines, none, more, Stops, end, bad, Printed, refused, played}

-- two ways to the end print the same and leave the same
abbrev Same : (w t w' t' : List ℕ) → Type 0
Same w t w' t' = (w ≡ w') × (t ≡ t')

-- ## To rest

-- at rest nothing more is printed
resting : {n : ℕ} {s w : List ℕ} {q : Place} {t : List ℕ} → Prints n Rest s w q t → Same [] s w t
unfolding step
resting here = (refl, refl)
resting (on x) = resting x

rests_once : {n : ℕ} {p : Place} {s w t w' t' : List ℕ} → Prints n p s w Rest t → Prints n p s w' Rest t' → Same w t w' t'
rests_once here y = resting y
rests_once (on x) here = let e = resting (on x) in (sym e.0, sym e.1)
rests_once {n} (on {p} {s} x) (on y) = let e = rests_once x y in (ap (λ (l : List ℕ). (step n p s).printed ++ l) e.0, e.1)

replays_once : {n : ℕ} {s : List ℕ} {rs : List Record} {w t w' t' : List ℕ} → Replays n s rs w t → Replays n s rs w' t' → Same w t w' t'
replays_once (ends x) (ends y) = rests_once x y
replays_once {n} (goes {r = r} {rs = rs} x x₂) (goes {v = v'} {u = u'} y y₂) =
    let e = rests_once x y in
    let f = replays_once x₂ (subst (λ (t : List ℕ). Replays n (reply (call_of r) t).buffer rs v' u') (sym e.1) y₂) in
    (ap₂ ◌++◌ (ap₂ (λ (w : List ℕ) (t : List ℕ). w ++ refusal (reply (call_of r) t).number) e.0 e.1) f.0, f.1)

-- ## The lines of a trace

unreadable : {A : Type 0} {trace v : List ℕ} {r : Record} {next : ℕ} → Stops trace v → line trace 0 ≡ Some (r, next) → A
unfolding line skip
unreadable end e = let z : ◌≡◌ {A = ℕ} 0 1 = cc in absurd (omega arith)
unreadable (bad q) e = let z : ◌≡◌ {A = ℕ} 0 1 = cc in absurd (omega arith)

stops_once : {rest v v' : List ℕ} → Stops rest v → Stops rest v' → v ≡ v'
stops_once end end = refl
stops_once (bad e) (bad f) = refl

pub lines_once : {trace : List ℕ} {rs rs' : List Record} {rest rest' v v' : List ℕ} → Lines trace rs rest → Stops rest v → Lines trace rs' rest' → Stops rest' v' → (rs ≡ rs') × (v ≡ v')
lines_once none x none y = (refl, stops_once x y)
lines_once none x (more e l) y = unreadable x e
lines_once (more e l) x none y = unreadable y e
lines_once (more {trace} {r} {next} {rs} e l) x (more {r = r'} {next = next'} {rs = rs'} {rest = rest'} f m) y =
    let p : r ≡ r' = same_first (sym e ∙ f) in
    let q : next' ≡ next = same_second (sym f ∙ e) in
    let g = lines_once l x (subst (λ (k : ℕ). Lines (drop k trace) rs' rest') q m) y in
    (ap₂ ◌∷◌ p g.0, g.1)

-- ## The whole

pub printed_once : {plan trace s w t w' t' : List ℕ} → Printed plan trace s w t → Printed plan trace s w' t' → Same w t w' t'
printed_once (refused {n} e) (refused {n = n'} f) =
    let q : n ≡ n' = cc in
    (ap (λ (k : ℕ). refused_text (suc k)) q, refl)
printed_once (refused e) (played f l x m) = let z : ◌≡◌ {A = ℕ} 0 1 = cc in absurd (omega arith)
printed_once (played e l x m) (refused f) = let z : ◌≡◌ {A = ℕ} 0 1 = cc in absurd (omega arith)
printed_once {plan} {s = s} (played {w = w} e l x m) (played {w = w'} {t = t'} f l' x' m') =
    let g = lines_once l m l' m' in
    let h = replays_once x (subst (λ (rs : List Record). Replays (capacity (length s)) (load_reply plan s).buffer rs w' t') (sym g.0) x') in
    (ap₂ ◌++◌ h.0 g.1, h.1)
