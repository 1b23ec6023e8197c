-- Steps one after the other are a replay.
use Prim.Native.Nat.{ℕ}
use mathlib.Core.Path.{◌≡◌, sym, subst}
use mathlib.Core.Bool.{true, false≢true}
use mathlib.Core.List.{List, [], ◌∷◌, ◌++◌, append_assoc}
use Rattle.calls.specs.Reply.{reply}
use Rattle.trace.specs.declared.Record.{Record}
use Rattle.replaying.specs.declared.Place.{Place}
use Rattle.replaying.specs.declared.Place.TheVariants.{Run, Collect, Rest}
use Rattle.replaying.specs.Replay.{call_of, refusal, step, Prints, here, on}
use Rattle.replaying.specs.Rank.{is_rest}
use Rattle.replaying.specs.Session.{Replays, ends, goes}
use Rattle.playing.specs.Played.{Goes, Settles, Offered, none, more}

pub goes_here : (n : ℕ) (p : Place) (s : List ℕ) → Goes n p s p s
goes_here n p s = ([], here)

-- one way after another
pub goes_on : {n : ℕ} {p : Place} {s : List ℕ} {q : Place} {t : List ℕ} {r : Place} {u : List ℕ} → Goes n p s q t → Goes n q t r u → Goes n p s r u
goes_on (w, x) (v, y) = (w ++ v, then x y)
  where
    then : {n : ℕ} {p : Place} {s w : List ℕ} {q : Place} {t : List ℕ} {v : List ℕ} {r : Place} {u : List ℕ} → Prints n p s w q t → Prints n q t v r u → Prints n p s (w ++ v) r u
    then here y = y
    then {n} {v = v} {r = r} {u = u} (on {p} {s} {w} x) y = subst (λ l. Prints n p s l r u) (sym (append_assoc (step n p s).printed w v)) (on (then x y))

-- one line more at the end of a replay
last_line : {n : ℕ} {s : List ℕ} {rs : List Record} {w t : List ℕ} (r : Record) {u : List ℕ} → Replays n s rs w t → Settles n (reply (call_of r) t).buffer u → (v : List ℕ) × Replays n s (rs ++ r ∷ []) v u
last_line {t = t} r (ends {w = w} x) (v, y) = ((w ++ refusal (reply (call_of r) t).number) ++ v, goes x (ends y))
last_line r (goes {w = w} {t = t} {r = q} x y) z =
    let l = last_line r y z in
    ((w ++ refusal (reply (call_of q) t).number) ++ l.0, goes x l.1)

pub played : {n : ℕ} {s t : List ℕ} {rs : List Record} {u : List ℕ} → Settles n s t → Offered n t rs u → (w : List ℕ) × Replays n s rs w u
played (w, x) none = (w, ends x)
played x (more r y z) = last_line r (played x y).1 z

-- a place that is rest is the end
pub goes_rest : {n : ℕ} {p : Place} {s : List ℕ} (q : Place) {t : List ℕ} → is_rest q ≡ true → Goes n p s q t → Goes n p s Rest t
goes_rest Run e x = absurd (false≢true e)
goes_rest (Collect stream busy) e x = absurd (false≢true e)
goes_rest Rest e x = x
