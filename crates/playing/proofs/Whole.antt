-- Loading and playing are the whole replay.
use Prim.Native.Nat.{ℕ, zero, suc}
use mathlib.Core.Path.{◌≡◌, refl, sym, ◌∙◌, subst}
use mathlib.Core.Bool.{Bool, true}
use mathlib.Core.List.{List, [], ◌++◌}
use lib.ListN.{length}
use Rattle.operators.specs.Limits.{capacity}
use Rattle.engine.specs.Load.{load_reply}
use Rattle.printer.specs.Print.{refused_text}
use Rattle.replaying.specs.Session.{Replays}
use Rattle.replaying.specs.Whole.{Printed, refused, played}
use Rattle.playing.specs.Played.{Settles, Trailed, Played}
use Rattle.playing.proofs.Order as order

pub settled_played : {n : ℕ} {s t : List ℕ} {whole : Bool} {u : List ℕ} → Settles n s t → Trailed n t whole u → Played n s whole u
settled_played x y =
    let r = order.played x y.offered in
    record { trace = y.trace; records = y.records; rest = y.rest; printed = r.0; lines = y.lines; replays = r.1; stops = y.stops }

-- a plan text was loaded, with this number and this state left
abbrev Loaded : List ℕ → ℕ → List ℕ → Type 0
Loaded s r t = (plan : List ℕ) × (r ≡ (load_reply plan s).number) × (t ≡ (load_reply plan s).buffer)

abbrev IsPrinted : List ℕ → List ℕ → Type 0
IsPrinted s t = (plan : List ℕ) × (trace : List ℕ) × (w : List ℕ) × Printed plan trace s w t

pub refused_printed : {s : List ℕ} (r : ℕ) {t : List ℕ} → Loaded s r t → (r ≡ 0 → ⊥) → IsPrinted s t
refused_printed zero x d = absurd (d refl)
refused_printed {s} (suc n) x d = (x.0, [], refused_text (suc n), subst (Printed x.0 [] s (refused_text (suc n))) (sym x.2) (refused (sym x.1)))

pub played_printed : {s : List ℕ} {r : ℕ} {t : List ℕ} {n : ℕ} {whole : Bool} {u : List ℕ} → Loaded s r t → r ≡ 0 → n ≡ capacity (length s) → Played n t whole u → whole ≡ true → IsPrinted s u
played_printed {s} {u = u} x d e y q =
    let z : Replays (capacity (length s)) (load_reply x.0 s).buffer y.records y.printed u = rw (sym e, sym x.2) y.replays in
    let v = y.stops q in
    (x.0, y.trace, y.printed ++ v.0, played (sym x.1 ∙ d) y.lines z v.1)
