-- How: one pass reads the lines, tests rule 5, weighs the windows for rule 18 and notes the arguments for rule 6.
use Rattle.std.specs.Prelude.{ℕ, suc, ◌+◌, ◌*◌, ◌≡◌, Bool, true, false, cond, ◌&&◌, List, [], ◌∷◌, eqb, Result, Ok, Err}
use Rattle.std.proofs.lemmas.List.Edits.{sets}
use Rattle.operators.specs.Limits.{window_limit}
use Rattle.operators.specs.Operators.{group_of, is_window}
use Rattle.operators.specs.Windows.{width_ok}
use Rattle.cycle.specs.Graph.{entry_of}
use Rattle.text.specs.declared.Fields.{Fields}
use Rattle.refusal.specs.declared.Refusal.{Refusal}
use Rattle.refusal.specs.declared.Refusal.TheVariants.{TextForm}
use Rattle.plan.specs.Rules.{keeps, all_keep, Form, refused, formed}

-- what is noted of stream i: nothing if it breaks rule 5, since the text is refused anyway
abbrev pub entry_if : Bool → Fields → List ℕ
entry_if true f = entry_of f.op f.a f.b
entry_if false f = []

unfoldable pub noted_stream : ℕ → ℕ → Fields → List ℕ → List ℕ
noted_stream n i f g = sets g (3 * i) (entry_if (keeps n f) f)

unfoldable pub noted_all : ℕ → ℕ → List Fields → List ℕ → List ℕ
noted_all n i [] g = g
noted_all n i (f ∷ fs) g = noted_all n (i + 1) fs (noted_stream n i f g)

-- what a stream weighs: a window 1, and one of a bad width more than all windows of a plan may
unfoldable pub weight_of : Fields → ℕ
weight_of f = cond (is_window (group_of f.op)) (cond (width_ok f.op f.k) 1 (suc window_limit)) 0

unfoldable pub weights : List Fields → ℕ
weights [] = 0
weights (f ∷ fs) = weight_of f + weights fs

-- one stream
unfoldable pub turn : ℕ → Result Fields Refusal → Result (Bool × ℕ × ℕ) Refusal
turn n (Ok f) = Ok (keeps n f, weight_of f, f.next)
turn n (Err r) = Err r

abbrev pub noted_lines : ℕ → ℕ → Result Fields Refusal → List ℕ → List ℕ
noted_lines n i (Ok f) g = noted_stream n i f g
noted_lines n i (Err r) g = g

-- the whole pass: whether all keep rule 5, what they weigh, the graph, and where the lines end
pub data Pass : Type 0 where
  halted : Refusal → Pass
  through : Bool → ℕ → List ℕ → ℕ → Pass

unfoldable pub pass_of : ℕ → Bool → ℕ → ℕ → List ℕ → Form → Pass
pass_of n ok sum i g (refused r) = halted r
pass_of n ok sum i g (formed fs end) = through (ok && all_keep n fs) (sum + weights fs) (noted_all n i fs g) end

-- bytes left over are 2
abbrev pub checked_of : ℕ → Pass → Result (Bool × ℕ) Refusal
checked_of size (halted r) = Err r
checked_of size (through ok sum g end) = cond (eqb end size) (Ok (ok, sum)) (Err TextForm)

-- the graph that the pass leaves, if it comes through
abbrev pub Noted : List ℕ → Pass → Type 0
Noted g (halted r) = Unit {0}
Noted g (through ok sum h end) = g ≡ h
