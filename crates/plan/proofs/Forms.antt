-- What reading all streams found, taken apart.
use Prim.Native.Nat.{ℕ}
use mathlib.Core.Path.{◌≡◌, sym, ap}
use mathlib.Core.Bool.{Bool, true, false, true≢false}
use mathlib.Core.List.{List, []}
use Rattle.refusal.specs.declared.Refusal.{Refusal}
use Rattle.text.specs.declared.Fields.{Fields}
use Rattle.plan.specs.Rules.{Form, refused, formed}

abbrev is_formed : Form → Bool
is_formed (refused r) = false
is_formed (formed fs end) = true

abbrev pub fields_in : Form → List Fields
fields_in (refused r) = []
fields_in (formed fs end) = fs

abbrev pub end_in : Form → ℕ
end_in (refused r) = 0
end_in (formed fs end) = end

pub clash : {A : Type 0} {r : Refusal} {end : ℕ} {fs : List Fields} → refused r ≡ formed fs end → A
clash e = absurd (true≢false (sym (ap is_formed e)))
