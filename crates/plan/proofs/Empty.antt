-- The plan of no streams: its text has no bytes, and no other text is its text.
use Prim.Native.Nat.{ℕ}
use mathlib.Core.Path.{◌≡◌, refl, sym, ap, ◌∙◌}
use mathlib.Core.List.{List, []}
use Rattle.render.specs.Render.{all_text, render}
use Rattle.meaning.specs.CycleTest.{visits, down_from, acyclic}
use Rattle.operators.specs.Windows.{windows}
use Rattle.text.specs.Grammar.{head}
use Rattle.plan.specs.Rules.{all_keep, streams, plan_from, all_widths, windows_ok, number_after, number, declared}
use Rattle.plan.proofs.Taken.{taken_rendered}

pub empty_text : render [] ≡ []
unfolding render all_text
empty_text = refl

-- "An empty plan text now means a plan of no streams"
pub empty_taken : (cap : ℕ) → (number cap [] ≡ 0) × (declared cap [] ≡ [])
unfolding number number_after declared streams all_keep all_widths windows_ok windows plan_from acyclic visits down_from head
empty_taken cap = (refl, refl)

pub empty_alone : (cap : ℕ) (s : List ℕ) → number cap s ≡ 0 → declared cap s ≡ [] → s ≡ []
empty_alone cap s e d = sym (taken_rendered cap s e).0 ∙ ap render d ∙ empty_text
