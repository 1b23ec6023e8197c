-- What an arm of a match on a group says of it.
use Prim.Native.Nat.{ℕ}
use mathlib.Core.Path.{◌≡◌, refl, sym, ap, ◌∙◌}
use mathlib.Core.Bool.{Bool, false, ◌&&◌}
use mathlib.Core.List.{[], ◌∷◌}
use lib.Dec.{eqb, ltb}
use types.Run.{OneOf, miss}
use denote.Enum.Declared.{tag_of}
use Rattle.meaning.specs.Arguments.{prompts}
use Rattle.operators.specs.Operators.{group_of, is_last, is_delay, is_signal, is_window, takes_first, takes_second, arguments_of, uses_a, uses_b, uses_k}
use Rattle.operators.specs.Rules.{arg_ok, value_ok, out_ok, fields_ok}
use Rattle.operators.specs.declared.Group.{Group}
use Rattle.operators.specs.declared.Group.TheVariants.{Absent, Input, Plain, One, Two, Last, Delay, Signal, Window}
use Rattle.operators.specs.contracts.Group.{the_type}
use Rattle.operators.proofs.Laws.{has_one, value_by_group}

-- the place of a group among the variants
abbrev pub tag : Group → ℕ
tag g = tag_of the_type g

-- no undelayed argument
pub bare_prompts : (g : Group) (a b : ℕ) → OneOf (0 ∷ 1 ∷ 2 ∷ []) (tag g) → prompts (arguments_of g a b) ≡ []
bare_prompts Absent a b h = refl
bare_prompts Input a b h = refl
bare_prompts Plain a b h = refl
bare_prompts One a b h = absurd (miss (0 ∷ 1 ∷ 2 ∷ []) 3 tt h)
bare_prompts Two a b h = absurd (miss (0 ∷ 1 ∷ 2 ∷ []) 4 tt h)
bare_prompts Last a b h = absurd (miss (0 ∷ 1 ∷ 2 ∷ []) 5 tt h)
bare_prompts Delay a b h = absurd (miss (0 ∷ 1 ∷ 2 ∷ []) 6 tt h)
bare_prompts Signal a b h = absurd (miss (0 ∷ 1 ∷ 2 ∷ []) 7 tt h)
bare_prompts Window a b h = absurd (miss (0 ∷ 1 ∷ 2 ∷ []) 8 tt h)

-- only the second argument is undelayed
pub late_prompts : (g : Group) (a b : ℕ) → OneOf (5 ∷ 6 ∷ []) (tag g) → prompts (arguments_of g a b) ≡ b ∷ []
late_prompts Absent a b h = absurd (miss (5 ∷ 6 ∷ []) 0 tt h)
late_prompts Input a b h = absurd (miss (5 ∷ 6 ∷ []) 1 tt h)
late_prompts Plain a b h = absurd (miss (5 ∷ 6 ∷ []) 2 tt h)
late_prompts One a b h = absurd (miss (5 ∷ 6 ∷ []) 3 tt h)
late_prompts Two a b h = absurd (miss (5 ∷ 6 ∷ []) 4 tt h)
late_prompts Last a b h = refl
late_prompts Delay a b h = refl
late_prompts Signal a b h = absurd (miss (5 ∷ 6 ∷ []) 7 tt h)
late_prompts Window a b h = absurd (miss (5 ∷ 6 ∷ []) 8 tt h)

-- both are
pub both_prompts : (g : Group) (a b : ℕ) → OneOf (4 ∷ 7 ∷ []) (tag g) → prompts (arguments_of g a b) ≡ a ∷ b ∷ []
both_prompts Absent a b h = absurd (miss (4 ∷ 7 ∷ []) 0 tt h)
both_prompts Input a b h = absurd (miss (4 ∷ 7 ∷ []) 1 tt h)
both_prompts Plain a b h = absurd (miss (4 ∷ 7 ∷ []) 2 tt h)
both_prompts One a b h = absurd (miss (4 ∷ 7 ∷ []) 3 tt h)
both_prompts Two a b h = refl
both_prompts Last a b h = absurd (miss (4 ∷ 7 ∷ []) 5 tt h)
both_prompts Delay a b h = absurd (miss (4 ∷ 7 ∷ []) 6 tt h)
both_prompts Signal a b h = refl
both_prompts Window a b h = absurd (miss (4 ∷ 7 ∷ []) 8 tt h)

-- only the first is there
pub first_prompts : (g : Group) (a b : ℕ) → OneOf (3 ∷ 8 ∷ []) (tag g) → prompts (arguments_of g a b) ≡ a ∷ []
first_prompts Absent a b h = absurd (miss (3 ∷ 8 ∷ []) 0 tt h)
first_prompts Input a b h = absurd (miss (3 ∷ 8 ∷ []) 1 tt h)
first_prompts Plain a b h = absurd (miss (3 ∷ 8 ∷ []) 2 tt h)
first_prompts One a b h = refl
first_prompts Two a b h = absurd (miss (3 ∷ 8 ∷ []) 4 tt h)
first_prompts Last a b h = absurd (miss (3 ∷ 8 ∷ []) 5 tt h)
first_prompts Delay a b h = absurd (miss (3 ∷ 8 ∷ []) 6 tt h)
first_prompts Signal a b h = absurd (miss (3 ∷ 8 ∷ []) 7 tt h)
first_prompts Window a b h = refl

-- the group of an operator that keeps nothing
pub keepless : (g : Group) → OneOf (0 ∷ 1 ∷ 2 ∷ 3 ∷ 4 ∷ []) (tag g) → (is_last g ≡ false) × ((is_delay g ≡ false) × ((is_signal g ≡ false) × (is_window g ≡ false)))
keepless Absent h = (refl, (refl, (refl, refl)))
keepless Input h = (refl, (refl, (refl, refl)))
keepless Plain h = (refl, (refl, (refl, refl)))
keepless One h = (refl, (refl, (refl, refl)))
keepless Two h = (refl, (refl, (refl, refl)))
keepless Last h = absurd (miss (0 ∷ 1 ∷ 2 ∷ 3 ∷ 4 ∷ []) 5 tt h)
keepless Delay h = absurd (miss (0 ∷ 1 ∷ 2 ∷ 3 ∷ 4 ∷ []) 6 tt h)
keepless Signal h = absurd (miss (0 ∷ 1 ∷ 2 ∷ 3 ∷ 4 ∷ []) 7 tt h)
keepless Window h = absurd (miss (0 ∷ 1 ∷ 2 ∷ 3 ∷ 4 ∷ []) 8 tt h)

-- the group of an operator that is never told: neither a last nor a delay
pub neither : (g : Group) → OneOf (0 ∷ 1 ∷ 2 ∷ 3 ∷ 4 ∷ 7 ∷ 8 ∷ []) (tag g) → (is_last g ≡ false) × (is_delay g ≡ false)
neither Absent h = (refl, refl)
neither Input h = (refl, refl)
neither Plain h = (refl, refl)
neither One h = (refl, refl)
neither Two h = (refl, refl)
neither Last h = absurd (miss (0 ∷ 1 ∷ 2 ∷ 3 ∷ 4 ∷ 7 ∷ 8 ∷ []) 5 tt h)
neither Delay h = absurd (miss (0 ∷ 1 ∷ 2 ∷ 3 ∷ 4 ∷ 7 ∷ 8 ∷ []) 6 tt h)
neither Signal h = (refl, refl)
neither Window h = (refl, refl)

-- ---- the rules for the fields of a stream, by the group of its stored number

module _ (n op a b k out : ℕ) where
  abbrev pub kept_by : Group → Bool
  kept_by g = arg_ok (takes_first g) n a && (arg_ok (takes_second g) n b && (value_ok (has_one g && uses_k op) k && out_ok g out))

  pub fields_by : (g : Group) → g ≡ group_of op → kept_by g ≡ fields_ok n op a b k out
  unfolding fields_ok
  fields_by g e = ap kept_by e ∙ ap (λ v. arg_ok (uses_a op) n a && (arg_ok (uses_b op) n b && (value_ok v k && out_ok (group_of op) out))) (sym (value_by_group op))

  -- no argument, and not an input
  pub plain_fields : (g : Group) → OneOf (0 ∷ 2 ∷ []) (tag g) → (eqb a 0 && (eqb b 0 && (eqb k 0 && ltb out 2))) ≡ kept_by g
  plain_fields Absent h = refl
  plain_fields Input h = absurd (miss (0 ∷ 2 ∷ []) 1 tt h)
  plain_fields Plain h = refl
  plain_fields One h = absurd (miss (0 ∷ 2 ∷ []) 3 tt h)
  plain_fields Two h = absurd (miss (0 ∷ 2 ∷ []) 4 tt h)
  plain_fields Last h = absurd (miss (0 ∷ 2 ∷ []) 5 tt h)
  plain_fields Delay h = absurd (miss (0 ∷ 2 ∷ []) 6 tt h)
  plain_fields Signal h = absurd (miss (0 ∷ 2 ∷ []) 7 tt h)
  plain_fields Window h = absurd (miss (0 ∷ 2 ∷ []) 8 tt h)

  -- two arguments
  pub two_fields : (g : Group) → OneOf (4 ∷ 5 ∷ 6 ∷ 7 ∷ []) (tag g) → (ltb a n && (ltb b n && (eqb k 0 && ltb out 2))) ≡ kept_by g
  two_fields Absent h = absurd (miss (4 ∷ 5 ∷ 6 ∷ 7 ∷ []) 0 tt h)
  two_fields Input h = absurd (miss (4 ∷ 5 ∷ 6 ∷ 7 ∷ []) 1 tt h)
  two_fields Plain h = absurd (miss (4 ∷ 5 ∷ 6 ∷ 7 ∷ []) 2 tt h)
  two_fields One h = absurd (miss (4 ∷ 5 ∷ 6 ∷ 7 ∷ []) 3 tt h)
  two_fields Two h = refl
  two_fields Last h = refl
  two_fields Delay h = refl
  two_fields Signal h = refl
  two_fields Window h = absurd (miss (4 ∷ 5 ∷ 6 ∷ 7 ∷ []) 8 tt h)

  -- one argument
  pub one_fields : (g : Group) → OneOf (3 ∷ 8 ∷ []) (tag g) → (ltb a n && (eqb b 0 && (value_ok (uses_k op) k && ltb out 2))) ≡ kept_by g
  one_fields Absent h = absurd (miss (3 ∷ 8 ∷ []) 0 tt h)
  one_fields Input h = absurd (miss (3 ∷ 8 ∷ []) 1 tt h)
  one_fields Plain h = absurd (miss (3 ∷ 8 ∷ []) 2 tt h)
  one_fields One h = refl
  one_fields Two h = absurd (miss (3 ∷ 8 ∷ []) 4 tt h)
  one_fields Last h = absurd (miss (3 ∷ 8 ∷ []) 5 tt h)
  one_fields Delay h = absurd (miss (3 ∷ 8 ∷ []) 6 tt h)
  one_fields Signal h = absurd (miss (3 ∷ 8 ∷ []) 7 tt h)
  one_fields Window h = refl
