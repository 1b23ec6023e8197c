-- What fields that keep the rules say of their equation, and that an equation's fields keep them.
use Prim.Native.Nat.{ℕ, ◌≤◌, ◌<◌}
use mathlib.Core.Path.{◌≡◌, refl, sym, ap, ◌∙◌, subst}
use mathlib.Core.Bool.{Bool, true, false, cond, ◌&&◌}
use mathlib.Core.List.{map}
use native.Mathlib.Omega.{arith}
use lib.Dec.{T, eqb}
use lib.IntN.{ℤ, pos}
use borrow.Author.Tests.{eqb-true, ltb-true, lt-ltb, eq-eqb}
use mir.Syntax.{w64}
use mir.Val.{to_z}
use Rattle.meaning.specs.Plan.{time, neg, set, plus, Eqn, input, nil, unit, one, two, last, delay, signal, window, is_input}
use Rattle.meaning.specs.Arguments.{Argument, reads, undelayed, arg_a, arg_b, AllBelow}
use Rattle.meaning.proofs.Within.{undelayed_read}
use Rattle.operators.specs.Operators.{group_of, is_in, takes_first, takes_second, arguments_of, uses_a, uses_b, uses_k, eqn_group, eqn_of, number_of, value_of}
use Rattle.operators.specs.Rules.{arg_ok, value_ok, out_ok, fields_ok}
use Rattle.operators.specs.declared.Group.{Group}
use Rattle.operators.specs.declared.Group.TheVariants.{Absent, Input, Plain, One, Two, Last, Delay, Signal, Window}
use Rattle.operators.proofs.Tests.{left, right}
use Rattle.operators.proofs.Laws.{two_value, signal_value, window_value, group_of_lem, first_back, second_back, value_back, arguments_by_number, input_by_number}

-- ---- one field

pub arg_is : (used : Bool) (n a : ℕ) → arg_ok used n a ≡ true → cond used a 0 ≡ a
arg_is true n a e = refl
arg_is false n a e = sym (eqb-true a 0 e)

-- an argument is below what n is below
pub arg_small : (used : Bool) (n a : ℕ) → arg_ok used n a ≡ true → (m : ℕ) → 0 < m → n ≤ m → a < m
arg_small true n a e m l h = omega (arith, ltb-true a n e)
arg_small false n a e m l h = omega (arith, eqb-true a 0 e)

value_is : (used : Bool) (k : ℕ) → value_ok used k ≡ true → cond used (to_z w64 k) (pos 0) ≡ to_z w64 k
value_is true k e = refl
value_is false k e = sym (ap (to_z w64) (eqb-true k 0 e))

not_out : (x : Bool) (out : ℕ) → cond x (eqb out 0) true ≡ true → (x && eqb out 1) ≡ false
not_out true out e = ap (λ o. eqb o 1) (eqb-true out 0 e)
not_out false out e = refl

in_only : (g : Group) (out : ℕ) → out_ok g out ≡ true → cond (is_in g) (eqb out 0) true ≡ true
in_only Absent out e = refl
in_only Input out e = e
in_only Plain out e = refl
in_only One out e = refl
in_only Two out e = refl
in_only Last out e = refl
in_only Delay out e = refl
in_only Signal out e = refl
in_only Window out e = refl

-- the arguments of a group, each below n
below_in : (n a b : ℕ) (g : Group) → arg_ok (takes_first g) n a ≡ true → arg_ok (takes_second g) n b ≡ true → AllBelow n (map (λ x. x.stream) (arguments_of g a b))
below_in n a b Absent p q = tt
below_in n a b Input p q = tt
below_in n a b Plain p q = tt
below_in n a b One p q = (ltb-true a n p, tt)
below_in n a b Two p q = (ltb-true a n p, (ltb-true b n q, tt))
below_in n a b Last p q = (ltb-true a n p, (ltb-true b n q, tt))
below_in n a b Delay p q = (ltb-true a n p, (ltb-true b n q, tt))
below_in n a b Signal p q = (ltb-true a n p, (ltb-true b n q, tt))
below_in n a b Window p q = (ltb-true a n p, tt)

-- ---- fields that keep the rules

module _ (n op a b k out : ℕ) (e : fields_ok n op a b k out ≡ true) where
  pub first_ok : arg_ok (uses_a op) n a ≡ true
  unfolding fields_ok
  first_ok = left (arg_ok (uses_a op) n a) (arg_ok (uses_b op) n b && (value_ok (uses_k op) k && out_ok (group_of op) out)) e

  after_first : (arg_ok (uses_b op) n b && (value_ok (uses_k op) k && out_ok (group_of op) out)) ≡ true
  unfolding fields_ok
  after_first = right (arg_ok (uses_a op) n a) (arg_ok (uses_b op) n b && (value_ok (uses_k op) k && out_ok (group_of op) out)) e

  pub second_ok : arg_ok (uses_b op) n b ≡ true
  second_ok = left (arg_ok (uses_b op) n b) (value_ok (uses_k op) k && out_ok (group_of op) out) after_first

  after_second : (value_ok (uses_k op) k && out_ok (group_of op) out) ≡ true
  after_second = right (arg_ok (uses_b op) n b) (value_ok (uses_k op) k && out_ok (group_of op) out) after_first

  pub value_ok_lem : value_ok (uses_k op) k ≡ true
  value_ok_lem = left (value_ok (uses_k op) k) (out_ok (group_of op) out) after_second

  pub out_ok_lem : out_ok (group_of op) out ≡ true
  out_ok_lem = right (value_ok (uses_k op) k) (out_ok (group_of op) out) after_second

  -- they are the fields of the equation that they make
  pub fields_first : (z : ℤ) → arg_a (eqn_of op a b z) ≡ a
  fields_first z = first_back a b z op ∙ arg_is (uses_a op) n a first_ok

  pub fields_second : (z : ℤ) → arg_b (eqn_of op a b z) ≡ b
  fields_second z = second_back a b z op ∙ arg_is (uses_b op) n b second_ok

  pub fields_value : value_of (eqn_of op a b (to_z w64 k)) ≡ to_z w64 k
  fields_value = value_back a b (to_z w64 k) op ∙ value_is (uses_k op) k value_ok_lem

  -- and its arguments are streams of the plan
  pub fields_reads : (z : ℤ) → AllBelow n (reads (eqn_of op a b z))
  fields_reads z = subst (λ l. AllBelow n (map (λ (x : Argument). x.stream) l)) (sym (arguments_by_number a b z op)) (below_in n a b (group_of op) first_ok second_ok)

  pub fields_undelayed : (z : ℤ) → AllBelow n (undelayed (eqn_of op a b z))
  fields_undelayed z = undelayed_read (λ x. x < n) (eqn_of op a b z) (fields_reads z)

  pub fields_out : (z : ℤ) → (is_input (eqn_of op a b z) && eqb out 1) ≡ false
  fields_out z = ap (λ x. x && eqb out 1) (input_by_number a b z op) ∙ not_out (is_in (group_of op)) out (in_only (group_of op) out out_ok_lem)

-- ---- an equation's fields

args_pass : (n : ℕ) (e : Eqn) → AllBelow n (reads e) → (arg_ok (takes_first (eqn_group e)) n (arg_a e) ≡ true) × (arg_ok (takes_second (eqn_group e)) n (arg_b e) ≡ true)
args_pass n input h = (refl, refl)
args_pass n nil h = (refl, refl)
args_pass n unit h = (refl, refl)
args_pass n (one f a) h = (lt-ltb a n h.0, refl)
args_pass n (two g a b) h = (lt-ltb a n h.0, lt-ltb b n h.1.0)
args_pass n (last a b) h = (lt-ltb a n h.0, lt-ltb b n h.1.0)
args_pass n (delay a b) h = (lt-ltb a n h.0, lt-ltb b n h.1.0)
args_pass n (signal g a b) h = (lt-ltb a n h.0, lt-ltb b n h.1.0)
args_pass n (window f k a) h = (lt-ltb a n h.0, refl)

-- out is 0 or 1, and 0 of an input
pub out_pass : (e : Eqn) (x : ℕ) → x < 2 → (T (is_input e) → x ≡ 0) → out_ok (eqn_group e) x ≡ true
out_pass input x h z = eq-eqb x 0 (z tt)
out_pass nil x h z = lt-ltb x 2 h
out_pass unit x h z = lt-ltb x 2 h
out_pass (one f a) x h z = lt-ltb x 2 h
out_pass (two g a b) x h z = lt-ltb x 2 h
out_pass (last a b) x h z = lt-ltb x 2 h
out_pass (delay a b) x h z = lt-ltb x 2 h
out_pass (signal g a b) x h z = lt-ltb x 2 h
out_pass (window f k a) x h z = lt-ltb x 2 h

-- with the value written as a number by f
module _ (f : ℤ → ℕ) (z : f (pos 0) ≡ 0) where
  none_pass : (used : Bool) → value_ok used (f (pos 0)) ≡ true
  none_pass true = refl
  none_pass false = rw z

  value_pass : (e : Eqn) → value_ok (uses_k (number_of e)) (f (value_of e)) ≡ true
  unfolding uses_k number_of value_of
  value_pass input = none_pass false
  value_pass nil = none_pass false
  value_pass unit = none_pass false
  value_pass (one time a) = none_pass false
  value_pass (one (set k) a) = refl
  value_pass (one (plus k) a) = refl
  value_pass (one neg a) = none_pass false
  value_pass (two g a b) = rw (two_value g) (none_pass false)
  value_pass (last a b) = none_pass false
  value_pass (delay a b) = none_pass false
  value_pass (signal g a b) = rw (signal_value g) (none_pass false)
  value_pass (window f k a) = rw (window_value f)

  pub fields_pass : (n : ℕ) (e : Eqn) (out : ℕ) → AllBelow n (reads e) → out_ok (eqn_group e) out ≡ true → fields_ok n (number_of e) (arg_a e) (arg_b e) (f (value_of e)) out ≡ true
  unfolding fields_ok
  fields_pass n e out h o = let p = args_pass n e h in rw (group_of_lem e, p.0, p.1, value_pass e, o)
