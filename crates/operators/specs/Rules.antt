-- Believe: the rules for the fields of one stream, of a plan text and of a record alike.
use Rattle.std.specs.Prelude.{ℕ, Bool, true, cond, ◌&&◌, eqb, ltb}
use Rattle.operators.specs.Operators.{group_of, is_in, uses_a, uses_b, uses_k}
use Rattle.operators.specs.declared.Group.{Group}

-- "an unused field not 0, a used argument not below N, or out=1 on in" are against the rules

-- an argument that is used is below n, one that is not is 0
abbrev pub arg_ok : Bool → ℕ → ℕ → Bool
arg_ok used n a = cond used (ltb a n) (eqb a 0)

abbrev pub value_ok : Bool → ℕ → Bool
value_ok used k = cond used true (eqb k 0)

-- out is 0 or 1, and 0 of an input
abbrev pub out_ok : Group → ℕ → Bool
out_ok g out = cond (is_in g) (eqb out 0) (ltb out 2)

-- the fields of a stream of a plan of n streams
unfoldable pub fields_ok : ℕ → ℕ → ℕ → ℕ → ℕ → ℕ → Bool
fields_ok n op a b k out = arg_ok (uses_a op) n a && (arg_ok (uses_b op) n b && (value_ok (uses_k op) k && out_ok (group_of op) out))
