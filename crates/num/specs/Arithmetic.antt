-- Believe: arithmetic on values: each operation over all whole numbers, and one test that says whether the result is a value.
use Rattle.std.specs.Prelude.{Result, Ok, Err, ℕ, suc, ◌^◌, ◌-◌, ◌/◌, Bool, true, false, cond, eqb, ℤ, pos, negsuc, neg_ℤ, ◌+ℤ◌, ◌-ℤ◌, ◌*ℤ◌}
use Rattle.std.specs.Int.Signed.{le_z, lt_z}
use Rattle.num.specs.declared.Reason.{Reason}
use Rattle.num.specs.declared.Reason.TheVariants.{Outside, ZeroDivisor}

-- What an operation answers: a value, or why there is none.
abbrev pub Answer : Type 0
Answer = Result ℤ Reason

-- A value is a signed 64-bit whole number.
abbrev pub least_value : ℤ
least_value = negsuc (2 ^ 63 - 1)

abbrev pub past_values : ℤ
past_values = pos (2 ^ 63)

-- z if it is a value; a result outside the value range gives none
unfoldable pub fit : ℤ → Answer
fit z = cond (le_z least_value z) (cond (lt_z z past_values) (Ok z) (Err Outside)) (Err Outside)

unfoldable pub is_zero : ℤ → Bool
is_zero (pos n) = eqb n 0
is_zero (negsuc n) = false

-- 1 for yes, 0 for no
unfoldable pub truth : Bool → Answer
truth true = Ok (pos 1)
truth false = Ok (pos 0)

unfoldable pub same : ℤ → ℤ → Bool
same (pos m) (pos n) = eqb m n
same (pos m) (negsuc n) = false
same (negsuc m) (pos n) = false
same (negsuc m) (negsuc n) = eqb m n

unfoldable pub negated : ℤ → Answer
unfolding fit
negated x = fit (neg_ℤ x)

unfoldable pub added : ℤ → ℤ → Answer
unfolding fit
added x y = fit (x +ℤ y)

unfoldable pub subtracted : ℤ → ℤ → Answer
unfolding fit
subtracted x y = fit (x -ℤ y)

unfoldable pub multiplied : ℤ → ℤ → Answer
unfolding fit
multiplied x y = fit (x *ℤ y)

-- x / d down to the next whole number, or itself if it is one; d is above 0. Of −1 to −d it is −1, of −(d + 1) to −2d it is −2.
unfoldable pub down : ℤ → ℕ → ℤ
down (pos m) d = pos (m / d)
down (negsuc m) d = negsuc (m / d)

-- "a quotient goes down to the next whole number": below zero too. x / −d is −x / d.
unfoldable pub quotient : ℤ → ℤ → ℤ
unfolding down
quotient x (pos d) = down x d
quotient x (negsuc n) = down (neg_ℤ x) (suc n)

-- what the quotient leaves; it "has the divisor's sign" (Division)
unfoldable pub rest : ℤ → ℤ → ℤ
unfolding quotient
rest x y = x -ℤ quotient x y *ℤ y

-- A zero divisor is said first.
unfoldable pub divided : ℤ → ℤ → Answer
unfolding fit is_zero quotient
divided x y = cond (is_zero y) (Err ZeroDivisor) (fit (quotient x y))

unfoldable pub remainder : ℤ → ℤ → Answer
unfolding fit is_zero rest
remainder x y = cond (is_zero y) (Err ZeroDivisor) (fit (rest x y))

-- lt, le and eq give 1 or 0
unfoldable pub less : ℤ → ℤ → Answer
unfolding truth
less x y = truth (lt_z x y)

unfoldable pub at_most : ℤ → ℤ → Answer
unfolding truth
at_most x y = truth (le_z x y)

unfoldable pub equal : ℤ → ℤ → Answer
unfolding truth same
equal x y = truth (same x y)
