-- How: a number in sign and magnitude: how the code works.
use Rattle.std.specs.Prelude.{ℕ, zero, suc, Bool, true, false, cond, ℤ, pos, neg_ℤ}
use Rattle.std.specs.Bool.{beq}
use Rattle.num.specs.declared.Parts.{Parts}

-- the number with this sign and magnitude
abbrev pub signed : Bool → ℕ → ℤ
signed false m = pos m
signed true m = neg_ℤ (pos m)

abbrev pub of : Parts → ℤ
of p = signed p.neg p.mag

-- 1 if a quotient with these signs, of the magnitude m by another, lies below zero, else 0
unfoldable pub lowered : (s t : Bool) → ℕ → ℕ
lowered s t zero = 0
lowered s t (suc m) = cond (beq s t) 0 1
