-- What is left, below the divisor.
use Prim.Native.Nat.{ℕ, zero, suc, ◌<◌, zero-le}
use mathlib.Core.Logic.{inl, inr}
use native.Mathlib.Omega.{arith}
use lib.IntN.{pos, negsuc, neg_ℤ}
use lib.Dec.{le→leb, lt→ltb}
use Rattle.num.specs.Division.{Below}

pub below_pos : (k n : ℕ) → k < suc n → Below (pos (suc n)) (pos k)
below_pos k n h = inl (record { le = le→leb 0 k zero-le }, record { lt = lt→ltb k (suc n) h })

pub below_neg : (k n : ℕ) → k < suc n → Below (negsuc n) (neg_ℤ (pos k))
below_neg zero n h = inr (record { lt = tt }, record { le = tt })
below_neg (suc k) n h = inr (record { lt = lt→ltb k n (omega arith) }, record { le = tt })
