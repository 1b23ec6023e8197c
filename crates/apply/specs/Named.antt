-- How: the operators of the code as those of a plan.
use Rattle.meaning.specs.Plan as plan
use Rattle.apply.specs.declared.Unary.{Unary}
use Rattle.apply.specs.declared.Unary.TheVariants.{Time, Set, Plus, Neg}
use Rattle.apply.specs.declared.Calc.{Calc}
use Rattle.apply.specs.declared.Calc.TheVariants.{Add, Sub, Mul, Div, Rem, Lt, Le, Eq}
use Rattle.apply.specs.declared.Binary.{Binary}
use Rattle.apply.specs.declared.Binary.TheVariants.{Arith, Keep, Merge}
use Rattle.apply.specs.declared.Fold.{Fold}
use Rattle.apply.specs.declared.Fold.TheVariants.{Sum, Least, Greatest}

abbrev pub unary : Unary → plan.Unary
unary Time = plan.time
unary (Set k) = plan.set k
unary (Plus k) = plan.plus k
unary Neg = plan.neg

abbrev pub calculation : Calc → plan.Calc
calculation Add = plan.add
calculation Sub = plan.sub
calculation Mul = plan.mul
calculation Div = plan.div
calculation Rem = plan.rem
calculation Lt = plan.lt
calculation Le = plan.le
calculation Eq = plan.eq

abbrev pub binary : Binary → plan.Binary
binary (Arith g) = plan.calc (calculation g)
binary Keep = plan.keep
binary Merge = plan.merge

abbrev pub folding : Fold → plan.Fold
folding Sum = plan.wsum
folding Least = plan.wmin
folding Greatest = plan.wmax
