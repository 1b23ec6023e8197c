-- `sliding::width_of` meets its contract.
use mathlib.Core.Path.{sym, ap, ◌∙◌}
use lib.IntN.{pos}
use lib.Signed.{lt_z}
use Rattle.apply.proofs.Rows.{back}
use native.Mathlib.Omega.{arith}
use Rattle.sliding.proofs.Places as law
use Rattle.sliding.proofs.width_of.Goals as goal

pub returns-then-k-lt1 : goal.returns-then-k-lt1
returns-then-k-lt1 c = let e = back c.args.k (omega arith) in let t = ap (λ z. lt_z z (pos 1)) (sym e) ∙ c.if-k-lt1.true in (law.width_low c.args.k t, omega arith, omega arith)

pub overflow_cast-w : goal.overflow_cast-w
overflow_cast-w c = let e = back c.args.k (omega arith) in let t = ap (λ z. lt_z z (pos 1)) (sym e) ∙ c.if-k-lt1.false in rw e (law.width_cast c.args.k (omega arith) t)

pub returns-then-w-gt-WIDTH : goal.returns-then-w-gt-WIDTH
returns-then-w-gt-WIDTH c = let e = back c.args.k (omega arith) in let t = ap (λ z. lt_z z (pos 1)) (sym e) ∙ c.if-k-lt1.false in let w = law.width_is c.args.k t in let m = rw e at c.if-w-gt-WIDTH.true in (omega arith, omega arith, omega arith)

pub returns : goal.returns
returns c = let e = back c.args.k (omega arith) in let t = ap (λ z. lt_z z (pos 1)) (sym e) ∙ c.if-k-lt1.false in let w = law.width_is c.args.k t in let m = rw e at c.if-w-gt-WIDTH.false in rw e (omega arith, omega arith, omega arith)
