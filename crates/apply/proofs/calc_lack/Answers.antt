use mathlib.Core.Path.{◌∙◌, ap, ap₂}
use Rattle.std.specs.Result.{result_err}
use native.Mathlib.Omega.{arith}
use Rattle.meaning.specs.Table.{calculated}
use Rattle.apply.specs.Named.{calculation}
use Rattle.apply.specs.Lack.{lack_for}
use Rattle.apply.proofs.Rows
use Rattle.apply.proofs.Lacks as law
use Rattle.apply.proofs.calc_lack.Goals as goal

pub returns-in_err-v : goal.returns-in_err-v
returns-in_err-v c = λ q. ap (lack_for q) c.from_residual.ensures ∙ law.calc_first q (calculation c.args.g) c.args.x c.args.y c.in_err-v.was

pub returns-in_err-w : goal.returns-in_err-w
returns-in_err-w c = λ q. ap (lack_for q) c.from_residual-in_err-w.ensures ∙ law.calc_second q (calculation c.args.g) c.in_ok-v.v c.args.x c.args.y c.in_ok-v.was c.in_err-w.was

pub returns : goal.returns
returns c = let v = c.in_ok-v.v in let w = c.in_ok-w.w in let g = calculation c.args.g in λ q. ap (lack_for q) (c.err.ensures.value ∙ ap result_err (c.calculate.ensures ∙ ap₂ (calculated g) (Rows.back v (omega arith)) (Rows.back w (omega arith)))) ∙ law.err_is q (calculated g v w) ∙ law.calc_both q g v w c.args.x c.args.y c.in_ok-v.was c.in_ok-w.was
