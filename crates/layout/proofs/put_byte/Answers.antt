use mathlib.Core.Path.{◌∙◌}
use native.Mathlib.Omega.{arith}
use Rattle.layout.proofs.Laws.{byte_put}
use Rattle.layout.proofs.put_byte.Goals as goal

pub returns : goal.returns
returns c =
    let k = c in
    let a = k in
    c.put.ensures ∙ byte_put a.args.r.now a.args.j a.args.v (omega arith) (λ i. omega (arith, k.slice_known-1.given i)) (omega arith)
