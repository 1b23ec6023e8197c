-- `sliding::fit` meets its contract.
use Prim.Native.Nat.{◌+◌, ◌-◌}
use mathlib.Core.Path.{ap, ◌∙◌}
use Rattle.layout.specs.Record.{Raw, dec_raw, decode}
use Rattle.layout.proofs.Laws.{record_row}
use Rattle.encoding.specs.Back.{held_of}
use Rattle.apply.specs.Named.{folding}
use Rattle.windows.specs.Window.{fitted}
use Rattle.sliding.specs.Slide.{fit_row}
use Rattle.sliding.proofs.Whole.{fit_is}
use native.Mathlib.Omega.{arith}
use Rattle.sliding.proofs.fit.Goals as goal

pub returns : goal.returns
returns c = let st = decode c.args.n c.args.state.now in fit_is c.args.n c.args.state.now (omega arith) c.args.i c.place_of.result c.window_start-at.result (c.window_start-at.result + 512 - c.window_start-at.result) c.place_of.ensures.0 c.window_start-at.ensures.0 (omega arith) c.args.k c.fill_of-fill.result c.fill_of-fill.ensures.0 (folding c.args.f) c.args.y c.args.hi (held_of (dec_raw c.row_at-held.result.now)) (fitted c.args.hi c.find.result) c.find.ensures ∙ ap (λ (r : Raw). fit_row (folding c.args.f) c.args.k c.args.i c.args.y c.args.hi (held_of r) st) (record_row c.args.n c.args.state.now c.row_at-held.result.now c.args.a (omega arith) c.row_at-held.ensures.0)
