-- `sliding::slide` meets its contract.
use Prim.Native.Nat.{◌+◌, ◌-◌, ◌*◌}
use mathlib.Core.Path.{ap, ◌∙◌}
use mathlib.Core.List.{map}
use lib.ListN.{take}
use mir.Syntax.{w64}
use mir.Val.{to_z}
use Rattle.layout.specs.Record.{Raw, dec_raw, encode, decode}
use Rattle.layout.proofs.Laws.{record_row}
use Rattle.encoding.specs.Back.{held_of}
use Rattle.sliding.specs.Slide.{slid_row}
use Rattle.sliding.proofs.Whole.{slid_is}
use native.Mathlib.Omega.{arith}
use Rattle.sliding.proofs.slide.Goals as goal

pub returns : goal.returns
returns c = let st = decode c.args.n c.args.state.now in slid_is c.args.n c.args.state.now (omega arith) c.args.i c.place_of.result c.window_start-at.result (c.window_start-at.result + 512 - c.window_start-at.result) c.place_of.ensures.0 c.window_start-at.ensures.0 (omega arith) c.args.k c.fill_of-fill.result c.fill_of-fill.ensures.0 c.args.y c.args.x (held_of (dec_raw c.row_at.result.now)) (map (to_z w64) (take c.gather-m.result c.gather-m.new.v)) c.gather-m.ensures.0 c.slide-kept.new.w c.put_byte.new.r c.slide-kept.result (c.args.i * 256 + 256 - c.args.i * 256) (λ j. omega (arith, c.slice_known-1.given j)) (omega arith) (omega arith) c.slide-kept.ensures.slid c.slide-kept.ensures.many.0 (omega arith) (λ j. omega (arith, c.slice_known-2-1.given j)) (omega arith) c.put_byte.ensures ∙ ap (λ (r : Raw). encode c.args.n (slid_row c.args.k c.args.i c.args.y c.args.x (held_of r) st)) (record_row c.args.n c.args.state.now c.row_at.result.now c.args.a (omega arith) c.row_at.ensures.0)
