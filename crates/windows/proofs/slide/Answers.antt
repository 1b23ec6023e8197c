-- `windows::slide` meets its contract.
use mathlib.Core.Path.{refl}
use mathlib.Core.List.{◌++◌, map}
use lib.ListN.{take}
use mir.Syntax.{w64}
use mir.Val.{to_z}
use Rattle.meaning.specs.Table.{latest_of}
use Rattle.windows.specs.Window.{kept}
use Rattle.windows.proofs.Slides.{slides_done, slides_many, slides_more}
use native.Mathlib.Omega.{arith}
use Rattle.windows.proofs.slide.Goals as goal

pub loop-i-init : goal.loop-i-init
loop-i-init c = record { long = omega arith; bytes = (λ j. omega (arith, c.slice_known-1.given j)); most = omega arith; behind = refl; left = refl }

pub push-m-requires : goal.push-m-requires
push-m-requires c = let s = c.loop-i.invariant in (omega (arith, s.long), omega arith, omega arith, omega (arith, s.most))

pub loop-i-preserved : goal.loop-i-preserved
loop-i-preserved c = let s = c.loop-i.invariant in slides_more c.args.k c.args.c c.args.w.now c.args.v.now (latest_of c.args.k (kept c.args.n c.args.w.now ++ map (to_z w64) (take c.args.c c.args.v.now))) c.loop-i.i c.loop-i.m c.loop-i.w (omega arith) (omega arith) c.loop-i.invariant (omega arith) (omega arith) _ c.push-m.result c.push-m.new.w refl (omega (arith, c.shared_slice_known-in-loop-i-1.given c.loop-i.i)) (λ j. omega (arith, c.slice_known-in-loop-i-1.given j)) c.push-m.ensures.0 c.push-m.ensures.1

pub returns : goal.returns
returns c = record { slid = slides_done c.args.k c.args.c c.args.w.now c.args.v.now (latest_of c.args.k (kept c.args.n c.args.w.now ++ map (to_z w64) (take c.args.c c.args.v.now))) c.loop-i.i c.loop-i.m c.loop-i.w (omega arith) (omega arith) c.loop-i.invariant (omega arith); many = (slides_many c.args.k c.args.c c.args.w.now c.args.v.now (latest_of c.args.k (kept c.args.n c.args.w.now ++ map (to_z w64) (take c.args.c c.args.v.now))) c.loop-i.i c.loop-i.m c.loop-i.w (omega arith) (omega arith) c.loop-i.invariant (omega arith), c.loop-i.invariant.most) }
