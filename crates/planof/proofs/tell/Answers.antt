-- `planof::tell` meets its contract.
use mathlib.Core.Path.{sym}
use lib.Seq.{length-take-le}
use Rattle.writing.proofs.Cases.{text_within}
use Rattle.planof.proofs.tell.Goals as goal

pub slice_bounds-text-end : goal.slice_bounds-text-end
slice_bounds-text-end g c = text_within _ _ _ _ c.tessla_plan_text-number.ensures.length c.tessla_plan_text-number.ensures.buffer

pub slice_bounds-write_all-end : goal.slice_bounds-write_all-end
slice_bounds-write_all-end g c = sym (length-take-le c.tessla_plan_text-number.new.length c.tessla_plan_text-number.new.text (text_within _ _ _ _ c.tessla_plan_text-number.ensures.length c.tessla_plan_text-number.ensures.buffer))
