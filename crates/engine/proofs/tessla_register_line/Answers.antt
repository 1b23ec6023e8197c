-- `engine::tessla_register_line` meets its contract.
use mathlib.Core.Path.{◌≡◌, refl, sym, ◌∙◌}
use mathlib.Core.Bool.{Bool, true, false, cond}
use mir.Val.{bool_byte}
use Rattle.block.proofs.Flags.{line_refused}
use Rattle.refusal.proofs.Laws.{some_number}
use Rattle.engine.proofs.tessla_register_line.Goals as goal

byte_of : (b : Bool) → bool_byte b ≡ cond b 1 0
byte_of true = refl
byte_of false = refl

pub returns-in-Ok : goal.returns-in-Ok
returns-in-Ok c = let h = c.in-Ok.ensures in record { number = h.number; up = byte_of c.in-Ok.raised ∙ h.up }

pub returns-in-Err : goal.returns-in-Err
returns-in-Err c = let k = c.in-Err.ensures.number in record { number = c.number.ensures.0 ∙ k; up = sym (line_refused c.args.block.now (λ q. some_number c.in-Err.reason (k ∙ q))) }
