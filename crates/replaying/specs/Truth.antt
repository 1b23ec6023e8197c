-- Believe: what the bytes printed of a plan text and a trace text are worth.
use Rattle.std.specs.Prelude.{ℕ, suc, ◌≡◌, List, ◌++◌, length}
use Rattle.operators.specs.Limits.{capacity}
use Rattle.plan.specs.Rules.{declared}
use Rattle.engine.specs.Load.{load_reply}
use Rattle.trace.specs.declared.Record.{Record}
use Rattle.printer.specs.Print.{refused_text}
use Rattle.replaying.specs.Session.{Told}
use Rattle.replaying.specs.Whole.{Lines, Stops}

pub data Truth (plan trace s : List ℕ) : List ℕ → Type 1 where
  -- they are the plan's refusal
  not_taken : {n : ℕ} → (load_reply plan s).number ≡ suc n → Truth plan trace s (refused_text (suc n))
  -- or the lines of a list of calls that offers the trace's records, and then the line of a bad line if there is one
  told : {rs : List Record} {rest w v : List ℕ} → (load_reply plan s).number ≡ 0 → Lines trace rs rest → Told (declared (capacity (length s)) plan) rs w → Stops rest v → Truth plan trace s (w ++ v)
