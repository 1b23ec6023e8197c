-- Believe: what a replay prints whose plan text has no bytes: that of a card without a plan, or of a file that can't be opened.
use Rattle.std.specs.Prelude.{List, [], ◌∷◌, ◌++◌, ℕ}
use Rattle.trace.specs.declared.Record.{Record}
use Rattle.printer.specs.Print.{refused_text}

-- "Offers then give 7": a line `refused=7` for each record of the trace, and nothing before, between or after
unfoldable pub sevens : List Record → List ℕ
sevens [] = []
sevens (r ∷ rs) = refused_text 7 ++ sevens rs
