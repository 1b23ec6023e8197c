-- How: one event more in a search for the latest.
use Rattle.std.specs.Prelude.{ℕ, suc, max, cond, ltb}

-- one past the latest event below t, where that of the others is z, and one more lies at stamp s
abbrev pub passed : ℕ → ℕ → ℕ → ℕ
passed t s z = cond (ltb s t) (max (suc s) z) z
