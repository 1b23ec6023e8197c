-- How: the bytes of a state in a buffer of another length: the records, zeros where there is room for more of them, the windows.
use Rattle.std.specs.Prelude.{ℕ, ◌-◌, List, ◌++◌, length, take, drop, replicate}
use Rattle.layout.specs.Windows.{area_length}

-- where the windows begin
abbrev pub records_end : List ℕ → ℕ
records_end s = length s - area_length

unfoldable pub spread : ℕ → List ℕ → List ℕ
spread size s = take (records_end s) s ++ (replicate (size - length s) 0 ++ drop (records_end s) s)
