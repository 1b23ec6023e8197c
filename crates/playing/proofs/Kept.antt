-- What is left in the buffer is kept: moved to its start, and reading on behind it changes none of it.
use Prim.Native.Nat.{ℕ, ◌+◌, ◌≤◌}
use mathlib.Core.Path.{◌≡◌, ap, ◌∙◌}
use mathlib.Core.List.{List, ◌++◌}
use native.Mathlib.Omega.{arith}
use lib.ListN.{length, take, drop, length-drop}
use lib.Seq.{sets, length-sets, sets-eq, take_at, length-take-le}
use borrow.Rule.Slice.PartMut.{put_mid, post_of}

module _ (old moved more : List ℕ) (from left k : ℕ) (fits : from + left ≤ length old) (by-shift : moved ≡ sets old 0 (take left (drop (0 + from) old))) where
  is : moved ≡ sets old 0 (take left (drop from old))
  is = let e : 0 + from ≡ from = omega arith in rw e at by-shift

  part_length : length (take left (drop from old)) ≡ left
  part_length = length-take-le left (drop from old) (rw (length-drop from old) (omega arith))

  moved_length : length moved ≡ length old
  moved_length = ap length is ∙ length-sets old 0 (take left (drop from old))

  start : take left moved ≡ take left (drop from old)
  start =
      ap (take left) (is ∙ sets-eq (take left (drop from old)) old 0 (omega (arith, part_length)))
      ∙ take_at (take left (drop from old)) (drop (0 + length (take left (drop from old))) old) left part_length

  pub kept : take left (put_mid left k moved more) ≡ take left (drop from old)
  kept = take_at (take left moved) (more ++ post_of left k moved) left (length-take-le left moved (omega (arith, moved_length))) ∙ start
