-- Tests one after the other: a test that fails decides, one that passes leaves the rest to decide.
use mathlib.Core.Path.{◌≡◌, refl, sym, ◌∙◌}
use mathlib.Core.Bool.{Bool, true, false, not, ◌&&◌, true≢false}
use borrow.Author.Tests.{not-true, not-false}

pub left : (x y : Bool) → (x && y) ≡ true → x ≡ true
left true y e = refl
left false y e = e

pub right : (x y : Bool) → (x && y) ≡ true → y ≡ true
right true y e = e
right false y e = absurd (true≢false (sym e))

-- a test p that the code has as b
pub stop : (p b x : Bool) → b ≡ p → not b ≡ true → false ≡ (p && x)
stop p b x e n =
    let f : p ≡ false = sym e ∙ not-true b n in
    rw f

pub pass : (p b x y : Bool) → b ≡ p → not b ≡ false → y ≡ x → y ≡ (p && x)
pass p b x y e n q =
    let f : p ≡ true = sym e ∙ not-false b n in
    rw f q
