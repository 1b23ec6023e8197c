-- The graph that the code fills.
use Prim.Native.Nat.{ℕ, zero, suc, ◌+◌, ◌*◌}
use mathlib.Core.Path.{◌≡◌, refl, sym, ap, ◌∙◌}
use mathlib.Core.List.{List}
use native.Mathlib.Omega.{arith}
use lib.ListN.{length, get_or}
use lib.Seq.{sets, length-sets}
use Rattle.cycle.specs.Graph.{entry_of}
use Rattle.valid.specs.Valid.{noted}

pub noted_none : (s g : List ℕ) → g ≡ noted 0 s g
unfolding noted
noted_none s g = refl

noted_suc : (i : ℕ) (s g : List ℕ) → noted (suc i) s g ≡ sets (noted i s g) (3 * i) (entry_of (get_or s (i * 256) 0) (get_or s (i * 256 + 1) 0) (get_or s (i * 256 + 2) 0))
unfolding noted
noted_suc i s g = refl

pub noted_turn : (i : ℕ) (s g₀ g g₁ : List ℕ) → g ≡ noted i s g₀
    → g₁ ≡ sets g (3 * i) (entry_of (get_or s (i * 256) 0) (get_or s (i * 256 + 1) 0) (get_or s (i * 256 + 2) 0)) → g₁ ≡ noted (i + 1) s g₀
noted_turn i s g₀ g g₁ inv e =
    let f : i + 1 ≡ suc i = omega arith in
    e ∙ ap (λ (l : List ℕ). sets l (3 * i) (entry_of (get_or s (i * 256) 0) (get_or s (i * 256 + 1) 0) (get_or s (i * 256 + 2) 0))) inv
    ∙ sym (ap (λ (j : ℕ). noted j s g₀) f ∙ noted_suc i s g₀)

pub noted_done : (i n : ℕ) (s g₀ g : List ℕ) → i ≡ n → g ≡ noted i s g₀ → g ≡ noted n s g₀
noted_done i n s g₀ g e inv = inv ∙ ap (λ (j : ℕ). noted j s g₀) e

pub noted_length : (n : ℕ) (s g : List ℕ) → length (noted n s g) ≡ length g
unfolding noted
noted_length zero s g = refl
noted_length (suc n) s g = length-sets (noted n s g) (3 * n) (entry_of (get_or s (n * 256) 0) (get_or s (n * 256 + 1) 0) (get_or s (n * 256 + 2) 0)) ∙ noted_length n s g
