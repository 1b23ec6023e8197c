-- An outcome is done if its number is 0: a refusal's is not.
use mathlib.Core.Path.{◌≡◌, refl}
use mathlib.Core.Bool.{true, false, true≢false}
use Rattle.std.specs.Prelude.{Result, Ok, Err, is_ok}
use native.Mathlib.Omega.{arith}
use Rattle.refusal.specs.declared.Refusal.{Refusal}
use Rattle.refusal.proofs.Laws.{some_number}
use Rattle.refusal.specs.Numbers.{number_of, code_of}

pub done_code : {A : Type 0} (r : Result A Refusal) → is_ok r ≡ true → code_of r ≡ 0
done_code (Ok x) e = refl
done_code (Err k) e = cc

pub refused_code : {A : Type 0} (r : Result A Refusal) → is_ok r ≡ false → code_of r ≡ 0 → ⊥
refused_code (Ok x) e z = true≢false e
refused_code (Err k) e z = some_number k z
