-- From what the pass answers to the number of the text.
use Prim.Native.Nat.{ℕ, ◌+◌, ◌*◌, ◌<◌, ◌≤◌}
use mathlib.Core.Path.{◌≡◌, refl, sym, ap, ◌∙◌, subst}
use mathlib.Core.Bool.{Bool, true, false, not, cond, true≢false}
use mathlib.Core.List.{List}
use native.Mathlib.Omega.{arith}
use lib.Dec.{eqb}
use lib.ListN.{length}
use borrow.Author.Tests.{not-true, not-false, le-leb, lt-leb}
use Rattle.meaning.specs.CycleTest.{acyclic}
use Rattle.operators.specs.Limits.{most_streams, window_limit}
use Rattle.cycle.specs.Graph.{Walk, walked, cleared}
use Rattle.text.specs.declared.Fields.{Fields}
use Rattle.std.specs.Prelude.{Result, Ok, Err}
use Rattle.refusal.specs.declared.Refusal.{Refusal}
use Rattle.refusal.specs.Numbers.{number_of, code_of}
use Rattle.refusal.specs.declared.Refusal.TheVariants.{TextForm}
use Rattle.plan.specs.Rules.{all_keep, Form, refused, formed, streams, plan_from, windows_ok, number_after}
use Rattle.plan.specs.Pass.{noted_all, weights, pass_of, checked_of, Noted}
use Rattle.plan.proofs.Noted.{cleared_plan}
use Rattle.plan.proofs.Weights.{weights_rule}

abbrev kept_in : Result (Bool × ℕ) Refusal → Bool
kept_in (Err r) = false
kept_in (Ok (ok, sum)) = ok

abbrev sum_in : Result (Bool × ℕ) Refusal → ℕ
sum_in (Err r) = 0
sum_in (Ok (ok, sum)) = sum

abbrev is_formed : Result (Bool × ℕ) Refusal → Bool
is_formed (Err r) = false
is_formed (Ok (ok, sum)) = true

clash : {A : Type 0} {ok : Bool} {sum : ℕ} {r : Refusal} → ◌≡◌ {A = Result (Bool × ℕ) Refusal} (Ok (ok, sum)) (Err r) → A
clash e = absurd (true≢false (ap is_formed e))

-- the number of a text whose lines are right
abbrev ruled : ℕ → ℕ → List Fields → ℕ
ruled cap n fs = cond (all_keep n fs) (cond (windows_ok fs) (cond (acyclic cap (plan_from fs)) 0 6) 18) 5

module _ (cap : ℕ) (s : List ℕ) (n : ℕ) (g₀ : List ℕ) where
  -- a refusal of the pass is the text's
  pub refused_number : (x : Form) (r : Refusal) → Err r ≡ checked_of (length s) (pass_of n true 0 0 g₀ x) → number_of r ≡ number_after cap s n x
  unfolding number_after pass_of
  refused_number (refused q) r e = ap code_of e
  refused_number (formed fs end) r e = by (eqb end (length s)) e
    where
      by : (b : Bool) → Err r ≡ cond {A = Result (Bool × ℕ) Refusal} b (Ok (all_keep n fs, 0 + weights fs)) (Err TextForm) → number_of r ≡ cond b (ruled cap n fs) 2
      by true e = clash (sym e)
      by false e = ap code_of e

  -- otherwise the rules decide
  formed_number : {A : Type 0} (x : Form) (ok : Bool) (sum : ℕ) → ◌≡◌ {A = Result (Bool × ℕ) Refusal} (Ok (ok, sum)) (checked_of (length s) (pass_of n true 0 0 g₀ x))
      → ((fs : List Fields) (end : ℕ) → x ≡ formed fs end → ok ≡ all_keep n fs → sum ≡ weights fs → number_after cap s n x ≡ ruled cap n fs → A) → A
  unfolding number_after pass_of
  formed_number (refused q) ok sum e c = clash e
  formed_number {A} (formed fs end) ok sum e c = by (eqb end (length s)) e (λ k w z. c fs end refl k w z)
    where
      by : (b : Bool) → Ok (ok, sum) ≡ cond {A = Result (Bool × ℕ) Refusal} b (Ok (all_keep n fs, 0 + weights fs)) (Err TextForm) → (ok ≡ all_keep n fs → sum ≡ weights fs → cond b (ruled cap n fs) 2 ≡ ruled cap n fs → A) → A
      by true e c = let w = ap sum_in e in c (ap kept_in e) (omega arith) refl
      by false e c = clash e

  module _ (x : Form) (ok : Bool) (sum : ℕ) (e : ◌≡◌ {A = Result (Bool × ℕ) Refusal} (Ok (ok, sum)) (checked_of (length s) (pass_of n true 0 0 g₀ x))) where
    -- rule 5 broken
    pub broken_number : not ok ≡ true → 5 ≡ number_after cap s n x
    broken_number f = formed_number x ok sum e (λ fs end q k w z. sym (z ∙ rw (sym k ∙ not-true ok f)))

    -- rule 5 kept, rule 18 broken
    pub windows_number : not ok ≡ false → window_limit < sum → 18 ≡ number_after cap s n x
    windows_number f h = formed_number x ok sum e (λ fs end q k w z. sym (z ∙ rw (sym k ∙ not-false ok f, sym (weights_rule fs) ∙ lt-leb (weights fs) window_limit (omega arith))))

    -- both kept: rule 6 decides
    kept_number : (g : List ℕ) → Noted g (pass_of n true 0 0 g₀ x) → not ok ≡ false → sum ≤ window_limit → (b : Bool) → ((fs : List Fields) (end : ℕ) → x ≡ formed fs end → all_keep n fs ≡ true → g ≡ noted_all n 0 fs g₀ → b ≡ acyclic cap (plan_from fs)) → cond b 0 6 ≡ number_after cap s n x
    unfolding pass_of
    kept_number g t f h b c = formed_number x ok sum e (λ fs end q k w z.
        let kept = sym k ∙ not-false ok f in
        let m : g ≡ noted_all n 0 fs g₀ = subst (λ (y : Form). Noted g (pass_of n true 0 0 g₀ y)) q t in
        sym (z ∙ rw (kept, sym (weights_rule fs) ∙ le-leb (weights fs) window_limit (omega arith), c fs end q kept m)))

pub cycle_number : (cap : ℕ) (s : List ℕ) (n at : ℕ) (g₀ : List ℕ) → 3 * n ≤ length g₀ → n ≤ most_streams → (ok : Bool) (sum : ℕ) (g : List ℕ) → ◌≡◌ {A = Result (Bool × ℕ) Refusal} (Ok (ok, sum)) (checked_of (length s) (pass_of n true 0 0 g₀ (streams s at n))) → Noted g (pass_of n true 0 0 g₀ (streams s at n)) → not ok ≡ false → sum ≤ window_limit → (b : Bool) (h : List ℕ) → walked b h ≡ cleared cap n g → cond b 0 6 ≡ number_after cap s n (streams s at n)
cycle_number cap s n at g₀ l few ok sum g e t f m b h w =
    kept_number cap s n g₀ (streams s at n) ok sum e g t f m b
    (λ fs end q k z. ap (λ (x : Walk). x.is_clear) w ∙ ap (λ (x : List ℕ). (cleared cap n x).is_clear) z ∙ cleared_plan s n at fs end q k g₀ l few cap)
