-- The first two lines, written and read.
use Prim.Native.Nat.{ℕ, zero, suc, ◌^◌, ◌<◌, ◌≤◌}
use mathlib.Core.Path.{◌≡◌, refl, sym, ap, ◌∙◌}
use mathlib.Core.Bool.{Bool, true, false, cond, true≢false}
use mathlib.Core.List.{List, [], ◌∷◌, ◌++◌}
use native.Mathlib.Omega.{arith}
use lib.Dec.{leb, lit<, lit≤}
use lib.ListN.{length, drop}
use borrow.Author.Tests.{le-leb, leb-true}
use Rattle.operators.specs.Limits.{count_fits}
use Rattle.operators.proofs.Tests.{left, right}
use Rattle.std.specs.Prelude.{Option, Some, None, Result, Ok, Err}
use Rattle.refusal.specs.declared.Refusal.{Refusal}
use Rattle.refusal.specs.declared.Refusal.TheVariants.{TextStreams}
use Rattle.lines.specs.Form.{skip, field}
use Rattle.text.specs.Grammar.{plan_line, streams_key, counts, head_after, head}
use Rattle.decimal.specs.Decimal.{decimal}
use Rattle.text.proofs.Heads.{no_bytes, some_bytes}
use Rattle.render.specs.Render.{line, opening}
use Rattle.render.proofs.Written.{on, skip_written, field_written}
use Rattle.render.proofs.Back.{skip_read, field_read}

-- a count of streams that is as it may be is read; behind no streams nothing stands
pub head_written : (cap : ℕ) (s : List ℕ) (n : ℕ) (r : List ℕ) → n ≤ cap → n < 10 ^ 3 → (n ≡ 0 → r ≡ []) → s ≡ opening n ++ r → (p : ℕ) × (head cap s ≡ Ok (n, p)) × (drop p s ≡ r) × (p ≤ length s)
head_written cap s zero r h d z e = (0, no_bytes cap s (ap length (e ∙ z refl)), e, omega arith)
head_written cap s (suc m) r h d z e =
    let n = suc m in
    let f = field_written s 7 streams_key n 3 r (lit< tt) (lit≤ tt) d (on s 0 plan_line (line streams_key (decimal n) ++ r) e) in
    let some : length s ≡ 0 → ⊥ = λ q. let w : length (plan_line ++ (line streams_key (decimal n) ++ r)) ≡ 0 = sym (ap length e) ∙ q in omega arith in
    (f.0, some_bytes cap s some ∙ rw (skip_written s plan_line 0 (line streams_key (decimal n) ++ r) e, f.1, le-leb 1 n (omega arith), le-leb n cap h), f.2, f.3)

-- ## Case by case

abbrev is_streams : Result (ℕ × ℕ) Refusal → Bool
is_streams (Ok (n, at)) = true
is_streams (Err r) = false

abbrev count_in : Result (ℕ × ℕ) Refusal → ℕ
count_in (Ok (n, at)) = n
count_in (Err r) = 0

abbrev place_in : Result (ℕ × ℕ) Refusal → ℕ
place_in (Ok (n, at)) = at
place_in (Err r) = 0

refused : {A : Type 0} {n at : ℕ} {r : Refusal} → ◌≡◌ {A = Result (ℕ × ℕ) Refusal} (Err r) (Ok (n, at)) → A
refused e = absurd (true≢false (sym (ap is_streams e)))

-- of a text of some bytes
some_case : {A : Type 0} (cap : ℕ) (s : List ℕ) (n at : ℕ) → head_after cap s (skip s 0 plan_line) ≡ Ok (n, at) → ((p : ℕ) → skip s 0 plan_line ≡ Some p → field s p streams_key 3 ≡ Some (n, at) → 1 ≤ n → n ≤ cap → A) → A
some_case {A = A} cap s n at e c = by_word (skip s 0 plan_line) refl e
  where
    by_count : (p m t : ℕ) (b : Bool) → count_fits cap m ≡ b → skip s 0 plan_line ≡ Some p → field s p streams_key 3 ≡ Some (m, t) → cond {A = Result (ℕ × ℕ) Refusal} b (Ok (m, t)) (Err TextStreams) ≡ Ok (n, at) → A
    by_count p m t false q f g e = refused e
    by_count p m t true q f g e =
        let k : m ≡ n = ap count_in e in
        let l : t ≡ at = ap place_in e in
        c p f (g ∙ rw (k, l)) (omega (arith, leb-true 1 m (left (leb 1 m) (leb m cap) q))) (omega (arith, leb-true m cap (right (leb 1 m) (leb m cap) q)))

    by_found : (p : ℕ) (x : Option (ℕ × ℕ)) → skip s 0 plan_line ≡ Some p → field s p streams_key 3 ≡ x → counts cap x ≡ Ok (n, at) → A
    by_found p (Some (m, t)) f g e = by_count p m t (count_fits cap m) refl f g e
    by_found p None f g e = refused e

    by_word : (x : Option ℕ) → skip s 0 plan_line ≡ x → head_after cap s x ≡ Ok (n, at) → A
    by_word (Some p) f e = by_found p (field s p streams_key 3) f refl e
    by_word None f e = refused e

pub head_case : {A : Type 0} (cap : ℕ) (s : List ℕ) (n at : ℕ) → head cap s ≡ Ok (n, at) → (s ≡ [] → n ≡ 0 → at ≡ 0 → A) → ((p : ℕ) → skip s 0 plan_line ≡ Some p → field s p streams_key 3 ≡ Some (n, at) → 1 ≤ n → n ≤ cap → A) → A
head_case cap [] n at e none some = let q = sym (no_bytes cap [] refl) ∙ e in none refl (sym (ap count_in q)) (sym (ap place_in q))
head_case cap (b ∷ s) n at e none some = some_case cap (b ∷ s) n at (sym (some_bytes cap (b ∷ s) (λ z. omega arith)) ∙ e) some

-- a text is announced no more streams than a plan may have
pub head_fits : (cap : ℕ) (s : List ℕ) (n at : ℕ) → head cap s ≡ Ok (n, at) → n ≤ cap
head_fits cap s n at e = head_case cap s n at e (λ z m q. omega arith) (λ p f g l h. h)

pub head_read : (cap : ℕ) (s : List ℕ) (n at : ℕ) → head cap s ≡ Ok (n, at) → s ≡ opening n ++ drop at s
head_read cap s n at e = head_case cap s n at e (λ z m q. rw (m, q)) (λ p f g l h. by n p f g l)
  where
    by : (m p : ℕ) → skip s 0 plan_line ≡ Some p → field s p streams_key 3 ≡ Some (m, at) → 1 ≤ m → s ≡ opening m ++ drop at s
    by zero p f g l = absurd (omega arith)
    by (suc m) p f g l = skip_read s plan_line 0 p f ∙ ap (λ (x : List ℕ). plan_line ++ x) (field_read s p streams_key 3 (suc m) at (lit< tt) (lit≤ tt) g)
