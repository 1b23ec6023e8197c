-- More room: the number of a text is the same for a state with room for more streams, unless it was 3, and so are its streams.
use Prim.Native.Nat.{ℕ, ◌≤◌}
use mathlib.Core.Path.{◌≡◌, refl, sym, ap, ◌∙◌}
use mathlib.Core.Bool.{Bool, true, false, cond, ◌&&◌}
use mathlib.Core.List.{List, [], ◌∷◌}
use native.Mathlib.Omega.{arith}
use native.Mathlib.Decide.{ℕ_discrete}
use lib.Dec.{eqb, ltb, leb}
use lib.ListN.{length, length-map}
use borrow.Author.Tests.{le-leb, leb-true}
use Rattle.meaning.specs.CycleTest.{acyclic}
use Rattle.machine.specs.State.{Declared}
use Rattle.operators.specs.Limits.{most_streams, text_limit, count_fits}
use Rattle.std.specs.Prelude.{Option, Some, None, Result, Ok, Err}
use Rattle.refusal.specs.declared.Refusal.{Refusal}
use Rattle.refusal.specs.Numbers.{number_of, code_of}
use Rattle.refusal.specs.declared.Refusal.TheVariants.{TextStreams}
use Rattle.lines.specs.Form.{skip, field}
use Rattle.text.specs.Grammar.{plan_line, streams_key, counts, head_after, head}
use Rattle.render.proofs.Heads.{head_fits}
use Rattle.plan.specs.Rules.{all_keep, Form, refused, formed, streams, declared_from, plan_from, windows_ok, number_after, number, declared}
use Rattle.plan.specs.Taken.{KeepsRules}
use Rattle.plan.proofs.Noted.{read_sound}
use Rattle.plan.proofs.Rendered.{render_taken}
use Rattle.plan.proofs.Taken.{taken_parts, parts_declared, taken_rendered}

-- the number of streams in an opening
abbrev count_in : Result (ℕ × ℕ) Refusal → ℕ
count_in (Ok (n, at)) = n
count_in (Err r) = 0

module _ (cap more : ℕ) (l : cap ≤ more) where
  pub rules_more : (ds : List Declared) → KeepsRules cap ds → KeepsRules more ds
  rules_more ds k = record { few = let h = k.few in omega arith; each = k.each; few_windows = k.few_windows; clear = k.clear }

  -- an opening that is not refused 3 is read the same
  fits_more : (n : ℕ) → count_fits cap n ≡ true → count_fits more n ≡ true
  fits_more n e = go (leb 1 n) (leb n cap) refl e
    where
      go : (a b : Bool) → leb n cap ≡ b → (a && b) ≡ true → (a && leb n more) ≡ true
      go true true h z = le-leb n more (let q = leb-true n cap h in omega arith)
      go true false h z = let q : ◌≡◌ {A = ℕ} 0 1 = cc in absurd (omega arith)
      go false b h z = z

  counts_more : (x : Option (ℕ × ℕ)) → (counts cap x ≡ Err TextStreams → ⊥) → counts more x ≡ counts cap x
  counts_more (Some (n, p)) z = go (count_fits cap n) refl z
    where
      go : (b : Bool) → count_fits cap n ≡ b → (cond {A = Result (ℕ × ℕ) Refusal} b (Ok (n, p)) (Err TextStreams) ≡ Err TextStreams → ⊥) → cond {A = Result (ℕ × ℕ) Refusal} (count_fits more n) (Ok (n, p)) (Err TextStreams) ≡ cond {A = Result (ℕ × ℕ) Refusal} b (Ok (n, p)) (Err TextStreams)
      go true e z = rw (fits_more n e)
      go false e z = absurd (z refl)
  counts_more None z = refl

  head_more : (s : List ℕ) → (head cap s ≡ Err TextStreams → ⊥) → head more s ≡ head cap s
  unfolding head
  head_more [] z = refl
  head_more (b ∷ s) z = go (skip (b ∷ s) 0 plan_line) z
    where
      go : (w : Option ℕ) → (head_after cap (b ∷ s) w ≡ Err TextStreams → ⊥) → head_after more (b ∷ s) w ≡ head_after cap (b ∷ s) w
      go (Some p) z = counts_more (field (b ∷ s) p streams_key 3) z
      go None z = refl

  module _ (m : more ≤ most_streams) (s : List ℕ) where
    -- a text that is taken is taken where there is more room, and declares the same streams
    pub taken_more : number cap s ≡ 0 → (number more s ≡ 0) × (declared more s ≡ declared cap s)
    taken_more e =
        let k = taken_rendered cap s e in
        let r = render_taken more m (declared cap s) (rules_more (declared cap s) k.1) in
        (sym (ap (number more) k.0) ∙ r.0, sym (ap (declared more) k.0) ∙ r.1)

    -- and one that is taken there is taken here, if its streams have room
    taken_less : (n at : ℕ) → head cap s ≡ Ok (n, at) → head more s ≡ Ok (n, at) → number more s ≡ 0 → number cap s ≡ 0
    taken_less n at h i e =
        let p = taken_parts more s e in
        let c : p.count ≡ n = ap count_in (sym p.opens ∙ i) in
        let few : n ≤ cap = head_fits cap s n at h in
        let r = read_sound s p.count p.start p.fields (length s) p.lists in
        let d : length (declared more s) ≡ n = ap length (parts_declared more s p) ∙ length-map p.fields declared_from ∙ r.1 ∙ c in
        let k = taken_rendered more s e in
        let x : KeepsRules cap (declared more s) = record { few = omega arith; each = k.1.each; few_windows = k.1.few_windows; clear = k.1.clear } in
        sym (ap (number cap) k.0) ∙ (render_taken cap (omega arith) (declared more s) x).0

    -- two refusals after the same opening are the same: the cycle test comes last
    refused_same : (n : ℕ) (x : Form) → (number_after cap s n x ≡ 0 → ⊥) → (number_after more s n x ≡ 0 → ⊥) → number_after more s n x ≡ number_after cap s n x
    unfolding number_after
    refused_same n (refused r) y z = refl
    refused_same n (formed fs end) y z = go (eqb end (length s)) (all_keep n fs) (windows_ok fs) (acyclic cap (plan_from fs)) (acyclic more (plan_from fs)) y z
      where
        of : (a b c d : Bool) → ℕ
        of a b c d = cond a (cond b (cond c (cond d 0 6) 18) 5) 2

        go : (a b c d e : Bool) → (of a b c d ≡ 0 → ⊥) → (of a b c e ≡ 0 → ⊥) → of a b c e ≡ of a b c d
        go true true true false false y z = refl
        go true true true true e y z = absurd (y refl)
        go true true true false true y z = absurd (z refl)
        go true true false d e y z = refl
        go true false c d e y z = refl
        go false b c d e y z = refl

    after_same : (n at : ℕ) → head cap s ≡ Ok (n, at) → head more s ≡ Ok (n, at) → ltb text_limit (length s) ≡ false → number more s ≡ number cap s
    after_same n at h i f = go (ℕ_discrete (number cap s) 0) (ℕ_discrete (number more s) 0)
      where
        cap_is : number cap s ≡ number_after cap s n (streams s at n)
        cap_is = unfold number in rw (f, h)

        more_is : number more s ≡ number_after more s n (streams s at n)
        more_is = unfold number in rw (f, i)

        go : Dec (number cap s ≡ 0) → Dec (number more s ≡ 0) → number more s ≡ number cap s
        go (yes e) d = (taken_more e).0 ∙ sym e
        go (no y) (yes e) = absurd (y (taken_less n at h i e))
        go (no y) (no z) = more_is ∙ refused_same n (streams s at n) (λ e. y (cap_is ∙ e)) (λ e. z (more_is ∙ e)) ∙ sym cap_is

    -- a refused opening
    head_refuses : (d : ℕ) (r : Refusal) → head d s ≡ Err r → ltb text_limit (length s) ≡ false → number d s ≡ number_of r
    unfolding number
    head_refuses d r h f = rw (f, h)

    too_long : ltb text_limit (length s) ≡ true → number more s ≡ number cap s
    unfolding number
    too_long f = rw f

    pub number_more : (number cap s ≡ 3 → ⊥) → number more s ≡ number cap s
    number_more z = by_length (ltb text_limit (length s)) refl
      where
        by_head : ltb text_limit (length s) ≡ false → (x : Result (ℕ × ℕ) Refusal) → head cap s ≡ x → number more s ≡ number cap s
        by_head f (Ok (n, at)) h =
            let y : head cap s ≡ Err TextStreams → ⊥ = λ e. let q : ◌≡◌ {A = ℕ} 0 3 = ap code_of (sym h ∙ e) in absurd (omega arith) in
            after_same n at h (head_more s y ∙ h) f
        by_head f (Err r) h =
            let y : head cap s ≡ Err TextStreams → ⊥ = λ e. z (head_refuses cap TextStreams e f) in
            head_refuses more r (head_more s y ∙ h) f ∙ sym (head_refuses cap r h f)

        by_length : (b : Bool) → ltb text_limit (length s) ≡ b → number more s ≡ number cap s
        by_length true f = too_long f
        by_length false f = by_head f (head cap s) refl
