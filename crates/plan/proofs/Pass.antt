-- The pass over all streams: one stream after the other, and what the whole leaves.
use Prim.Native.Nat.{ℕ, zero, suc, ◌+◌, ◌*◌, ◌-◌, ◌<◌, ◌≤◌}
use mathlib.Core.Path.{◌≡◌, refl, sym, ap}
use mathlib.Core.Bool.{Bool, true, false, ◌&&◌, and_assoc, and-true, true≢false}
use mathlib.Core.List.{List, [], ◌∷◌}
use native.Mathlib.Omega.{arith}
use lib.Seq.{sets}
use borrow.Author.Tests.{eq-eqb, ne_eqb}
use Rattle.operators.specs.Limits.{window_limit}
use Rattle.cycle.specs.Graph.{entry_of}
use Rattle.text.specs.declared.Fields.{Fields}
use Rattle.std.specs.Prelude.{Result, Ok, Err}
use Rattle.refusal.specs.declared.Refusal.{Refusal}
use Rattle.refusal.specs.declared.Refusal.TheVariants.{TextForm}
use Rattle.text.specs.Grammar.{stream}
use Rattle.plan.specs.Rules.{keeps, all_keep, Form, refused, formed, put, others, streams}
use Rattle.plan.specs.Pass.{noted_all, noted_stream, noted_lines, weight_of, weights, turn, Pass, halted, through, pass_of, checked_of, Noted}
use Rattle.plan.proofs.Weights.{weight_most}

-- ## One stream

pub noted_kept : (n i : ℕ) (f : Fields) (g : List ℕ) → keeps n f ≡ true → sets g (3 * i) (entry_of f.op f.a f.b) ≡ noted_stream n i f g
unfolding noted_stream
noted_kept n i f g e = sym (rw e)

pub noted_broken : (n i : ℕ) (f : Fields) (g : List ℕ) → keeps n f ≡ false → g ≡ noted_stream n i f g
unfolding noted_stream
noted_broken n i f g e = sym (rw e)

abbrev kept_of : Result (Bool × ℕ × ℕ) Refusal → Bool
kept_of (Ok (kept, w, q)) = kept
kept_of (Err r) = false

abbrev weight_in : Result (Bool × ℕ × ℕ) Refusal → ℕ
weight_in (Ok (kept, w, q)) = w
weight_in (Err r) = 0

abbrev next_of : Result (Bool × ℕ × ℕ) Refusal → ℕ
next_of (Ok (kept, w, q)) = q
next_of (Err r) = 0

abbrev refusal : Result (Bool × ℕ × ℕ) Refusal → Refusal
refusal (Ok (kept, w, q)) = TextForm
refusal (Err r) = r

abbrev is_next : Result (Bool × ℕ × ℕ) Refusal → Bool
is_next (Ok (kept, w, q)) = true
is_next (Err r) = false

clash : {kept : Bool} {w q : ℕ} {r : Refusal} → ◌≡◌ {A = Result (Bool × ℕ × ℕ) Refusal} (Ok (kept, w, q)) (Err r) → ⊥
clash e = true≢false (ap is_next e)

-- what one stream weighs
pub turn_weight : (n : ℕ) (l : Result Fields Refusal) (kept : Bool) (w q : ℕ) → turn n l ≡ Ok (kept, w, q) → w ≤ suc window_limit
unfolding turn
turn_weight n (Ok f) kept w q e = let h = weight_most f in let v : w ≡ weight_of f = sym (ap weight_in e) in omega arith
turn_weight n (Err r) kept w q e = absurd (clash (sym e))

passed_none : (n : ℕ) (ok : Bool) (sum i : ℕ) (g : List ℕ) (p : ℕ) → pass_of n ok sum i g (formed [] p) ≡ through ok sum g p
unfolding pass_of all_keep weights noted_all
passed_none n ok sum i g p =
    let z : sum + 0 ≡ sum = omega arith in
    rw (and-true ok, z)

pub turn_streams : (s : List ℕ) (m p : ℕ) → 0 < m → streams s p m ≡ others (stream s p) (λ f. streams s f.next (m - 1))
unfolding streams
turn_streams s zero p h = absurd (omega arith)
turn_streams s (suc m) p h =
    let e : suc m - 1 ≡ m = omega arith in
    rw e

no_streams : (s : List ℕ) (m p : ℕ) → m ≡ 0 → streams s p m ≡ formed [] p
unfolding streams
no_streams s zero p e = refl
no_streams s (suc m) p e = absurd (omega arith)

module _ (s : List ℕ) (n : ℕ) where
  put_pass : (ok : Bool) (sum i : ℕ) (g : List ℕ) (f : Fields) (r : Form) → pass_of n (ok && keeps n f) (sum + weight_of f) (i + 1) (noted_stream n i f g) r ≡ pass_of n ok sum i g (put f r)
  unfolding pass_of all_keep weights noted_all
  put_pass ok sum i g f (refused r) = refl
  put_pass ok sum i g f (formed fs end) =
      let z : sum + weight_of f + weights fs ≡ sum + (weight_of f + weights fs) = omega arith in
      rw (and_assoc ok (keeps n f) (all_keep n fs), z)

  module _ (ok : Bool) (sum i : ℕ) (g : List ℕ) (p : ℕ) where
    halt : (l : Result Fields Refusal) (rest : Fields → Form) (r : Refusal) → turn n l ≡ Err r → pass_of n ok sum i g (others l rest) ≡ halted r
    unfolding turn pass_of
    halt (Ok f) rest r e = absurd (clash e)
    halt (Err q) rest r e = ap halted (ap refusal e)

    go : (l : Result Fields Refusal) (m : ℕ) (kept : Bool) (w q : ℕ) → turn n l ≡ Ok (kept, w, q) → pass_of n (ok && kept) (sum + w) (i + 1) (noted_lines n i l g) (streams s q m) ≡ pass_of n ok sum i g (others l (λ f. streams s f.next m))
    unfolding turn
    go (Ok f) m kept w q e =
        let k : kept ≡ keeps n f = sym (ap kept_of e) in
        let v : w ≡ weight_of f = sym (ap weight_in e) in
        let t : q ≡ f.next = sym (ap next_of e) in
        rw (k, v, t) (put_pass ok sum i g f (streams s f.next m))
    go (Err r) m kept w q e = absurd (clash (sym e))

    pub pass_halt : i < n → (r : Refusal) → turn n (stream s p) ≡ Err r → pass_of n ok sum i g (streams s p (n - i)) ≡ halted r
    pass_halt h r e = rw (turn_streams s (n - i) p (omega arith)) (halt (stream s p) (λ f. streams s f.next (n - i - 1)) r e)

    pub pass_go : i < n → (kept : Bool) (w q : ℕ) (g₁ : List ℕ) → turn n (stream s p) ≡ Ok (kept, w, q) → g₁ ≡ noted_lines n i (stream s p) g → pass_of n (ok && kept) (sum + w) (i + 1) g₁ (streams s q (n - (i + 1))) ≡ pass_of n ok sum i g (streams s p (n - i))
    pass_go h kept w q g₁ e l =
        let m : n - (i + 1) ≡ n - i - 1 = omega arith in
        rw (m, l, turn_streams s (n - i) p (omega arith)) (go (stream s p) (n - i - 1) kept w q e)

    pub pass_end : n ≤ i → pass_of n ok sum i g (streams s p (n - i)) ≡ through ok sum g p
    pass_end h = rw (no_streams s (n - i) p (omega arith)) (passed_none n ok sum i g p)

-- ## What the code answers

pub answer_halted : (size : ℕ) (g : List ℕ) (x : Pass) (r : Refusal) → x ≡ halted r → (Err r ≡ checked_of size x) × Noted g x
answer_halted size g x r e = rw e (refl, tt)

module _ (size : ℕ) (g : List ℕ) (x : Pass) (ok : Bool) (sum p : ℕ) (e : x ≡ through ok sum g p) where
  pub answer_formed : p ≡ size → (Ok (ok, sum) ≡ checked_of size x) × Noted g x
  answer_formed h = rw (e, eq-eqb p size h) (refl, refl)

  pub answer_left_over : (p ≡ size → ⊥) → (Err TextForm ≡ checked_of size x) × Noted g x
  answer_left_over h = rw (e, ne_eqb p size h) (refl, refl)

-- one stream more before those that were read
pub put_streams : (s : List ℕ) (at n : ℕ) (f : Fields) → stream s at ≡ Ok f → (fs : List Fields) (end : ℕ) → streams s f.next n ≡ formed fs end → streams s at (suc n) ≡ formed (f ∷ fs) end
unfolding streams
put_streams s at n f e fs end g = rw (e, g)
