-- A record that passes number 15's tests is the record of the cell that it gives, and the cell is sound.
use Prim.Native.Nat.{ℕ, zero, suc, ◌+◌, ◌*◌, ◌^◌, ◌<◌, ◌≤◌}
use mathlib.Core.Path.{◌≡◌, refl, sym}
use mathlib.Core.List.{List}
use mathlib.Core.Bool.{Bool, true, false, not, cond, ◌&&◌}
use Rattle.std.specs.Prelude.{None}
use native.Mathlib.Omega.{arith}
use lib.Dec.{eqb, ltb, leb, lit<, lit≤}
use lib.IntN.{pos}
use lib.ListN.{get_or, drop}
use borrow.Author.Tests.{eqb-true, ltb-true, leb-true, ne_eqb}
use mir.Syntax.{w64}
use mir.Val.{of_z, to_z}
use mir.Facts.{of_z-to_z}
use Rattle.meaning.specs.Events.{horizon}
use Rattle.machine.specs.State.{room, no_kept}
use Rattle.operators.specs.Operators.{group_of, is_in, is_last, is_delay, is_signal}
use Rattle.operators.specs.Rules.{value_ok, out_ok}
use Rattle.operators.specs.declared.Group.{Group}
use Rattle.le.specs.Bytes.{all_zero}
use Rattle.layout.specs.Record.{Raw, num, dec_raw, op_f, out_f, count_f, flag_f, prior_flag_f, small_f, k_f, bound_f, next_f, kept_f, value_f, prior_f}
use Rattle.layout.proofs.Laws.{RawOk, num_small}
use Rattle.encoding.specs.View.{flag, flag_of, bits_of, KeptNums, no_nums, last_nums, delay_nums, signal_nums}
use Rattle.encoding.specs.Back.{optional, kept_of}
use Rattle.encoding.specs.Sound.{IsValue, IsOptional, LastKept, DelayKept, SignalKept}
use Rattle.valid.specs.Valid.{plan_ok, next_ok, counts_ok, sizes_ok, risen, flag_ok, none_if, none_ok, latest_ok, last_ok, signal_ok, own_ok, delay_ok, window_ok, kept_ok, row_ok}
use Rattle.valid.proofs.Tests.{left, right}
use Rattle.valid.proofs.Link.{PlanFacts, plan_facts}
use Rattle.roundtrip.proofs.Counts.{none_is}
use Rattle.roundtrip.proofs.Tail.{bits_value}

-- ---- what the tests say

pub record RowFacts (n : ℕ) (p : List ℕ) : Type 0 where
  pub plan : PlanFacts n (dec_raw p)
  pub count : num count_f (dec_raw p) ≤ room
  pub bound : num bound_f (dec_raw p) ≤ horizon
  pub next : next_ok (num out_f (dec_raw p)) (num next_f (dec_raw p)) (num bound_f (dec_raw p)) ≡ true
  pub small : num small_f (dec_raw p) ≡ 0
  pub counts : counts_ok (dec_raw p) ≡ true
  pub stamps : risen (num bound_f (dec_raw p)) 0 (num count_f (dec_raw p)) (dec_raw p).slots ≡ true
  pub kept : kept_ok (dec_raw p) ≡ true
  pub zeros : all_zero (drop (64 + num count_f (dec_raw p) * 12) p) ≡ true

pub row_facts : (n : ℕ) (p : List ℕ) → row_ok n p ≡ true → RowFacts n p
unfolding row_ok sizes_ok
row_facts n p e =
    let r = dec_raw p in
    let z : Bool = all_zero (drop (64 + num count_f r * 12) p) in
    let k : Bool = kept_ok r in
    let s : Bool = risen (num bound_f r) 0 (num count_f r) r.slots in
    let e₁ = right (plan_ok n r) (sizes_ok r && (s && (k && z))) e in
    let e₂ = right (sizes_ok r) (s && (k && z)) e₁ in
    let e₃ = right s (k && z) e₂ in
    let f = left (sizes_ok r) (s && (k && z)) e₁ in
    let c : Bool = leb (num count_f r) room in
    let b : Bool = leb (num bound_f r) horizon in
    let x : Bool = next_ok (num out_f r) (num next_f r) (num bound_f r) in
    let y : Bool = eqb (num small_f r) 0 in
    let w : Bool = counts_ok r in
    let f₁ = right c (b && (x && (y && w))) f in
    let f₂ = right b (x && (y && w)) f₁ in
    let f₃ = right x (y && w) f₂ in
    record {
      plan = plan_facts n r (left (plan_ok n r) (sizes_ok r && (s && (k && z))) e);
      count = leb-true (num count_f r) room (left c (b && (x && (y && w))) f);
      bound = leb-true (num bound_f r) horizon (left b (x && (y && w)) f₁);
      next = left x (y && w) f₂;
      small = eqb-true (num small_f r) 0 (left y w f₃);
      counts = right y w f₃;
      stamps = left s (k && z) e₂;
      kept = left k z e₃;
      zeros = right k z e₃;
    }

-- ---- the plan part

pub k_is : (used : Bool) (u : ℕ) → u < 2 ^ 64 → value_ok used u ≡ true → of_z w64 (cond used (to_z w64 u) (pos 0)) ≡ u
k_is true u h e = of_z-to_z {w = w64} {n = u} (record { fits = h })
k_is false u h e = sym (eqb-true u 0 e)

pub k_value : (used : Bool) (u : ℕ) → u < 2 ^ 64 → IsValue (cond used (to_z w64 u) (pos 0))
k_value true u h = bits_value u h
k_value false u h = lit< tt

pub out_is : (g : Group) (out : ℕ) → out_ok g out ≡ true → flag (not (eqb out 0)) ≡ out
out_is g out e = small out (go (is_in g) e)
  where
    small : (o : ℕ) → o < 2 → flag (not (eqb o 0)) ≡ o
    small zero h = refl
    small (suc zero) h = refl
    small (suc (suc o)) h = absurd (omega arith)

    go : (b : Bool) → cond b (eqb out 0) (ltb out 2) ≡ true → out < 2
    go true e = let z = eqb-true out 0 e in omega arith
    go false e = ltb-true out 2 e

pub no_input_lem : (g : Group) (out : ℕ) → out_ok g out ≡ true → is_in g ≡ true → not (eqb out 0) ≡ false
no_input_lem g out e q =
    let z : eqb out 0 ≡ true = rw q at e in
    rw z

-- ---- what is kept

-- a flag and what it stands for
pub record FlagFacts (has x : ℕ) : Type 0 where
  pub flag : flag_of (optional has x) ≡ has
  pub bits : bits_of (optional has x) ≡ x
  pub is_optional : IsOptional (optional has x)

flag_facts : (has x : ℕ) → x < 2 ^ 64 → flag_ok has x ≡ true → FlagFacts has x
flag_facts zero x h e = record { flag = refl; bits = sym (eqb-true x 0 e); is_optional = tt }
flag_facts (suc zero) x h e = record { flag = refl; bits = of_z-to_z {w = w64} {n = x} (record { fits = h }); is_optional = bits_value x h }
flag_facts (suc (suc n)) x h e =
    let ne : suc (suc n) ≡ 0 → ⊥ = λ q. absurd (omega arith) in
    let z = eqb-true (suc (suc n)) 1 (rw (ne_eqb (suc (suc n)) 0 ne) at e) in
    absurd (omega arith)

absent : (y has x : ℕ) → none_if y has ≡ true → y ≡ 0 → optional has x ≡ None
absent y has x e z =
    let q : has ≡ 0 = none_is y has e z in
    rw q

-- what is stored of a window in its record
pub record WindowFacts (r : Raw) : Type 0 where
  pub few : num flag_f r ≤ num k_f r
  pub fresh : num bound_f r ≡ 0 → num flag_f r ≡ 0
  pub nums : ◌≡◌ {A = KeptNums} (record { flag = num flag_f r; prior_flag = 0; kept = 0; value = 0; prior = 0 }) (record { flag = num flag_f r; prior_flag = num prior_flag_f r; kept = num kept_f r; value = num value_f r; prior = num prior_f r })

module _ (r : Raw) (ok : RawOk r) where
  pub word : (j : ℕ) → 8 ≤ j → j < 15 → num j r < 2 ^ 64
  word j l h = go j l h (num_small r j ok h)
    where
      go : (j : ℕ) → 8 ≤ j → j < 15 → num j r < 256 ^ get_or Rattle.layout.specs.Record.head_widths j 0 → num j r < 2 ^ 64
      go zero l h q = absurd (omega arith)
      go (suc zero) l h q = absurd (omega arith)
      go (suc (suc zero)) l h q = absurd (omega arith)
      go (suc (suc (suc zero))) l h q = absurd (omega arith)
      go (suc (suc (suc (suc zero)))) l h q = absurd (omega arith)
      go (suc (suc (suc (suc (suc zero))))) l h q = absurd (omega arith)
      go (suc (suc (suc (suc (suc (suc zero)))))) l h q = absurd (omega arith)
      go (suc (suc (suc (suc (suc (suc (suc zero))))))) l h q = absurd (omega arith)
      go (suc (suc (suc (suc (suc (suc (suc (suc zero)))))))) l h q = q
      go (suc (suc (suc (suc (suc (suc (suc (suc (suc zero))))))))) l h q = q
      go (suc (suc (suc (suc (suc (suc (suc (suc (suc (suc zero)))))))))) l h q = q
      go (suc (suc (suc (suc (suc (suc (suc (suc (suc (suc (suc zero))))))))))) l h q = q
      go (suc (suc (suc (suc (suc (suc (suc (suc (suc (suc (suc (suc zero)))))))))))) l h q = q
      go (suc (suc (suc (suc (suc (suc (suc (suc (suc (suc (suc (suc (suc zero))))))))))))) l h q = q
      go (suc (suc (suc (suc (suc (suc (suc (suc (suc (suc (suc (suc (suc (suc zero)))))))))))))) l h q = q
      go (suc (suc (suc (suc (suc (suc (suc (suc (suc (suc (suc (suc (suc (suc (suc j))))))))))))))) l h q = absurd (omega arith)

  -- the value of an argument's latest event
  latest_facts : (f j : ℕ) → 8 ≤ j → j < 15 → latest_ok f j r ≡ true → FlagFacts (num f r) (num j r) × (num bound_f r ≡ 0 → optional (num f r) (num j r) ≡ None)
  unfolding latest_ok
  latest_facts f j l h e =
      let a : Bool = flag_ok (num f r) (num j r) in
      let b : Bool = none_if (num bound_f r) (num f r) in
      (flag_facts (num f r) (num j r) (word j l h) (left a b e), absent (num bound_f r) (num f r) (num j r) (right a b e))

  pub last_kept : last_ok r ≡ true → is_last (group_of (num op_f r)) ≡ true → LastKept (num bound_f r) (kept_of r) × (last_nums (kept_of r) ≡ record { flag = num flag_f r; prior_flag = num prior_flag_f r; kept = num kept_f r; value = num value_f r; prior = num prior_f r })
  unfolding last_ok kept_of
  last_kept e op =
      let a : Bool = latest_ok flag_f kept_f r in
      let c : Bool = eqb (num prior_flag_f r) 0 in
      let d : Bool = eqb (num value_f r) 0 in
      let f : Bool = eqb (num prior_f r) 0 in
      let e₁ = right a (c && (d && f)) e in
      let e₂ = right c (d && f) e₁ in
      let x = latest_facts flag_f kept_f (lit≤ tt) (lit< tt) (left a (c && (d && f)) e) in
      let g = x.0 in
      rw op (
        record { prev = g.is_optional; fresh = x.1; prev_b = refl; since = refl; value = refl; prior = refl },
        λ i. record { flag = g.flag i; prior_flag = sym (eqb-true (num prior_flag_f r) 0 (left c (d && f) e₁)) i; kept = g.bits i; value = sym (eqb-true (num value_f r) 0 (left d f e₂)) i; prior = sym (eqb-true (num prior_f r) 0 (right d f e₂)) i },
      )

  pub signal_kept_lem : signal_ok r ≡ true → is_last (group_of (num op_f r)) ≡ false → is_delay (group_of (num op_f r)) ≡ false → is_signal (group_of (num op_f r)) ≡ true
      → SignalKept (num bound_f r) (kept_of r) × (signal_nums (kept_of r) ≡ record { flag = num flag_f r; prior_flag = num prior_flag_f r; kept = num kept_f r; value = num value_f r; prior = num prior_f r })
  unfolding signal_ok kept_of
  signal_kept_lem e l m op =
      let a : Bool = latest_ok flag_f kept_f r in
      let b : Bool = latest_ok prior_flag_f value_f r in
      let f : Bool = eqb (num prior_f r) 0 in
      let e₁ = right a (b && f) e in
      let x = latest_facts flag_f kept_f (lit≤ tt) (lit< tt) (left a (b && f) e) in
      let y = latest_facts prior_flag_f value_f (lit≤ tt) (lit< tt) (left b f e₁) in
      let g = x.0 in
      let h = y.0 in
      rw (l, m, op) (
        record { prev = g.is_optional; prev_b = h.is_optional; fresh = x.1; fresh_b = y.1; since = refl; value = refl; prior = refl },
        λ i. record { flag = g.flag i; prior_flag = h.flag i; kept = g.bits i; value = h.bits i; prior = sym (eqb-true (num prior_f r) 0 (right b f e₁)) i },
      )

  pub delay_kept_lem : delay_ok r ≡ true → is_last (group_of (num op_f r)) ≡ false → is_delay (group_of (num op_f r)) ≡ true → DelayKept (num bound_f r) (kept_of r) × (delay_nums (kept_of r) ≡ record { flag = num flag_f r; prior_flag = num prior_flag_f r; kept = num kept_f r; value = num value_f r; prior = num prior_f r })
  unfolding delay_ok kept_of
  delay_kept_lem e l op =
      let a : Bool = flag_ok (num flag_f r) (num value_f r) in
      let b : Bool = flag_ok (num prior_flag_f r) (num prior_f r) in
      let c : Bool = none_if (num kept_f r) (num flag_f r) in
      let d : Bool = none_if (num bound_f r) (num prior_flag_f r) in
      let w : Bool = own_ok (num kept_f r) r in
      let f : Bool = w && leb (num kept_f r) (num bound_f r) in
      let e₁ = right a (b && (c && (d && f))) e in
      let e₂ = right b (c && (d && f)) e₁ in
      let e₃ = right c (d && f) e₂ in
      let g = flag_facts (num flag_f r) (num value_f r) (word value_f (lit≤ tt) (lit< tt)) (left a (b && (c && (d && f))) e) in
      let h = flag_facts (num prior_flag_f r) (num prior_f r) (word prior_f (lit≤ tt) (lit< tt)) (left b (c && (d && f)) e₁) in
      rw (l, op) (
        record {
          prev = refl;
          prev_b = refl;
          since = leb-true (num kept_f r) (num bound_f r) (right w (leb (num kept_f r) (num bound_f r)) (right d f e₃));
          value = g.is_optional;
          prior = h.is_optional;
          unset = absent (num kept_f r) (num flag_f r) (num value_f r) (left c (d && f) e₂);
          fresh = absent (num bound_f r) (num prior_flag_f r) (num prior_f r) (left d f e₃);
        },
        λ i. record { flag = g.flag i; prior_flag = h.flag i; kept = num kept_f r; value = g.bits i; prior = h.bits i },
      )

  pub own_kept : delay_ok r ≡ true → own_ok (num kept_f r) r ≡ true
  unfolding delay_ok
  own_kept e =
      let a : Bool = flag_ok (num flag_f r) (num value_f r) in
      let b : Bool = flag_ok (num prior_flag_f r) (num prior_f r) in
      let c : Bool = none_if (num kept_f r) (num flag_f r) in
      let d : Bool = none_if (num bound_f r) (num prior_flag_f r) in
      let w : Bool = own_ok (num kept_f r) r in
      let f : Bool = w && leb (num kept_f r) (num bound_f r) in
      left w (leb (num kept_f r) (num bound_f r)) (right d f (right c (d && f) (right b (c && (d && f)) (right a (b && (c && (d && f))) e))))

  -- what is kept in the record by no other than these three
  pub other_kept : is_last (group_of (num op_f r)) ≡ false → is_delay (group_of (num op_f r)) ≡ false → is_signal (group_of (num op_f r)) ≡ false → kept_of r ≡ no_kept
  unfolding kept_of
  other_kept l m n = rw (l, m, n)

  pub window_kept : window_ok r ≡ true → WindowFacts r
  unfolding window_ok
  window_kept e =
      let a : Bool = leb (num flag_f r) (num k_f r) in
      let b : Bool = none_if (num bound_f r) (num flag_f r) in
      let c : Bool = eqb (num prior_flag_f r) 0 in
      let d : Bool = eqb (num kept_f r) 0 in
      let f : Bool = eqb (num value_f r) 0 in
      let g : Bool = eqb (num prior_f r) 0 in
      let e₁ = right a (b && (c && (d && (f && g)))) e in
      let e₂ = right b (c && (d && (f && g))) e₁ in
      let e₃ = right c (d && (f && g)) e₂ in
      let e₄ = right d (f && g) e₃ in
      record {
        few = leb-true (num flag_f r) (num k_f r) (left a (b && (c && (d && (f && g)))) e);
        fresh = none_is (num bound_f r) (num flag_f r) (left b (c && (d && (f && g))) e₁);
        nums = λ i. record { flag = num flag_f r; prior_flag = sym (eqb-true (num prior_flag_f r) 0 (left c (d && (f && g)) e₂)) i; kept = sym (eqb-true (num kept_f r) 0 (left d (f && g) e₃)) i; value = sym (eqb-true (num value_f r) 0 (left f g e₄)) i; prior = sym (eqb-true (num prior_f r) 0 (right f g e₄)) i };
      }

  pub none_kept : none_ok r ≡ true → no_nums ≡ record { flag = num flag_f r; prior_flag = num prior_flag_f r; kept = num kept_f r; value = num value_f r; prior = num prior_f r }
  unfolding none_ok
  none_kept e =
      let a : Bool = eqb (num flag_f r) 0 in
      let b : Bool = eqb (num prior_flag_f r) 0 in
      let c : Bool = eqb (num kept_f r) 0 in
      let d : Bool = eqb (num value_f r) 0 in
      let f : Bool = eqb (num prior_f r) 0 in
      let e₁ = right a (b && (c && (d && f))) e in
      let e₂ = right b (c && (d && f)) e₁ in
      let e₃ = right c (d && f) e₂ in
      λ i. record { flag = sym (eqb-true (num flag_f r) 0 (left a (b && (c && (d && f))) e)) i; prior_flag = sym (eqb-true (num prior_flag_f r) 0 (left b (c && (d && f)) e₁)) i; kept = sym (eqb-true (num kept_f r) 0 (left c (d && f) e₂)) i; value = sym (eqb-true (num value_f r) 0 (left d f e₃)) i; prior = sym (eqb-true (num prior_f r) 0 (right d f e₃)) i }
