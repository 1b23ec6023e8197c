-- A line read in a window of a trace is the line of the trace: what stands further on than 64 bytes plays no part.
use Prim.Native.Nat.{ℕ, zero, suc, ◌+◌, ◌*◌, ◌-◌, ◌^◌, ◌<◌, ◌≤◌}
use mathlib.Core.Path.{◌≡◌, sym, ap, ◌∙◌}
use mathlib.Core.Bool.{Bool, true, false, cond}
use mathlib.Core.List.{List, [], ◌∷◌}
use native.Mathlib.Omega.{arith}
use native.Mathlib.Nat.{add-zero}
use lib.Dec.{ltb, leb, eqb}
use lib.ListN.{length, get_or}
use borrow.Author.Tests.{eq-eqb, ne_eqb}
use native.Mathlib.Decide.{ℕ_discrete}
use mir.Syntax.{w64}
use mir.Val.{to_z}
use Rattle.meaning.specs.Events.{horizon}
use Rattle.std.specs.Prelude.{Option, Some, None}
use Rattle.lines.specs.declared.Scanned.{Scanned}
use Rattle.lines.specs.Form.{ending, stands, skip, digit, scanned, scan, counted, or_zero, whole, positive, negative, signed_after, signed}
use Rattle.trace.specs.declared.Record.TheVariants.{Reading, Progress}
use Rattle.trace.specs.declared.Record.{Record}
use Rattle.trace.specs.Trace.{input_key, stamp_key, value_key, bound_key, word, number, value_after, stamp_after, bound_after, either_key, input_after, line}
use Rattle.chunks.specs.Window.{Same, Alike, read, bad}

module _ (s : List ℕ) (a : ℕ) (t : List ℕ) (b : ℕ) (n : ℕ) (same : Same s a t b n) where
  -- ## Words

  -- m bytes on at most
  data Words (m : ℕ) : Option ℕ → Option ℕ → Type 0 where
    past : (k : ℕ) → k ≤ m → Words m (Some (a + k)) (Some (b + k))
    absent : Words m None None

  skip_alike : (w : List ℕ) (k : ℕ) → k + length w ≤ n → Words (k + length w) (skip s (a + k) w) (skip t (b + k) w)
  unfolding skip
  skip_alike [] k h = past k (omega arith)
  skip_alike (c ∷ w) k h =
      let q = same k (omega arith) in
      let e : a + k + 1 ≡ a + (k + 1) = omega arith in
      let f : b + k + 1 ≡ b + (k + 1) = omega arith in
      let m : k + suc (length w) ≡ k + 1 + length w = omega arith in
      rw (q.0, q.1, e, f, m) (go (stands t (b + k) c) (skip_alike w (k + 1) (omega arith)))
    where
      go : (p : Bool) → Words (k + 1 + length w) (skip s (a + (k + 1)) w) (skip t (b + (k + 1)) w) → Words (k + 1 + length w) (cond p (skip s (a + (k + 1)) w) None) (cond p (skip t (b + (k + 1)) w) None)
      go true x = x
      go false x = absent

  -- ## Numbers

  data Numbers (m : ℕ) : Option (ℕ × ℕ) → Option (ℕ × ℕ) → Type 0 where
    numbers : (v k : ℕ) → k ≤ m → Numbers m (Some (v, a + k)) (Some (v, b + k))
    fault : Numbers m None None

  data Scans (m : ℕ) : Scanned → Scanned → Type 0 where
    scans : (v k : ℕ) → k ≤ m → Scans m (scanned v (a + k)) (scanned v (b + k))

  scan_alike : (d k v : ℕ) → k + d ≤ n → Scans (k + d) (scan s (a + k) v d) (scan t (b + k) v d)
  unfolding scan
  scan_alike zero k v h = scans v k (omega arith)
  scan_alike (suc d) k v h =
      let q = same k (omega arith) in
      let e : a + k + 1 ≡ a + (k + 1) = omega arith in
      let f : b + k + 1 ≡ b + (k + 1) = omega arith in
      let m : k + suc d ≡ k + 1 + d = omega arith in
      rw (q.1, e, f, m) (go (get_or t (b + k) 0) (digit (get_or t (b + k) 0)) (λ u. scan_alike d (k + 1) u (omega arith)))
    where
      go : (c : ℕ) (p : Bool) → ((u : ℕ) → Scans (k + 1 + d) (scan s (a + (k + 1)) u d) (scan t (b + (k + 1)) u d))
          → Scans (k + 1 + d) (cond p (scan s (a + (k + 1)) (v * 10 + (c - 48)) d) (scanned v (a + k))) (cond p (scan t (b + (k + 1)) (v * 10 + (c - 48)) d) (scanned v (b + k)))
      go c true x = x (v * 10 + (c - 48))
      go c false x = scans v k (omega arith)

  eqb_moved : (x j k : ℕ) → eqb (x + j) (x + k) ≡ eqb j k
  eqb_moved x j k = go (ℕ_discrete j k)
    where
      go : Dec (j ≡ k) → eqb (x + j) (x + k) ≡ eqb j k
      go (yes e) = eq-eqb (x + j) (x + k) (ap (λ i. x + i) e) ∙ sym (eq-eqb j k e)
      go (no e) = ne_eqb (x + j) (x + k) (λ q. e (omega arith)) ∙ sym (ne_eqb j k e)

  counted_alike : (m k : ℕ) {x y : Scanned} → Scans m x y → Numbers m (counted (a + k) x) (counted (b + k) y)
  counted_alike m k (scans v j h) = rw (eqb_moved a j k, eqb_moved b j k) (go (eqb j k))
    where
      go : (p : Bool) → Numbers m (cond {A = Option (ℕ × ℕ)} p None (Some (v, a + j))) (cond {A = Option (ℕ × ℕ)} p None (Some (v, b + j)))
      go true = fault
      go false = numbers v j h

  whole_alike : (k max : ℕ) → 0 < max → k + max ≤ n → Numbers (k + max) (whole s (a + k) max) (whole t (b + k) max)
  unfolding whole
  whole_alike k max z h = go (skip_alike (48 ∷ []) k (omega arith)) (counted_alike (k + max) k (scan_alike max k 0 h))
    where
      go : {x y : Option ℕ} → Words (k + 1) x y → {u v : Option (ℕ × ℕ)} → Numbers (k + max) u v → Numbers (k + max) (or_zero x u) (or_zero y v)
      go (past j l) q = numbers 0 j (omega arith)
      go absent q = q

  positive_alike : (m : ℕ) {x y : Option (ℕ × ℕ)} → Numbers m x y → Numbers m (positive x) (positive y)
  positive_alike m (numbers v k h) = go (ltb v (2 ^ 63))
    where
      go : (p : Bool) → Numbers m (cond {A = Option (ℕ × ℕ)} p (Some (v, a + k)) None) (cond {A = Option (ℕ × ℕ)} p (Some (v, b + k)) None)
      go true = numbers v k h
      go false = fault
  positive_alike m fault = fault

  negative_alike : (m : ℕ) {x y : Option (ℕ × ℕ)} → Numbers m x y → Numbers m (negative x) (negative y)
  negative_alike m (numbers v k h) = go (eqb v 0) (leb v (2 ^ 63))
    where
      go : (p q : Bool) → Numbers m (cond {A = Option (ℕ × ℕ)} p None (cond q (Some (2 ^ 64 - v, a + k)) None)) (cond {A = Option (ℕ × ℕ)} p None (cond q (Some (2 ^ 64 - v, b + k)) None))
      go true q = fault
      go false true = numbers (2 ^ 64 - v) k h
      go false false = fault
  negative_alike m fault = fault

  wider : {m l : ℕ} {x y : Option (ℕ × ℕ)} → Numbers m x y → m ≤ l → Numbers l x y
  wider (numbers v k h) q = numbers v k (omega arith)
  wider fault q = fault

  signed_alike : (k : ℕ) → k + 20 ≤ n → Numbers (k + 20) (signed s (a + k)) (signed t (b + k))
  unfolding signed
  signed_alike k h = go (skip_alike (45 ∷ []) k (omega arith))
    where
      go : {x y : Option ℕ} → Words (k + 1) x y → Numbers (k + 20) (signed_after s (a + k) x) (signed_after t (b + k) y)
      go (past j l) = wider (negative_alike (j + 19) (whole_alike j 19 (omega arith) (omega arith))) (omega arith)
      go absent = wider (positive_alike (k + 19) (whole_alike k 19 (omega arith) (omega arith))) (omega arith)

  -- ## Lines

  words : {m : ℕ} {x y : Option ℕ} → Words m x y → (f g : ℕ → Option (Record × ℕ)) → ((k : ℕ) → k ≤ m → Alike a b (f (a + k)) (g (b + k))) → Alike a b (word x f) (word y g)
  words (past k h) f g q = q k h
  words absent f g q = bad

  found : {m : ℕ} {x y : Option (ℕ × ℕ)} → Numbers m x y → (f g : ℕ → ℕ → Option (Record × ℕ)) → ((v k : ℕ) → k ≤ m → Alike a b (f v (a + k)) (g v (b + k))) → Alike a b (number x f) (number y g)
  found (numbers v k h) f g q = q v k h
  found fault f g q = bad

  value_alike : (i st k : ℕ) → k + 24 ≤ n → Alike a b (value_after s i st (a + k)) (value_after t i st (b + k))
  unfolding value_after
  value_alike i st k h =
      words (skip_alike value_key k (omega arith)) _ _ (λ p l.
      found (signed_alike p (omega arith)) _ _ (λ v q l₂.
      words (skip_alike ending q (omega arith)) _ _ (λ next l₃. read (Reading i st (to_z w64 v)) next)))

  stamp_alike : (i k : ℕ) → k + 34 ≤ n → Alike a b (stamp_after s i (a + k)) (stamp_after t i (b + k))
  unfolding stamp_after
  stamp_alike i k h = found (whole_alike k 10 (omega arith) (omega arith)) _ _ (λ st p l. go st p l (ltb st horizon))
    where
      go : (st p : ℕ) → p ≤ k + 10 → (q : Bool) → Alike a b (cond q (value_after s i st (a + p)) None) (cond q (value_after t i st (b + p)) None)
      go st p l true = value_alike i st p (omega arith)
      go st p l false = bad

  bound_alike : (i k : ℕ) → k + 34 ≤ n → Alike a b (bound_after s i (a + k)) (bound_after t i (b + k))
  unfolding bound_after
  bound_alike i k h =
      found (whole_alike k 10 (omega arith) (omega arith)) _ _ (λ y p l.
      words (skip_alike ending p (omega arith)) _ _ (λ next l₂. read (Progress i y) next))

  input_alike : (i k : ℕ) → k + 37 ≤ n → Alike a b (input_after s i (a + k)) (input_after t i (b + k))
  unfolding input_after
  input_alike i k h = go (skip_alike stamp_key k (omega arith))
    where
      go : {x y : Option ℕ} → Words (k + 3) x y → Alike a b (either_key s i (a + k) x) (either_key t i (b + k) y)
      go (past j l) = stamp_alike i j (omega arith)
      go absent = words (skip_alike bound_key k (omega arith)) _ _ (λ p l. bound_alike i p (omega arith))

  pub line_alike : 42 ≤ n → Alike a b (line s a) (line t b)
  line_alike h = rw (add-zero a, add-zero b) at (from 0 (omega arith))
    where
      from : (k : ℕ) → k + 42 ≤ n → Alike a b (line s (a + k)) (line t (b + k))
      from k l = unfold line in
          words (skip_alike input_key k (omega arith)) _ _ (λ p l₁.
          found (whole_alike p 3 (omega arith) (omega arith)) _ _ (λ i q l₂. input_alike i q (omega arith)))
