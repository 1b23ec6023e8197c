-- A signal form means its spelled-out form, whatever the operation: the same solutions, and the cycle rule holds of the one
-- exactly if of the other.
-- At a stamp where a or b has an event, the merges have the latest values of a and of b, that stamp's included, and elsewhere
-- nothing (`signal_row_lem`). So the rows of the two plans agree, stream by stream. For the cycle rule ways are counted: one of d
-- steps in the plan has at most three times as many in the spelled-out one, where a step to a or to b goes by a merge.
use mathlib.Core.Path.{◌≡◌, refl, sym, ◌∙◌, ap, ap₂}
use Rattle.std.specs.Prelude.{Option, None, Some}
use mathlib.Core.List.{List, [], ◌∷◌}
use Prim.Native.Nat.{ℕ, zero, suc, ◌+◌, ◌-◌, ◌≤◌, ◌<◌, min}
use native.Mathlib.Nat.{lt-suc_self}
use native.Mathlib.Omega.{arith}
use native.Mathlib.Decide.{dec_lt}
use lib.Dec.{T, ltb, eqb, eqb→eq, eqb_refl, lt→ltb, ltb→lt, not_T, T_not}
use lib.ListN.{length, get_or, set, length-set, get_or-append, get_or-eq_default}
use lib.Seq.{get_or-set_same, get_or-set_other, get_or-append-add}
use lib.IntN.{ℤ}
use Rattle.meaning.specs.Plan.{Calc, calc, Eqn, input, nil, unit, one, two, last, delay, signal, window, Plan, eqn_at}
use Rattle.meaning.specs.Arguments.{reads, undelayed, Each, AllBelow}
use Rattle.meaning.specs.Events.{Stream, Streams, or_else}
use Rattle.meaning.specs.Table.{two_at, latest, last_at, signal_at, delay_at, at, Solves}
use Rattle.meaning.specs.Missing.{two_says, signal_says, says, Reason, said_for, count_limit, count_below}
use Rattle.meaning.specs.Cycle.{Leads, Acyclic}
use Rattle.meaning.specs.Spelled.{four, operation, spelled, merged, extra, appended, first_only, MeansSpelled}
use Rattle.meaning.proofs.Tests.{Is, yes!, no!, look, true_is, false_is}
use Rattle.meaning.proofs.Each.{each_map, each_of, each_at, each_all}
use Rattle.meaning.proofs.Causal.{SameBelow, latest_cong, events_cong, fires_cong, at_cong}
use Rattle.meaning.proofs.Missing.{tally_cong}
use Rattle.meaning.proofs.Within.{undelayed_read}
use Rattle.meaning.proofs.Clear.{clear, clear_args, args_clear, clear_suc, clear_beyond, clear_acyclic}
use Rattle.meaning.proofs.Ways.{acyclic_clear}

-- ---- the row, for every operation, any two streams and any stamp
pub signal_row_lem : (c : Calc) (f g : Stream) (t : ℕ) → signal_at c (f t) (g t) (latest f (suc t)) (latest g (suc t)) ≡ two_at (calc c) (merged f g t) (merged g f t)
unfolding latest signal_at last_at two_at
signal_row_lem c f g t = go (f t) (g t) (latest f t) (latest g t)
  where
    go : (u w x y : Option ℤ) → signal_at c u w (or_else u x) (or_else w y) ≡ two_at (calc c) (or_else u (last_at w x)) (or_else w (last_at u y))
    go None None x y = refl
    go None (Some w) x y = refl
    go (Some u) None x y = refl
    go (Some u) (Some w) x y = refl

-- where an event is missing the reason is the same
pub signal_said : (c : Calc) (f g : Stream) (t : ℕ) → signal_says c (f t) (g t) (latest f (suc t)) (latest g (suc t)) ≡ two_says (calc c) (merged f g t) (merged g f t)
unfolding latest signal_says two_says last_at two_at
signal_said c f g t = go (f t) (g t) (latest f t) (latest g t)
  where
    go : (u w x y : Option ℤ) → signal_says c u w (or_else u x) (or_else w y) ≡ two_says (calc c) (or_else u (last_at w x)) (or_else w (last_at u y))
    go None None x y = refl
    go None (Some w) x y = refl
    go (Some u) None x y = refl
    go (Some u) (Some w) x y = refl

-- ---- an equation reads its arguments, and itself, up to t
pub at_reads : (e : Eqn) (rd S S' : Streams) (s t : ℕ) → Each (λ i. SameBelow (suc t) (S i) (S' i)) (reads e) → SameBelow t (S s) (S' s) → at e rd S s t ≡ at e rd S' s t
unfolding at
at_reads input rd S S' s t h o = refl
at_reads nil rd S S' s t h o = refl
at_reads unit rd S S' s t h o = refl
at_reads (one f a) rd S S' s t h o = rw (h.0 t (lt-suc_self t))
at_reads (two g a b) rd S S' s t h o = rw (h.0 t (lt-suc_self t), h.1.0 t (lt-suc_self t))
at_reads (last a b) rd S S' s t h o = rw (h.1.0 t (lt-suc_self t), latest_cong (S a) (S' a) t (λ p l. h.0 p (omega arith)))
at_reads (delay a b) rd S S' s t h o =
    ap delay_at (fires_cong (S a) (S b) (S s) (S' a) (S' b) (S' s) t (λ p l. h.0 p (omega arith)) (λ p l. h.1.0 p (omega arith)) o)
at_reads (signal c a b) rd S S' s t h o =
    rw (h.0 t (lt-suc_self t), h.1.0 t (lt-suc_self t), latest_cong (S a) (S' a) t (λ p l. h.0 p (omega arith)), latest_cong (S b) (S' b) t (λ p l. h.1.0 p (omega arith)))
at_reads (window f k a) rd S S' s t h o = rw (h.0 t (lt-suc_self t), events_cong (S a) (S' a) t (λ p l. h.0 p (omega arith)))

-- ---- S with four streams appended
module _ (n a b : ℕ) (S : Streams) where
  pub app_old : (i : ℕ) → i < n → appended n a b S i ≡ S i
  app_old i l = rw (true_is (ltb i n) (lt→ltb i n l))

  pub app_new : (k : ℕ) → appended n a b S (n + k) ≡ extra (S a) (S b) k
  app_new k =
      let e : n + k - n ≡ k = omega arith in
      rw (false_is (ltb (n + k) n) (not_T (ltb (n + k) n) (λ h. let l = ltb→lt (n + k) n h in absurd (omega arith))), e)

-- so the counts of the two are the same
pub signal_counts : (q : Reason) (c : Calc) (n a b : ℕ) (rd S : Streams) (s y : ℕ) → count_below q (signal c a b) rd S s y ≡ count_below q (operation n c) rd (appended n a b S) s y
unfolding count_below says
signal_counts q c n a b rd S s y =
    ap (min count_limit) (tally_cong _ _ y (λ t l. rw (app_new n a b S 1, app_new n a b S 3) (ap (said_for q) (signal_said c (S a) (S b) t))))

pub only_old : (n : ℕ) (S : Streams) (i : ℕ) → i < n → first_only n S i ≡ S i
only_old n S i l = rw (true_is (ltb i n) (lt→ltb i n l))

pub only_over : (n : ℕ) (S : Streams) (i : ℕ) → n ≤ i → first_only n S i ≡ (λ t. None)
only_over n S i l = rw (false_is (ltb i n) (not_T (ltb i n) (λ h. let k = ltb→lt i n h in absurd (omega arith))))

-- ---- the plan
module _ (plan : Plan) (s : ℕ) (c : Calc) (a b : ℕ) (there : s < length plan) (is : eqn_at plan s ≡ signal c a b)
    (inside : (i : ℕ) → AllBelow (length plan) (reads (eqn_at plan i))) where
  abbrev n : ℕ
  n = length plan

  abbrev long : Plan
  long = spelled plan s c a b

  a_in : a < n
  a_in = (rw is at (inside s)).0

  b_in : b < n
  b_in = (rw is at (inside s)).1.0

  size : length (set plan s (operation n c)) ≡ n
  size = length-set plan s (operation n c)

  eqn_self : eqn_at long s ≡ operation n c
  eqn_self = get_or-append (set plan s (operation n c)) (four n a b) nil s (rw size there) ∙ get_or-set_same plan s (operation n c) nil there

  eqn_other : (i : ℕ) → i < n → (i ≡ s → ⊥) → eqn_at long i ≡ eqn_at plan i
  eqn_other i l d = get_or-append (set plan s (operation n c)) (four n a b) nil i (rw size l) ∙ get_or-set_other plan s i (operation n c) nil d

  eqn_new : (k : ℕ) → eqn_at long (n + k) ≡ get_or (four n a b) k nil
  eqn_new k = ap (λ m. eqn_at long (m + k)) (sym size) ∙ get_or-append-add (set plan s (operation n c)) (four n a b) k nil

  -- every stream is one of the plan, or n + k
  by_place : (P : ℕ → Type 0) → ((i : ℕ) → i < n → P i) → ((k : ℕ) → P (n + k)) → (i : ℕ) → P i
  by_place P old new i = go (dec_lt i n)
    where
      go : Dec (i < n) → P i
      go (yes l) = old i l
      go (no l) = let e : n + (i - n) ≡ i = omega arith in rw e at (new (i - n))

  -- one of the plan is s, or has its equation still
  by_stream : (P : ℕ → Type 0) → P s → ((i : ℕ) → i < n → (i ≡ s → ⊥) → P i) → (i : ℕ) → i < n → P i
  by_stream P self other i l = go (look (eqb i s))
    where
      go : Is (eqb i s) → P i
      go (yes! e x) = let q = eqb→eq i s x in rw q self
      go (no! e x) = other i l (λ q. T_not (eqb i s) x (rw q (eqb_refl s)))

  -- ---- solutions
  module _ (rd S : Streams) where
    abbrev A : Streams
    A = appended n a b S

    -- below the plan's length nothing changes
    row_old : (i t : ℕ) → i < n → at (eqn_at plan i) rd A i t ≡ at (eqn_at plan i) rd S i t
    row_old i t l =
        at_reads (eqn_at plan i) rd A S i t (each_map (λ j k p m. ap (λ f. f p) (app_old n a b S j k)) (reads (eqn_at plan i)) (inside i))
        (λ p m. ap (λ f. f p) (app_old n a b S i l))

    row_self : (t : ℕ) → at (operation n c) rd A s t ≡ at (eqn_at plan s) rd S s t
    unfolding at
    row_self t = ap₂ (λ f g. two_at (calc c) (f t) (g t)) (app_new n a b S 1) (app_new n a b S 3) ∙ rw is (sym (signal_row_lem c (S a) (S b) t))

    row_new : (k t : ℕ) → A (n + k) t ≡ at (get_or (four n a b) k nil) rd A (n + k) t
    unfolding at
    row_new zero t = rw (app_new n a b S 0, app_old n a b S a a_in, app_old n a b S b b_in)
    row_new (suc zero) t = rw (app_new n a b S 1, app_old n a b S a a_in, app_new n a b S 0)
    row_new (suc (suc zero)) t = rw (app_new n a b S 2, app_old n a b S a a_in, app_old n a b S b b_in)
    row_new (suc (suc (suc zero))) t = rw (app_new n a b S 3, app_old n a b S b b_in, app_new n a b S 2)
    row_new (suc (suc (suc (suc k)))) t = rw (app_new n a b S (suc (suc (suc (suc k)))))

    -- S solves the plan: with the four appended it solves the spelled-out one
    pub spell : (h : ℕ) → Solves plan rd S h → Solves long rd A h
    spell h sol = record {
      each = λ i t l. by_place (λ i. A i t ≡ at (eqn_at long i) rd A i t)
          (λ i m. ap (λ f. f t) (app_old n a b S i m) ∙ sol.each i t l ∙ by_stream (λ i. at (eqn_at plan i) rd S i t ≡ at (eqn_at long i) rd A i t)
          (rw eqn_self (sym (row_self t))) (λ i m d. rw (eqn_other i m d) (sym (row_old i t m))) i m)
          (λ k. rw (eqn_new k) (row_new k t)) i;
    }

    -- and back
    pub unspell : (h : ℕ) → ((i t : ℕ) → n ≤ i → t < h → S i t ≡ None) → Solves long rd A h → Solves plan rd S h
    unspell h quiet sol = record {
      each = λ i t l. by_place (λ i. S i t ≡ at (eqn_at plan i) rd S i t)
          (λ i m. sym (ap (λ f. f t) (app_old n a b S i m)) ∙ sol.each i t l ∙ by_stream (λ i. at (eqn_at long i) rd A i t ≡ at (eqn_at plan i) rd S i t)
          (rw eqn_self (row_self t)) (λ i m d. rw (eqn_other i m d) (row_old i t m)) i m)
          (λ k. rw (get_or-eq_default plan nil {n = n + k} (omega arith)) (unfold at in quiet (n + k) t (omega arith) l)) i;
    }

  -- whatever solves the spelled-out plan is, below h, its first_only n streams with the four appended, and those n solve the plan
  module _ (rd U : Streams) (h : ℕ) (sol : Solves long rd U h) where
    row_is : (k t : ℕ) → t < h → U (n + k) t ≡ at (get_or (four n a b) k nil) rd U (n + k) t
    row_is k t l = sol.each (n + k) t l ∙ rw (eqn_new k)

    new_is : (k t : ℕ) → t < h → U (n + k) t ≡ extra (U a) (U b) k t
    unfolding at
    new_is zero t l = row_is 0 t l
    new_is (suc zero) t l = row_is 1 t l ∙ rw (row_is 0 t l) refl
    new_is (suc (suc zero)) t l = row_is 2 t l
    new_is (suc (suc (suc zero))) t l = row_is 3 t l ∙ rw (row_is 2 t l) refl
    new_is (suc (suc (suc (suc k)))) t l = row_is (suc (suc (suc (suc k)))) t l

    pub spelled_is : (i t : ℕ) → t < h → appended n a b (first_only n U) i t ≡ U i t
    spelled_is i t l = by_place (λ i. appended n a b (first_only n U) i t ≡ U i t)
        (λ i m. ap (λ f. f t) (app_old n a b (first_only n U) i m ∙ only_old n U i m))
        (λ k. ap (λ f. f t) (app_new n a b (first_only n U) k) ∙ rw (only_old n U a a_in, only_old n U b b_in) (sym (new_is k t l))) i

    pub spelled_solves : Solves plan rd (first_only n U) h
    spelled_solves = unspell rd (first_only n U) h (λ i t l k. ap (λ f. f t) (only_over n U i l)) (record {
      each = λ i t l. spelled_is i t l ∙ sol.each i t l
          ∙ at_cong (eqn_at long i) rd rd U (appended n a b (first_only n U)) i t (λ x. refl) (each_all (λ j. sym (spelled_is j t l)) (undelayed (eqn_at long i))) (λ j p m. sym (spelled_is j p (omega arith)));
    })

  -- ---- the cycle rule
  args_in : (i : ℕ) → Each (λ j. j < n) (undelayed (eqn_at plan i))
  args_in i = undelayed_read (λ j. j < n) (eqn_at plan i) (inside i)

  both : (P Q R : ℕ → Type 0) (xs : List ℕ) → ((j : ℕ) → P j → Q j → R j) → Each P xs → Each Q xs → Each R xs
  both P Q R xs f p q = each_of R xs (λ j m. f j (each_at P xs p m) (each_at Q xs q m))

  abbrev third : ℕ → ℕ
  third zero = zero
  third (suc d) = suc (suc (suc (third d)))

  new_clear : (d : ℕ) → T (clear long d a) → T (clear long d b) → (k : ℕ) → T (clear long (suc (suc d)) (n + k))
  new_clear d x y zero = args_clear long (suc d) (n + 0) (rw (eqn_new 0) (clear_suc long d b y, tt))
  new_clear d x y (suc zero) =
      args_clear long (suc d) (n + 1) (rw (eqn_new 1) (clear_suc long d a x, (args_clear long d (n + 0) (rw (eqn_new 0) (y, tt)), tt)))
  new_clear d x y (suc (suc zero)) = args_clear long (suc d) (n + 2) (rw (eqn_new 2) (clear_suc long d a x, tt))
  new_clear d x y (suc (suc (suc zero))) =
      args_clear long (suc d) (n + 3) (rw (eqn_new 3) (clear_suc long d b y, (args_clear long d (n + 2) (rw (eqn_new 2) (x, tt)), tt)))
  new_clear d x y (suc (suc (suc (suc k)))) = args_clear long (suc d) (n + suc (suc (suc (suc k)))) (rw (eqn_new (suc (suc (suc (suc k))))) tt)

  spelled_clear : (d i : ℕ) → i < n → T (clear plan d i) → T (clear long (third d) i)
  unfolding clear
  spelled_clear zero i l k = absurd k
  spelled_clear (suc d) i l k =
      by_stream (λ i. T (clear plan (suc d) i) → T (clear long (third (suc d)) i))
      (λ k. let w = clear_args plan d s k in
      let x : T (clear long (third d) a) = spelled_clear d a a_in (rw is at w).0 in
      let y : T (clear long (third d) b) = spelled_clear d b b_in (rw is at w).1.0 in
      args_clear long (suc (suc (third d))) s (rw eqn_self (new_clear (third d) x y 1, (new_clear (third d) x y 3, tt))))
      (λ i l m k. args_clear long (suc (suc (third d))) i (rw (eqn_other i l m)
      (both (λ j. T (clear plan d j)) (λ j. j < n) (λ j. T (clear long (suc (suc (third d))) j)) (undelayed (eqn_at plan i))
      (λ j x y. clear_suc long (suc (third d)) j (clear_suc long (third d) j (spelled_clear d j y x))) (clear_args plan d i k) (args_in i))))
      i l k

  pub spelled_acyclic : Acyclic plan → Acyclic long
  spelled_acyclic ok i = by_place (λ i. (l : Leads long i i) → ⊥)
      (λ i m l. clear_acyclic long (third (suc n)) i (spelled_clear (suc n) i m (acyclic_clear plan ok i)) l)
      (λ k l. clear_acyclic long (suc (suc (third (suc n)))) (n + k) (new_clear (third (suc n)) (spelled_clear (suc n) a a_in (acyclic_clear plan ok a)) (spelled_clear (suc n) b b_in (acyclic_clear plan ok b)) k) l) i

  plain_clear : (d i : ℕ) → i < n → T (clear long d i) → T (clear plan d i)
  unfolding clear
  plain_clear zero i l k = absurd k
  plain_clear (suc d) i l k =
      by_stream (λ i. T (clear long (suc d) i) → T (clear plan (suc d) i))
      (λ k. let w : Each (λ j. T (clear long d j)) ((n + 1) ∷ (n + 3) ∷ []) = rw eqn_self at (clear_args long d s k) in
      args_clear plan d s (rw is (arg d 1 a w.0 a_in (λ e x. (rw (eqn_new 1) at (clear_args long e (n + 1) x)).0) (λ j y x. plain_clear d j y x), (arg d 3 b w.1.0 b_in (λ e x. (rw (eqn_new 3) at (clear_args long e (n + 3) x)).0) (λ j y x. plain_clear d j y x), tt))))
      (λ i l m k. args_clear plan d i
      (both (λ j. T (clear long d j)) (λ j. j < n) (λ j. T (clear plan d j)) (undelayed (eqn_at plan i))
      (λ j x y. plain_clear d j y x) (rw (eqn_other i l m) at (clear_args long d i k)) (args_in i)))
      i l k
    where
      arg : (d k j : ℕ) → T (clear long d (n + k)) → j < n → ((e : ℕ) → T (clear long (suc e) (n + k)) → T (clear long e j)) → ((j : ℕ) → j < n → T (clear long d j) → T (clear plan d j)) → T (clear plan d j)
      arg zero k j x l under ih = absurd x
      arg (suc e) k j x l under ih = ih j l (clear_suc long e j (under e x))

  pub plain_acyclic : Acyclic long → Acyclic plan
  plain_acyclic ok i = by_place (λ i. (l : Leads plan i i) → ⊥)
      (λ i m l. clear_acyclic plan (suc (length long)) i (plain_clear (suc (length long)) i m (acyclic_clear long ok i)) l)
      (λ k l. clear_acyclic plan 1 (n + k) (clear_beyond plan (n + k) (omega arith)) l) i

  -- ---- both, whatever the operation c
  pub means_spelled : MeansSpelled plan s c a b
  means_spelled = record {
    solutions = λ rd S h quiet. (spell rd S h, unspell rd S h quiet);
    only = λ rd U h sol. (spelled_solves rd U h sol, λ i t l. sym (spelled_is rd U h sol i t l));
    cycles = (spelled_acyclic, plain_acyclic);
  }

-- the shortest plan with a signal form is one of which this holds
pub pair_spelled : (c : Calc) → MeansSpelled (input ∷ input ∷ signal c 0 1 ∷ []) 2 c 0 1
pair_spelled c = means_spelled (input ∷ input ∷ signal c 0 1 ∷ []) 2 c 0 1 (omega arith) refl inside
  where
    inside : (i : ℕ) → AllBelow 3 (reads (eqn_at (input ∷ input ∷ signal c 0 1 ∷ []) i))
    inside zero = tt
    inside (suc zero) = tt
    inside (suc (suc zero)) = (omega arith, (omega arith, tt))
    inside (suc (suc (suc i))) = tt
