-- On records that pass, the graph that the code fills is that of the plan, so the code's test is the definition's.
use Prim.Native.Nat.{ℕ, zero, suc, ◌+◌, ◌*◌, ◌<◌, ◌≤◌}
use mathlib.Core.Path.{◌≡◌, refl, sym, ap, ap₂, ◌∙◌}
use mathlib.Core.Logic.{⊎_elim}
use mathlib.Core.List.{List, [], ◌∷◌, map}
use mathlib.Core.Bool.{Bool, true, ◌&&◌}
use native.Mathlib.Omega.{arith}
use native.Mathlib.Nat.{eq-or-lt_of_le}
use lib.Dec.{lit<}
use lib.ListN.{length, get_or, set, take, drop, replicate, length-map, length-replicate, length-set, length-drop}
use lib.Seq.{sets, drop-drop, get_or-drop, get_or-take, get_or-set_same, get_or-set_other, length-take-le}
use mir.Syntax.{w64}
use mir.Val.{to_z}
use Rattle.le.specs.Bytes.{part}
use Rattle.le.proofs.Laws.{le_one}
use Rattle.meaning.specs.Plan.{Eqn, Plan, eqn_at}
use Rattle.meaning.specs.Arguments.{undelayed, arg_a, arg_b, AllBelow}
use Rattle.meaning.specs.CycleTest.{acyclic}
use Rattle.machine.specs.State.{plan_of}
use Rattle.operators.specs.Operators.{operator_count, is_operator, eqn_of, number_of}
use Rattle.operators.specs.Rules.{fields_ok}
use Rattle.operators.specs.Windows.{width_ok}
use Rattle.operators.specs.Limits.{most_streams, capacity}
use Rattle.operators.proofs.Sizes.{capacity_fits, capacity_few, capacity_area}
use Rattle.operators.proofs.Laws.{operator_low, operator_high, number_back}
use Rattle.operators.proofs.Rules.{fields_first, fields_second, fields_undelayed}
use Rattle.cycle.specs.Graph.{graph_length, entry_of, cleared}
use Rattle.cycle.proofs.Tied.{args_at, cleared_acyclic}
use Rattle.cycle.proofs.Graphs.{entry_length, entries_tied}
use Rattle.layout.specs.Record.{Raw, no_raw, num, dec_raw, decode, row_at, op_f, a_f, b_f, k_f, out_f, count_f, bound_f}
use Rattle.layout.specs.Windows.{area_length}
use Rattle.layout.proofs.Laws.{row_at_lem, rows_many, byte_get}
use Rattle.encoding.specs.Back.{to_cell, cells, area_of, state_of}
use Rattle.encoding.proofs.Cells.{cells_plan, cells_length}
use Rattle.valid.specs.Valid.{plan_ok, sizes_ok, risen, kept_ok, row_ok, all_rows, count, plan_in, noted, clear_in}
use Rattle.valid.proofs.Tests.{left, right, in_few}
use Rattle.valid.proofs.Graph.{noted_length}

-- ---- a record's row passes, and its plan part

pub rows_at : (f : List ℕ → Bool) (m i : ℕ) (s : List ℕ) → all_rows f m s ≡ true → i < m → f (part s (i * 256) 256) ≡ true
unfolding all_rows
rows_at f zero i s e h = absurd (omega arith)
rows_at f (suc m) zero s e h = left (f (take 256 s)) (all_rows f m (drop 256 s)) e
rows_at f (suc m) (suc i) s e h =
    let q : 256 + i * 256 ≡ suc i * 256 = omega arith in
    sym (ap (λ (l : List ℕ). f (take 256 l)) (drop-drop (i * 256) 256 s ∙ ap (λ (j : ℕ). drop j s) q))
    ∙ rows_at f m i (drop 256 s) (right (f (take 256 s)) (all_rows f m (drop 256 s)) e) (omega arith)

-- what the plan part of a record says
pub record PlanFacts (n : ℕ) (r : Raw) : Type 0 where
  pub least : 1 ≤ num op_f r
  pub most : num op_f r ≤ operator_count
  pub fields : fields_ok n (num op_f r) (num a_f r) (num b_f r) (num k_f r) (num out_f r) ≡ true
  pub width : width_ok (num op_f r) (num k_f r) ≡ true

pub plan_facts : (n : ℕ) (r : Raw) → plan_ok n r ≡ true → PlanFacts n r
unfolding plan_ok
plan_facts n r e =
    let op = num op_f r in
    let f : Bool = fields_ok n op (num a_f r) (num b_f r) (num k_f r) (num out_f r) in
    let w : Bool = width_ok op (num k_f r) in
    let i : is_operator op ≡ true = left (is_operator op) (f && w) e in
    let q = right (is_operator op) (f && w) e in
    record { least = operator_low op i; most = operator_high op i; fields = left f w q; width = right f w q }

pub row_plan : (n : ℕ) (p : List ℕ) → row_ok n p ≡ true → plan_ok n (dec_raw p) ≡ true
unfolding row_ok
row_plan n p e =
    left (plan_ok n (dec_raw p)) (sizes_ok (dec_raw p) && (risen (num bound_f (dec_raw p)) 0 (num count_f (dec_raw p)) (dec_raw p).slots && (kept_ok (dec_raw p) && Rattle.le.specs.Bytes.all_zero (drop (64 + num count_f (dec_raw p) * 12) p)))) e

-- ---- the equations

map_at : (l : List Raw) (i : ℕ) → i < length l → eqn_at (plan_of (map to_cell l)) i ≡ (to_cell (get_or l i no_raw)).eqn
map_at [] i h = absurd (omega arith)
map_at (r ∷ l) zero h = refl
map_at (r ∷ l) (suc i) h = map_at l i (omega arith)

abbrev pub eqn_in : Raw → Eqn
eqn_in r = eqn_of (num op_f r) (num a_f r) (num b_f r) (to_z w64 (num k_f r))

eqn_is : (r : Raw) → (to_cell r).eqn ≡ eqn_in r
unfolding to_cell
eqn_is r = refl

pub plan_length : (n : ℕ) (s : List ℕ) → length (plan_in n s) ≡ n
unfolding state_of
plan_length n s = let rows = (decode n s).rows in let b = area_of (decode n s).spare in length-map (cells rows b) (λ c. c.eqn) ∙ cells_length rows b ∙ rows_many n s

pub eqn_at_lem : (n : ℕ) (s : List ℕ) (i : ℕ) → i < n → eqn_at (plan_in n s) i ≡ eqn_in (dec_raw (part s (i * 256) 256))
unfolding state_of
eqn_at_lem n s i h =
    ap (λ (P : Plan). eqn_at P i) (cells_plan (decode n s).rows (area_of (decode n s).spare))
    ∙ map_at (decode n s).rows i (rw (rows_many n s) h) ∙ eqn_is (row_at (decode n s) i) ∙ ap eqn_in (row_at_lem n s i h)

-- ---- the three bytes of a record's arguments

sets_before : (vs l : List ℕ) (k m : ℕ) → m < k → get_or (sets l k vs) m 0 ≡ get_or l m 0
sets_before [] l k m h = refl
sets_before (v ∷ vs) l k m h = sets_before vs (set l k v) (suc k) m (omega arith) ∙ get_or-set_other l k m v 0 (λ e. omega arith)

sets_within : (vs l : List ℕ) (k j : ℕ) → j < length vs → k + length vs ≤ length l → get_or (sets l k vs) (k + j) 0 ≡ get_or vs j 0
sets_within [] l k j h n = absurd (omega arith)
sets_within (v ∷ vs) l k zero h n =
    let e : k + 0 ≡ k = omega arith in
    ap (λ (m : ℕ). get_or (sets (set l k v) (suc k) vs) m 0) e ∙ sets_before vs (set l k v) (suc k) k (omega arith) ∙ get_or-set_same l k v 0 (omega arith)
sets_within (v ∷ vs) l k (suc j) h n =
    let e : k + suc j ≡ suc k + j = omega arith in
    ap (λ (m : ℕ). get_or (sets (set l k v) (suc k) vs) m 0) e ∙ sets_within vs (set l k v) (suc k) j (omega arith) (rw length-set (omega arith))

-- the three bytes of record i, by the bytes of the state
abbrev entry_in : ℕ → List ℕ → List ℕ
entry_in i s = entry_of (get_or s (i * 256) 0) (get_or s (i * 256 + 1) 0) (get_or s (i * 256 + 2) 0)

noted_at : (n : ℕ) (s g : List ℕ) (i j : ℕ) → 3 * n ≤ length g → i < n → j < 3 → get_or (noted n s g) (3 * i + j) 0 ≡ get_or (entry_in i s) j 0
unfolding noted
noted_at zero s g i j l h k = absurd (omega arith)
noted_at (suc n) s g i j l h k =
    let v = entry_in n s in
    let w = noted n s g in
    let lv : length v ≡ 3 = entry_length (get_or s (n * 256) 0) (get_or s (n * 256 + 1) 0) (get_or s (n * 256 + 2) 0) in
    let lw : length w ≡ length g = noted_length n s g in
    ⊎_elim
    (λ e. rw (suc_eq e) (sets_within v w (3 * n) j (omega arith) (omega arith)))
    (λ m. sets_before v w (3 * n) (3 * i + j) (omega arith) ∙ noted_at n s g i j (omega arith) (omega arith) k)
    (eq-or-lt_of_le h)
  where
    suc_eq : suc i ≡ suc n → i ≡ n
    suc_eq e = omega arith

-- byte j of record i
pub byte_in : (s : List ℕ) (i j : ℕ) → i * 256 + 256 ≤ length s → j < 8 → num j (dec_raw (part s (i * 256) 256)) ≡ get_or s (i * 256 + j) 0
byte_in s i j l h =
    let p = part s (i * 256) 256 in
    let lp : length p ≡ 256 = length-take-le 256 (drop (i * 256) s) (rw (length-drop (i * 256) s) (omega arith)) in
    byte_get p j h ∙ le_one p j (omega arith) ∙ get_or-take 256 (drop (i * 256) s) j 0 (omega arith) ∙ get_or-drop (i * 256) s j 0

-- a record that passes: its three bytes are those of its equation
entry_is : (n : ℕ) (r : Raw) → PlanFacts n r
    → entry_of (num op_f r) (num a_f r) (num b_f r) ≡ entry_of (number_of (eqn_in r)) (arg_a (eqn_in r)) (arg_b (eqn_in r))
entry_is n r f =
    let k = to_z w64 (num k_f r) in
    let a = fields_first n (num op_f r) (num a_f r) (num b_f r) (num k_f r) (num out_f r) f.fields k in
    let b = fields_second n (num op_f r) (num a_f r) (num b_f r) (num k_f r) (num out_f r) f.fields k in
    let o = number_back (num a_f r) (num b_f r) k (num op_f r) f.least f.most in
    sym (ap (λ (x : ℕ). entry_of x (arg_a (eqn_in r)) (arg_b (eqn_in r))) o ∙ ap₂ (entry_of (num op_f r)) a b)

-- and its undelayed arguments name streams
args_below : (n : ℕ) (r : Raw) → PlanFacts n r → AllBelow n (undelayed (eqn_in r))
args_below n r f = fields_undelayed n (num op_f r) (num a_f r) (num b_f r) (num k_f r) (num out_f r) f.fields (to_z w64 (num k_f r))

clear_is : (cap : ℕ) (s : List ℕ) (n : ℕ) → n ≤ most_streams → all_rows (row_ok n) n s ≡ true → n * 256 ≤ length s → clear_in cap n s ≡ acyclic cap (plan_in n s)
unfolding clear_in
clear_is cap s n h ok l =
    let g = noted n s (replicate graph_length 0) in
    let plan = plan_in n s in
    let pl = plan_length n s in
    let gl : length g ≡ graph_length = noted_length n s (replicate graph_length 0) in
    ap (λ (m : ℕ). (cleared cap m g).is_clear) (sym pl)
    ∙ cleared_acyclic plan (omega arith) (λ i k. below i (omega arith)) cap g
    (entries_tied plan g (omega arith) (λ i j k m. byte i j (omega arith) m))
  where
    facts : (i : ℕ) → i < n → PlanFacts n (dec_raw (part s (i * 256) 256))
    facts i k = plan_facts n (dec_raw (part s (i * 256) 256)) (row_plan n (part s (i * 256) 256) (rows_at (row_ok n) n i s ok k))

    below : (i : ℕ) → i < n → AllBelow (length (plan_in n s)) (args_at (plan_in n s) i)
    below i k = rw (plan_length n s) (rw (eqn_at_lem n s i k) (args_below n (dec_raw (part s (i * 256) 256)) (facts i k)))

    byte : (i j : ℕ) → i < n → j < 3
        → get_or (noted n s (replicate graph_length 0)) (3 * i + j) 0 ≡ get_or (entry_of (number_of (eqn_at (plan_in n s) i)) (arg_a (eqn_at (plan_in n s) i)) (arg_b (eqn_at (plan_in n s) i))) j 0
    byte i j k m =
        let r = dec_raw (part s (i * 256) 256) in
        let z : i * 256 + 0 ≡ i * 256 = omega arith in
        let b₀ = byte_in s i 0 (omega arith) (lit< tt) ∙ ap (λ (x : ℕ). get_or s x 0) z in
        let b₁ = byte_in s i 1 (omega arith) (lit< tt) in
        let b₂ = byte_in s i 2 (omega arith) (lit< tt) in
        noted_at n s (replicate graph_length 0) i j (omega (arith, length-replicate {A = ℕ} graph_length 0)) k m
        ∙ ap (λ (e : List ℕ). get_or e j 0)
        (sym (ap (λ (x : ℕ). entry_of x (num a_f r) (num b_f r)) b₀ ∙ ap₂ (entry_of (get_or s (i * 256) 0)) b₁ b₂) ∙ entry_is n r (facts i k)
        ∙ ap (λ (q : Eqn). entry_of (number_of q) (arg_a q) (arg_b q)) (sym (eqn_at_lem n s i k)))

-- ---- the streams of a buffer: no more than it has room for, and each within it

pub count_few : (s : List ℕ) → count s ≤ capacity (length s)
count_few s = in_few (capacity (length s)) s

pub count_fits : (s : List ℕ) → count s * 256 ≤ length s
count_fits s = omega (arith, count_few s, capacity_fits (length s))

-- and before the windows
pub count_area : (s : List ℕ) → 0 < capacity (length s) → count s * 256 + area_length ≤ length s
count_area s l = omega (arith, count_few s, capacity_area (length s) l)

pub clear_count : (s : List ℕ) → all_rows (row_ok (count s)) (count s) s ≡ true → clear_in (capacity (length s)) (count s) s ≡ acyclic (capacity (length s)) (plan_in (count s) s)
clear_count s ok = clear_is (capacity (length s)) s (count s) (omega (arith, count_few s, capacity_few (length s))) ok (count_fits s)
