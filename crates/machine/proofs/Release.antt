-- Who waits for a stream's events, and what release does: only held events change.
use mathlib.Core.Path.{◌≡◌, refl, sym, ◌∙◌, ap}
use mathlib.Core.Logic.{◌⊎◌, inl, inr}
use mathlib.Core.Bool.{Bool, true, false, cond, ◌||◌}
use mathlib.Core.List.{List, [], ◌∷◌}
use Prim.Native.Nat.{ℕ, zero, suc, ◌≤◌, ◌<◌, min}
use native.Mathlib.Omega.{arith}
use native.Mathlib.Decide.{dec_lt}
use lib.Dec.{T, eqb, eqb→eq, eqb_refl}
use lib.ListN.{length, set, length-set}
use lib.Seq.{set_out, get_or-set_same, get_or-set_other}
use Rattle.meaning.specs.Plan.{Eqn, input, nil, unit, one, two, last, delay, signal, window}
use Rattle.meaning.specs.Arguments.{reads, Each}
use Rattle.meaning.specs.Events.{Event, horizon}
use Rattle.meaning.proofs.Tests.{Is, yes!, no!, look, true_is, T-or, T-or-l, T-or-r}
use Rattle.machine.specs.State.{Cell, State, absent, cell_at, with_held}
use Rattle.machine.specs.Step.{any_from, any_of, reads_it, least_reader, least_waiting, drop_below, release, releases}
use Rattle.machine.proofs.Cells.{beyond, eqb_ne}
use Rattle.machine.proofs.Rising.{drop_nil, drop_again}

-- ---- reading

pair_read : (a b : ℕ) → T (eqb a a || eqb b a) × (T (eqb a b || eqb b b) × Unit {0})
pair_read a b = (T-or-l (eqb a a) (eqb b a) (eqb_refl a), (T-or-r (eqb a b) (eqb b b) (eqb_refl b), tt))

pub each_read : (e : Eqn) → Each (λ a. T (reads_it a e)) (reads e)
each_read input = tt
each_read nil = tt
each_read unit = tt
each_read (one f a) = (eqb_refl a, tt)
each_read (two g a b) = pair_read a b
each_read (last a b) = pair_read a b
each_read (delay a b) = pair_read a b
each_read (signal c a b) = pair_read a b
each_read (window f k a) = (eqb_refl a, tt)

-- the number is one of the list
abbrev pub among : ℕ → List ℕ → Bool
among i [] = false
among i (s ∷ ss) = eqb i s || among i ss

flip : (a s : ℕ) → T (eqb a s) → T (eqb s a)
flip a s h = rw (eqb→eq a s h) (eqb_refl s)

pair_among : (s a b : ℕ) → T (eqb a s || eqb b s) → T (among s (a ∷ b ∷ []))
pair_among s a b h = go (T-or (eqb a s) (eqb b s) h)
  where
    go : T (eqb a s) ⊎ T (eqb b s) → T (eqb s a || (eqb s b || false))
    go (inl x) = T-or-l (eqb s a) (eqb s b || false) (flip a s x)
    go (inr x) = T-or-r (eqb s a) (eqb s b || false) (T-or-l (eqb s b) false (flip b s x))

-- what an equation reads is among its arguments
pub read_among : (s : ℕ) (e : Eqn) → T (reads_it s e) → T (among s (reads e))
read_among s input h = h
read_among s nil h = h
read_among s unit h = h
read_among s (one f a) h = T-or-l (eqb s a) false (flip a s h)
read_among s (two g a b) h = pair_among s a b h
read_among s (last a b) h = pair_among s a b h
read_among s (delay a b) h = pair_among s a b h
read_among s (signal c a b) h = pair_among s a b h
read_among s (window f k a) h = T-or-l (eqb s a) false (flip a s h)

-- and what is among them it reads
any_of_lem : (s : ℕ) (l : List ℕ) → T (among s l) → T (any_of s l)
any_of_lem s [] h = h
any_of_lem s (a ∷ l) h = go (T-or (eqb s a) (among s l) h) (any_of_lem s l)
  where
    here : (l : List ℕ) → T (eqb a s) → T (any_from s a l)
    here [] x = x
    here (b ∷ l) x = T-or-l (eqb a s) (any_from s b l) x

    later : (l : List ℕ) → T (any_of s l) → T (any_from s a l)
    later [] x = absurd x
    later (b ∷ l) x = T-or-r (eqb a s) (any_from s b l) x

    go : T (eqb s a) ⊎ T (among s l) → (T (among s l) → T (any_of s l)) → T (any_from s a l)
    go (inl x) ih = here l (flip s a x)
    go (inr x) ih = later l (ih x)

pub among_read : (s : ℕ) (e : Eqn) → T (among s (reads e)) → T (reads_it s e)
among_read s e = any_of_lem s (reads e)

-- ---- the least reader

reader_yes : (s : ℕ) (c : Cell) (cs : State) → reads_it s c.eqn ≡ true → least_reader s (c ∷ cs) ≡ min c.bound (least_reader s cs)
unfolding least_reader
reader_yes s c cs q = rw (least_reader, q)

reader_no : (s : ℕ) (c : Cell) (cs : State) → reads_it s c.eqn ≡ false → least_reader s (c ∷ cs) ≡ least_reader s cs
unfolding least_reader
reader_no s c cs q = rw (least_reader, q)

pub reader_top : (s : ℕ) (M : State) → least_reader s M ≤ horizon
unfolding least_reader
reader_top s [] = omega arith
reader_top s (c ∷ cs) = go (look (reads_it s c.eqn)) (reader_top s cs)
  where
    go : Is (reads_it s c.eqn) → least_reader s cs ≤ horizon → least_reader s (c ∷ cs) ≤ horizon
    go (yes! q x) h = rw (reader_yes s c cs q) (omega arith)
    go (no! q x) h = rw (reader_no s c cs q) h

pub reader_le : (s : ℕ) (M : State) (r : ℕ) → T (reads_it s (cell_at M r).eqn) → least_reader s M ≤ (cell_at M r).bound
unfolding least_reader
reader_le s [] r h = absurd h
reader_le s (c ∷ cs) zero h = rw (reader_yes s c cs (true_is (reads_it s c.eqn) h)) (omega arith)
reader_le s (c ∷ cs) (suc r) h = go (look (reads_it s c.eqn)) (reader_le s cs r h)
  where
    go : Is (reads_it s c.eqn) → least_reader s cs ≤ (cell_at cs r).bound → least_reader s (c ∷ cs) ≤ (cell_at cs r).bound
    go (yes! q x) k = rw (reader_yes s c cs q) (omega arith)
    go (no! q x) k = rw (reader_no s c cs q) k

pub reader_greatest : (s : ℕ) (M : State) (w : ℕ) → w ≤ horizon → ((r : ℕ) → T (reads_it s (cell_at M r).eqn) → w ≤ (cell_at M r).bound) → w ≤ least_reader s M
unfolding least_reader
reader_greatest s [] w l h = l
reader_greatest s (c ∷ cs) w l h = go (look (reads_it s c.eqn)) (reader_greatest s cs w l (λ r. h (suc r)))
  where
    go : Is (reads_it s c.eqn) → w ≤ least_reader s cs → w ≤ least_reader s (c ∷ cs)
    go (yes! q x) k = let y = h 0 x in rw (reader_yes s c cs q) (omega arith)
    go (no! q x) k = rw (reader_no s c cs q) k

-- below the horizon it is the bound of a reader
pub reader_who : (s : ℕ) (M : State) → least_reader s M < horizon → (r : ℕ) × (r < length M) × T (reads_it s (cell_at M r).eqn) × ((cell_at M r).bound ≤ least_reader s M)
unfolding least_reader
reader_who s [] l = absurd (omega arith)
reader_who s (c ∷ cs) l = go (look (reads_it s c.eqn)) (λ k. reader_who s cs k)
  where
    later : {w : ℕ} → least_reader s cs ≤ w → (least_reader s cs < horizon → (r : ℕ) × (r < length cs) × T (reads_it s (cell_at cs r).eqn) × ((cell_at cs r).bound ≤ least_reader s cs))
        → least_reader s cs < horizon → (r : ℕ) × (r < length (c ∷ cs)) × T (reads_it s (cell_at (c ∷ cs) r).eqn) × ((cell_at (c ∷ cs) r).bound ≤ w)
    later m ih k = let x = ih k in let y = x.1 in let z = x.3 in (suc x.0, omega arith, x.2, omega arith)

    go : Is (reads_it s c.eqn) → (least_reader s cs < horizon → (r : ℕ) × (r < length cs) × T (reads_it s (cell_at cs r).eqn) × ((cell_at cs r).bound ≤ least_reader s cs))
        → (r : ℕ) × (r < length (c ∷ cs)) × T (reads_it s (cell_at (c ∷ cs) r).eqn) × ((cell_at (c ∷ cs) r).bound ≤ least_reader s (c ∷ cs))
    go (no! q x) ih = let e = reader_no s c cs q in later (omega arith) ih (omega arith)
    go (yes! q x) ih = here (dec_lt (least_reader s cs) c.bound)
      where
        here : Dec (least_reader s cs < c.bound) → (r : ℕ) × (r < length (c ∷ cs)) × T (reads_it s (cell_at (c ∷ cs) r).eqn) × ((cell_at (c ∷ cs) r).bound ≤ least_reader s (c ∷ cs))
        here (yes d) = let e = reader_yes s c cs q in later (omega arith) ih (omega arith)
        here (no d) = let e = reader_yes s c cs q in (0, omega arith, x, omega arith)

-- ---- the same with collection

waiting_out : (s : ℕ) (M : State) → (cell_at M s).out ≡ true → least_waiting s M ≡ min (cell_at M s).next (least_reader s M)
unfolding least_waiting
waiting_out s M q = rw q

waiting_in : (s : ℕ) (M : State) → (cell_at M s).out ≡ false → least_waiting s M ≡ least_reader s M
unfolding least_waiting
waiting_in s M q = rw q

pub waiting_le_reader : (s : ℕ) (M : State) (r : ℕ) → T (reads_it s (cell_at M r).eqn) → least_waiting s M ≤ (cell_at M r).bound
waiting_le_reader s M r h = go (look (cell_at M s).out)
  where
    go : Is (cell_at M s).out → least_waiting s M ≤ (cell_at M r).bound
    go (yes! q x) = let y = reader_le s M r h in let z = waiting_out s M q in omega arith
    go (no! q x) = let y = reader_le s M r h in let z = waiting_in s M q in omega arith

pub waiting_le_next : (s : ℕ) (M : State) → T (cell_at M s).out → least_waiting s M ≤ (cell_at M s).next
waiting_le_next s M o = let z = waiting_out s M (true_is (cell_at M s).out o) in omega arith

pub waiting_top : (s : ℕ) (M : State) → least_waiting s M ≤ horizon
waiting_top s M = go (look (cell_at M s).out)
  where
    go : Is (cell_at M s).out → least_waiting s M ≤ horizon
    go (yes! q x) = let y = reader_top s M in let z = waiting_out s M q in omega arith
    go (no! q x) = let y = reader_top s M in let z = waiting_in s M q in omega arith

pub waiting_greatest : (s : ℕ) (M : State) (w : ℕ) → w ≤ horizon → ((r : ℕ) → T (reads_it s (cell_at M r).eqn) → w ≤ (cell_at M r).bound)
    → (T (cell_at M s).out → w ≤ (cell_at M s).next) → w ≤ least_waiting s M
waiting_greatest s M w l h k = go (look (cell_at M s).out)
  where
    go : Is (cell_at M s).out → w ≤ least_waiting s M
    go (yes! q x) = let y = reader_greatest s M w l h in let n = k x in let z = waiting_out s M q in omega arith
    go (no! q x) = let y = reader_greatest s M w l h in let z = waiting_in s M q in omega arith

-- who waits for the event at t
pub waiting_who : (s : ℕ) (M : State) (t : ℕ) → t < horizon → least_waiting s M ≤ t
    → ((r : ℕ) × (r < length M) × T (reads_it s (cell_at M r).eqn) × ((cell_at M r).bound ≤ t)) ⊎ (T (cell_at M s).out × ((cell_at M s).next ≤ t))
waiting_who s M t h l = go (look (cell_at M s).out)
  where
    reader : least_reader s M ≤ t → (r : ℕ) × (r < length M) × T (reads_it s (cell_at M r).eqn) × ((cell_at M r).bound ≤ t)
    reader k = let x = reader_who s M (omega arith) in let y = x.3 in (x.0, x.1, x.2, omega arith)

    go : Is (cell_at M s).out → ((r : ℕ) × (r < length M) × T (reads_it s (cell_at M r).eqn) × ((cell_at M r).bound ≤ t)) ⊎ (T (cell_at M s).out × ((cell_at M s).next ≤ t))
    go (no! q x) = let z = waiting_in s M q in inl (reader (omega arith))
    go (yes! q x) = both (dec_lt t (cell_at M s).next)
      where
        both : Dec (t < (cell_at M s).next) → ((r : ℕ) × (r < length M) × T (reads_it s (cell_at M r).eqn) × ((cell_at M r).bound ≤ t)) ⊎ (T (cell_at M s).out × ((cell_at M s).next ≤ t))
        both (yes d) = let z = waiting_out s M q in inl (reader (omega arith))
        both (no d) = inr (x, omega arith)

-- ---- two states in which only some bounds and marks go up

pub record Grown (s : ℕ) (M N : State) : Type 0 where
  pub eqns : (r : ℕ) → (cell_at N r).eqn ≡ (cell_at M r).eqn
  pub outs : (cell_at N s).out ≡ (cell_at M s).out
  pub bounds : (r : ℕ) → T (reads_it s (cell_at M r).eqn) → (cell_at M r).bound ≤ (cell_at N r).bound
  pub marks : (cell_at M s).next ≤ (cell_at N s).next

pub waiting_grows : (s : ℕ) (M N : State) → Grown s M N → least_waiting s M ≤ least_waiting s N
waiting_grows s M N g =
    waiting_greatest s N (least_waiting s M) (waiting_top s M)
    (λ r h. let k : T (reads_it s (cell_at M r).eqn) = rw (g.eqns r) at h in let x = waiting_le_reader s M r k in let y = g.bounds r k in omega arith)
    (λ o. let x = waiting_le_next s M (rw g.outs at o) in let y = g.marks in omega arith)

-- ---- two states that differ in held events and kept data alone

pub record Frame (M N : State) : Type 0 where
  pub size : length N ≡ length M
  pub eqns : (i : ℕ) → (cell_at N i).eqn ≡ (cell_at M i).eqn
  pub outs : (i : ℕ) → (cell_at N i).out ≡ (cell_at M i).out
  pub bounds : (i : ℕ) → (cell_at N i).bound ≡ (cell_at M i).bound
  pub nexts : (i : ℕ) → (cell_at N i).next ≡ (cell_at M i).next

-- the same streams wait
pub frame_waiting : (s : ℕ) (M N : State) → Frame M N → least_waiting s N ≡ least_waiting s M
frame_waiting s M N f =
    let x = waiting_grows s M N (record { eqns = f.eqns; outs = f.outs s; bounds = λ r k. let e = f.bounds r in omega arith; marks = let e = f.nexts s in omega arith }) in
    let y = waiting_grows s N M (record { eqns = λ r. sym (f.eqns r); outs = sym (f.outs s); bounds = λ r k. let e = f.bounds r in omega arith; marks = let e = f.nexts s in omega arith }) in
    omega arith

-- ---- release

-- N is M but for held events
pub record Looser (M N : State) : Type 0 where
  pub size : length N ≡ length M
  pub cells : (i : ℕ) → cell_at N i ≡ with_held (cell_at N i).held (cell_at M i)

pub looser_frame : (M N : State) → Looser M N → Frame M N
looser_frame M N h = record {
  size = h.size;
  eqns = λ i. ap (λ c. c.eqn) (h.cells i);
  outs = λ i. ap (λ c. c.out) (h.cells i);
  bounds = λ i. ap (λ c. c.bound) (h.cells i);
  nexts = λ i. ap (λ c. c.next) (h.cells i);
}

pub looser_waiting : (s : ℕ) (M N : State) → Looser M N → least_waiting s N ≡ least_waiting s M
looser_waiting s M N h = frame_waiting s M N (looser_frame M N h)

pub release_at : (s : ℕ) (M : State) (i : ℕ) → cell_at (release s M) i ≡ with_held (cond (eqb i s) (drop_below (least_waiting i M) (cell_at M i).held) (cell_at M i).held) (cell_at M i)
unfolding release
release_at s M i = go (dec_lt s (length M)) (look (eqb i s))
  where
    c : Cell
    c = with_held (drop_below (least_waiting s M) (cell_at M s).held) (cell_at M s)

    go : Dec (s < length M) → Is (eqb i s) → cell_at (set M s c) i ≡ with_held (cond (eqb i s) (drop_below (least_waiting i M) (cell_at M i).held) (cell_at M i).held) (cell_at M i)
    go (yes l) (yes! q x) = let e = eqb→eq i s x in rw (q, e, get_or-set_same M s c absent l)
    go d (no! q x) = rw (q, get_or-set_other M s i c absent (eqb_ne i s x))
    go (no l) (yes! q x) = let e = eqb→eq i s x in rw (q, e, set_out M s c (omega arith), beyond M s (omega arith), drop_nil (least_waiting s M))

pub release_size : (s : ℕ) (M : State) → length (release s M) ≡ length M
unfolding release
release_size s M = length-set M s (with_held (drop_below (least_waiting s M) (cell_at M s).held) (cell_at M s))

pub release_looser : (s : ℕ) (M : State) → Looser M (release s M)
release_looser s M = record { size = release_size s M; cells = λ i. let e = release_at s M i in e ∙ ap (λ h. with_held h (cell_at M i)) (sym (ap (λ c. c.held) e)) }

-- releasing some streams, one after the other
pub releases_at : (ss : List ℕ) (M : State) (i : ℕ)
    → cell_at (releases ss M) i ≡ with_held (cond (among i ss) (drop_below (least_waiting i M) (cell_at M i).held) (cell_at M i).held) (cell_at M i)
unfolding releases
releases_at [] M i = refl
releases_at (s ∷ ss) M i = releases_at ss (release s M) i ∙ rw (looser_waiting i M (release s M) (release_looser s M), release_at s M i) (go (eqb i s) (among i ss))
  where
    w : ℕ
    w = least_waiting i M

    h : List Event
    h = (cell_at M i).held

    go : (p q : Bool) → with_held (cond q (drop_below w (cond p (drop_below w h) h)) (cond p (drop_below w h) h)) (cell_at M i) ≡ with_held (cond (p || q) (drop_below w h) h) (cell_at M i)
    go true true = ap (λ x. with_held x (cell_at M i)) (drop_again w w h (omega arith))
    go true false = refl
    go false true = refl
    go false false = refl

pub releases_size : (ss : List ℕ) (M : State) → length (releases ss M) ≡ length M
unfolding releases
releases_size [] M = refl
releases_size (s ∷ ss) M = releases_size ss (release s M) ∙ release_size s M

pub releases_looser : (ss : List ℕ) (M : State) → Looser M (releases ss M)
releases_looser ss M = record { size = releases_size ss M; cells = λ i. let e = releases_at ss M i in e ∙ ap (λ h. with_held h (cell_at M i)) (sym (ap (λ c. c.held) e)) }
