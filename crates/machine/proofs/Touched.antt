-- A move of stream s lets no other equation move but those that it touches. Of another stream j the own cell stays: only s is
-- written, only readers of s are told, and only s and its arguments let events go. What j sees of an argument x stays: x is
-- not s, so its bound stays, and where x is an argument of s too, only events below j's bound go, as j waits for the others.
-- Only what keeps something looks at those.
use Prim.Native.Nat.{ℕ, suc, pred, ◌-◌, ◌≤◌, ◌<◌}
use mathlib.Core.Path.{◌≡◌, refl, sym, ap, ap₂, ◌∙◌}
use mathlib.Core.Logic.{◌⊎◌, inl, inr}
use mathlib.Core.Bool.{Bool, true, false, not, cond, ◌&&◌, ◌||◌, and-false, true≢false}
use Rattle.std.specs.Prelude.{Option}
use mathlib.Core.List.{List, [], ◌∷◌, ◌++◌}
use native.Mathlib.Omega.{arith}
use lib.Dec.{T, eqb, ltb, eqb→eq, not_T}
use lib.ListN.{length, set}
use lib.Seq.{get_or-set_other}
use lib.IntN.{ℤ}
use Rattle.meaning.specs.Plan.{Eqn, input, nil, unit, one, two, last, delay, signal, window, is_input}
use Rattle.meaning.specs.Arguments.{reads, Each, arg_a, arg_b}
use Rattle.meaning.specs.Events.{Event, found, has}
use Rattle.meaning.specs.Table.{latest_of, values, width, window_at_lem}
use Rattle.meaning.proofs.Each.{each_map}
use Rattle.meaning.proofs.Tests.{Is, yes!, no!, look, false_is, T-or, T-or-l, T-or-r}
use Rattle.meaning.proofs.Causal.{latest_cong}
use Rattle.machine.specs.State.{Cell, Kept, State, absent, cell_at, with_held, with_kept}
use Rattle.machine.specs.Reach.{view, limit, stops, point, reach, gives, first, decide}
use Rattle.machine.specs.Step.{passes, advance, absorb, absorbed, reads_it, kept_told, write, told, tell, least_waiting, drop_below, raise, new_bound, ahead, can_move, comes_in, move}
use Rattle.machine.specs.Touched.{keeps, reads_one, touches, Still}
use Rattle.machine.specs.Calls.{lowest}
use Rattle.machine.proofs.Search.{least_before, least_cong}
use Rattle.machine.proofs.Window.{past_cong}
use Rattle.machine.proofs.Rising.{found_drop}
use Rattle.machine.proofs.Lasts.{from_cong}
use Rattle.machine.proofs.Cells.{ne_eqb, told_at}
use Rattle.machine.proofs.Release.{each_read, among, among_read, waiting_le_reader, releases_at}
use Rattle.machine.proofs.Frame.{raise_eqn, raise_bound}
use Rattle.machine.proofs.Moves.{first_ge}

-- ---- tests of which neither holds

or_none_l : (a b : Bool) → (a || b) ≡ false → a ≡ false
or_none_l true b h = h
or_none_l false b h = refl

or_none_r : (a b : Bool) → (a || b) ≡ false → b ≡ false
or_none_r true b h = absurd (true≢false h)
or_none_r false b h = h

-- ---- what an equation sees of an argument

-- from stamp lo on, d is seen as c is: the same bound, and the same held events
record Alike (lo : ℕ) (c d : Cell) : Type 0 where
  bound : d.bound ≡ c.bound
  held : (t : ℕ) → lo ≤ t → view d t ≡ view c t

-- how far down an equation with bound y looks
abbrev down_to : Eqn → ℕ → ℕ
down_to e y = cond (keeps e) 0 y

-- the same of all arguments that it reads, in two states
abbrev Seen : Eqn → Cell → State → State → Type 0
Seen e o M N = Each (λ x. Alike (down_to e o.bound) (cell_at M x) (cell_at N x)) (reads e)

module _ (o : Cell) (M N : State) where
  limit_same : (e : Eqn) → Seen e o M N → limit e o (cell_at N (arg_a e)) (cell_at N (arg_b e)) ≡ limit e o (cell_at M (arg_a e)) (cell_at M (arg_b e))
  limit_same input h = refl
  limit_same nil h = refl
  limit_same unit h = refl
  limit_same (one f a) h = h.0.bound
  limit_same (two g a b) h = rw (h.0.bound, h.1.0.bound)
  limit_same (last a b) h = h.1.0.bound
  limit_same (delay a b) h = rw h.1.0.bound
  limit_same (signal c a b) h = rw (h.0.bound, h.1.0.bound)
  limit_same (window f k a) h = h.0.bound

  point_same : (b t : ℕ) → Alike 0 (cell_at M b) (cell_at N b) → point o (cell_at N b) t ≡ point o (cell_at M b) t
  unfolding point
  point_same b t h = rw (past_cong (view (cell_at N b)) (view (cell_at M b)) t (λ p l. h.held p (omega arith)))

  stops_same : (e : Eqn) → Seen e o M N → (t : ℕ) → o.bound ≤ t → stops e o (cell_at N (arg_a e)) (cell_at N (arg_b e)) t ≡ stops e o (cell_at M (arg_a e)) (cell_at M (arg_b e)) t
  stops_same input h t l = refl
  stops_same nil h t l = refl
  stops_same unit h t l = refl
  stops_same (one f a) h t l = refl
  stops_same (two g a b) h t l = refl
  stops_same (last a b) h t l = rw (h.1.0.held t (omega arith), h.0.bound)
  stops_same (delay a b) h t l = rw (point_same b t h.1.0, h.0.bound)
  stops_same (signal c a b) h t l = refl
  stops_same (window f k a) h t l = refl

  gives_same : (e : Eqn) → Seen e o M N → (t : ℕ) → o.bound ≤ t → gives e o (cell_at N (arg_a e)) (cell_at N (arg_b e)) t ≡ gives e o (cell_at M (arg_a e)) (cell_at M (arg_b e)) t
  gives_same input h t l = refl
  gives_same nil h t l = refl
  gives_same unit h t l = refl
  gives_same (one f a) h t l = rw (h.0.held t l)
  gives_same (two g a b) h t l = rw (h.0.held t l, h.1.0.held t l)
  gives_same (last a b) h t l = rw (h.1.0.held t (omega arith), latest_cong (view (cell_at N a)) (view (cell_at M a)) t (λ p m. h.0.held p (omega arith)))
  gives_same (delay a b) h t l = rw (point_same b t h.1.0, h.0.held (pred (point o (cell_at M b) t)) (omega arith))
  gives_same (signal c a b) h t l =
      rw (h.0.held t (omega arith), h.1.0.held t (omega arith), latest_cong (view (cell_at N a)) (view (cell_at M a)) (suc t) (λ p m. h.0.held p (omega arith)), latest_cong (view (cell_at N b)) (view (cell_at M b)) (suc t) (λ p m. h.1.0.held p (omega arith)))
  gives_same (window f k a) h t l =
      ap₂ (λ (x : Option ℤ) (es : List Event). window_at_lem f x (latest_of (width k) (o.passed.window ++ values es))) (h.0.held t l)
      (from_cong (view (cell_at N a)) (view (cell_at M a)) o.bound (suc t) (λ p m i. h.0.held p m))

  -- so a move finds the same
  module _ (e : Eqn) (h : Seen e o M N) where
    abbrev a : State → Cell
    a X = cell_at X (arg_a e)

    abbrev b : State → Cell
    b X = cell_at X (arg_b e)

    reach_same : reach e o (a N) (b N) ≡ reach e o (a M) (b M)
    unfolding reach
    reach_same = rw (limit_same e h) (least_cong (stops e o (a N) (b N)) (stops e o (a M) (b M)) o.bound (limit e o (a M) (b M) - o.bound) (stops_same e h))

    first_same : first e o (a N) (b N) ≡ first e o (a M) (b M)
    unfolding first
    first_same = rw reach_same (least_cong (λ t. has (gives e o (a N) (b N) t)) (λ t. has (gives e o (a M) (b M) t)) o.bound (reach e o (a M) (b M) - o.bound) (λ t l. ap has (gives_same e h t l)))

    decide_same : decide e o (a N) (b N) ≡ decide e o (a M) (b M)
    unfolding decide
    decide_same = rw (first_same, reach_same, gives_same e h (first e o (a M) (b M)) (first_ge e o (a M) (b M)))

-- ---- the cells after a step

-- what an equation keeps stays if it does not read s
kept_same : (e : Eqn) (s y t : ℕ) (v : ℤ) (k : Kept) → reads_it s e ≡ false → kept_told e s y t v k ≡ k
kept_same input s y t v k h = refl
kept_same nil s y t v k h = refl
kept_same unit s y t v k h = refl
kept_same (one f a) s y t v k h = refl
kept_same (two g a b) s y t v k h = refl
kept_same (last a b) s y t v k h = rw (or_none_l (eqb a s) (eqb b s) h)
kept_same (delay a b) s y t v k h = rw (or_none_l (eqb a s) (eqb b s) h, or_none_r (eqb a s) (eqb b s) h)
kept_same (signal c a b) s y t v k h = refl
kept_same (window f n a) s y t v k h = refl

told_same : (s t : ℕ) (v : ℤ) (c : Cell) → reads_it s c.eqn ≡ false → told s t v c ≡ c
unfolding told
told_same s t v c h = rw (kept_same c.eqn s c.bound t v c.kept h) (go (ltb t c.bound))
  where
    go : (b : Bool) → with_kept (cond b c.kept c.kept) c ≡ c
    go true = refl
    go false = refl

tell_same : (s : ℕ) (es : List Event) (M : State) (i : ℕ) → reads_it s (cell_at M i).eqn ≡ false → cell_at (tell s es M) i ≡ cell_at M i
unfolding tell
tell_same s [] M i h = refl
tell_same s (e ∷ es) M i h = told_at s e.stamp e.value M i ∙ told_same s e.stamp e.value (cell_at M i) h

-- no stream is told events of its own
tell_held : (s : ℕ) (es : List Event) (M : State) (i : ℕ) → (cell_at (tell s es M) i).held ≡ (cell_at M i).held
unfolding tell told
tell_held s [] M i = refl
tell_held s (e ∷ es) M i = ap (λ c. c.held) (told_at s e.stamp e.value M i)

absorbed_same : (s : ℕ) (M : State) (i : ℕ) → (i ≡ s → ⊥) → cell_at (absorbed s M) i ≡ cell_at M i
unfolding absorbed
absorbed_same s M i n = let o = cell_at M s in get_or-set_other M s i (with_kept (absorb o.eqn o (cell_at M (arg_a o.eqn)) (cell_at M (arg_b o.eqn))) o) absent n

write_same : (s y : ℕ) (new : List Event) (M : State) (i : ℕ) → (i ≡ s → ⊥) → cell_at (write s y new M) i ≡ cell_at M i
unfolding write
write_same s y new M i n =
    let up = advance y new (passes s y M) (cell_at M s) in
    absorbed_same s (set M s up) i n ∙ get_or-set_other M s i up absent n

module _ (s y : ℕ) (new : List Event) (M : State) (i : ℕ) (other : i ≡ s → ⊥) where
  -- before the release
  abbrev told_of : State
  told_of = tell s new (write s y new M)

  -- it is one of those that may let events go
  abbrev lets : Bool
  lets = among i (s ∷ reads (cell_at M s).eqn)

  lets_none : reads_it i (cell_at M s).eqn ≡ false → lets ≡ false
  lets_none h = rw (ne_eqb i s other) (false_is (among i (reads (cell_at M s).eqn)) (not_T (among i (reads (cell_at M s).eqn)) (λ x. absurd (rw h at (among_read i (cell_at M s).eqn x)))))

  raise_at : cell_at (raise s y new M) i ≡ with_held (cond lets (drop_below (least_waiting i told_of) (cell_at told_of i).held) (cell_at told_of i).held) (cell_at told_of i)
  unfolding raise
  raise_at = releases_at (s ∷ reads (cell_at M s).eqn) told_of i

  -- a stream that neither reads s nor is its argument
  raise_same : reads_it s (cell_at M i).eqn ≡ false → reads_it i (cell_at M s).eqn ≡ false → cell_at (raise s y new M) i ≡ cell_at M i
  raise_same h k = raise_at ∙ rw (lets_none k) (tell_same s new (write s y new M) i (rw w h) ∙ w)
    where
      w : cell_at (write s y new M) i ≡ cell_at M i
      w = write_same s y new M i other

  -- any other: some of its held events may go
  raise_held : (cell_at (raise s y new M) i).held ≡ cond lets (drop_below (least_waiting i told_of) (cell_at M i).held) (cell_at M i).held
  raise_held =
      ap (λ c. c.held) raise_at
      ∙ ap (λ h. cond lets (drop_below (least_waiting i told_of) h) h) (tell_held s new (write s y new M) i ∙ ap (λ c. c.held) (write_same s y new M i other))

-- ---- the theorem

one_read : (x : ℕ) (l : List ℕ) (f : Eqn) → T (among x l) → T (reads_it x f) → T (reads_one l f)
one_read x [] f m h = m
one_read x (a ∷ l) f m h = go (T-or (eqb x a) (among x l) m) (λ k. one_read x l f k h)
  where
    go : T (eqb x a) ⊎ T (among x l) → (T (among x l) → T (reads_one l f)) → T (reads_it a f || reads_one l f)
    go (inl q) ih = T-or-l (reads_it a f) (reads_one l f) (rw (eqb→eq x a q) at h)
    go (inr q) ih = T-or-r (reads_it a f) (reads_one l f) (ih q)

module _ (s j : ℕ) (M : State) (there : s < length M) (other : j ≡ s → ⊥) (un : touches s (cell_at M s).eqn j (cell_at M j).eqn ≡ false) where
  abbrev e : Eqn
  e = (cell_at M s).eqn

  abbrev f : Eqn
  f = (cell_at M j).eqn

  no_reader : reads_it s f ≡ false
  unfolding touches
  no_reader = or_none_l (reads_it s f) _ un

  no_argument : reads_it j e ≡ false
  unfolding touches
  no_argument = or_none_l (reads_it j e) _ (or_none_r (reads_it s f) _ un)

  no_keeper : (keeps f && reads_one (reads e) f) ≡ false
  unfolding touches
  no_keeper = or_none_r (reads_it j e) _ (or_none_r (reads_it s f) _ un)

  module _ (y : ℕ) (new : List Event) where
    own : cell_at (raise s y new M) j ≡ cell_at M j
    own = raise_same s y new M j other no_reader no_argument

    not_s : (x : ℕ) → T (reads_it x f) → x ≡ s → ⊥
    not_s x h q = rw (q, no_reader) at h

    -- j waits for what it looks at
    waits : (x : ℕ) → T (reads_it x f) → least_waiting x (tell s new (write s y new M)) ≤ (cell_at M j).bound
    waits x h =
        let w = write_same s y new M j other in
        let p : cell_at (tell s new (write s y new M)) j ≡ cell_at M j = tell_same s new (write s y new M) j (rw w no_reader) ∙ w in
        rw p at (waiting_le_reader x (tell s new (write s y new M)) j (rw p h))

    alike : (x : ℕ) → T (reads_it x f) → Alike (down_to f (cell_at M j).bound) (cell_at M x) (cell_at (raise s y new M) x)
    alike x h = record {
      bound = raise_bound s y new M there (λ i b. (i ≡ s → ⊥) → b ≡ (cell_at M i).bound) (λ i n m. refl) (λ m. absurd (m refl)) x (not_s x h);
      held = λ t l. ap (λ es. found es t) (raise_held s y new M x (not_s x h)) ∙ go t l (look (lets s y new M x (not_s x h)));
    }
      where
        w : ℕ
        w = least_waiting x (tell s new (write s y new M))

        -- an argument of s: j looks at no event that goes
        below : (k : Bool) → (k && reads_one (reads e) f) ≡ false → T (reads_one (reads e) f) → (t : ℕ) → cond k 0 (cell_at M j).bound ≤ t → w ≤ t
        below true q r t l = absurd (rw q at r)
        below false q r t l = let z = waits x h in omega arith

        go : (t : ℕ) → down_to f (cell_at M j).bound ≤ t → Is (lets s y new M x (not_s x h)) → found (cond (lets s y new M x (not_s x h)) (drop_below w (cell_at M x).held) (cell_at M x).held) t ≡ found (cell_at M x).held t
        go t l (no! q z) = rw q
        go t l (yes! q z) = rw q (found_drop w (cell_at M x).held t (below (keeps f) no_keeper (one_read x (reads e) f (rest (eqb x s) (among x (reads e)) (ne_eqb x s (not_s x h)) z) h) t l))
          where
            rest : (a b : Bool) → a ≡ false → T (a || b) → T b
            rest true b q t = absurd (true≢false q)
            rest false b q t = t

    seen : Seen f (cell_at M j) M (raise s y new M)
    seen = each_map alike (reads f) (each_read f)

    can_same : can_move j (raise s y new M) ≡ can_move j M
    unfolding can_move ahead
    can_same = ap (λ o. can o (raise s y new M)) own ∙ ap (λ d. not (is_input f) && not (eqb (new_bound d (cell_at M j).held) (cell_at M j).bound)) (decide_same (cell_at M j) M (raise s y new M) f seen)
      where
        can : Cell → State → Bool
        can o N = not (is_input o.eqn) && not (eqb (new_bound (decide o.eqn o (cell_at N (arg_a o.eqn)) (cell_at N (arg_b o.eqn))) o.held) o.bound)

  -- a stream that the move does not touch can move after it just where it could before
  pub untouched_same : can_move j (move s M) ≡ can_move j M
  unfolding move
  untouched_same = can_same (new_bound (ahead s M) (cell_at M s).held) (comes_in s M)

-- ---- the test, by the first and the second argument of both, 0 where there is none

reads_none : (s : ℕ) (f : Eqn) → (arg_a f ≡ s → ⊥) → (arg_b f ≡ s → ⊥) → reads_it s f ≡ false
reads_none s input p q = refl
reads_none s nil p q = refl
reads_none s unit p q = refl
reads_none s (one g a) p q = ne_eqb a s p
reads_none s (two g a b) p q = rw (ne_eqb a s p) (ne_eqb b s q)
reads_none s (last a b) p q = rw (ne_eqb a s p) (ne_eqb b s q)
reads_none s (delay a b) p q = rw (ne_eqb a s p) (ne_eqb b s q)
reads_none s (signal c a b) p q = rw (ne_eqb a s p) (ne_eqb b s q)
reads_none s (window g k a) p q = ne_eqb a s p

-- two equations with no argument in common
pub record Apart (e f : Eqn) : Type 0 where
  pub aa : arg_a f ≡ arg_a e → ⊥
  pub ab : arg_a f ≡ arg_b e → ⊥
  pub ba : arg_b f ≡ arg_a e → ⊥
  pub bb : arg_b f ≡ arg_b e → ⊥

apart_reads : (e f : Eqn) → Apart e f → reads_one (reads e) f ≡ false
apart_reads input f h = refl
apart_reads nil f h = refl
apart_reads unit f h = refl
apart_reads (one g a) f h = rw (reads_none a f h.aa h.ba)
apart_reads (two g a b) f h = rw (reads_none a f h.aa h.ba, reads_none b f h.ab h.bb)
apart_reads (last a b) f h = rw (reads_none a f h.aa h.ba, reads_none b f h.ab h.bb)
apart_reads (delay a b) f h = rw (reads_none a f h.aa h.ba, reads_none b f h.ab h.bb)
apart_reads (signal c a b) f h = rw (reads_none a f h.aa h.ba, reads_none b f h.ab h.bb)
apart_reads (window g k a) f h = rw (reads_none a f h.aa h.ba)

pub untouched_by : (s j : ℕ) (e f : Eqn) → (arg_a f ≡ s → ⊥) → (arg_b f ≡ s → ⊥) → (arg_a e ≡ j → ⊥) → (arg_b e ≡ j → ⊥) → (keeps f ≡ false) ⊎ Apart e f → touches s e j f ≡ false
unfolding touches
untouched_by s j e f p q u v h = rw (reads_none s f p q, reads_none j e u v) (go h)
  where
    go : (keeps f ≡ false) ⊎ Apart e f → (keeps f && reads_one (reads e) f) ≡ false
    go (inl k) = rw k
    go (inr k) = rw (apart_reads e f k) (and-false (keeps f))

-- ---- the search

move_eqn : (s : ℕ) (M : State) → s < length M → (i : ℕ) → (cell_at (move s M) i).eqn ≡ (cell_at M i).eqn
unfolding move
move_eqn s M l i = raise_eqn s (new_bound (ahead s M) (cell_at M s).held) (comes_in s M) M l i

-- after a move of the lowest that could, only what it touches can move before it
pub move_still : (M : State) → lowest M < length M → Still (lowest M) (move (lowest M) M)
unfolding lowest
move_still M l j k h =
    untouched_same (lowest M) j M l (λ q. omega arith) (ap₂ (λ (x y : Eqn). touches (lowest M) x j y) (sym (move_eqn (lowest M) M l (lowest M))) (sym (move_eqn (lowest M) M l j)) ∙ h)
    ∙ false_is (can_move j M) (least_before (λ s. can_move s M) 0 (length M) j (omega arith) k)

-- nothing lies before the first
pub none_still : (M : State) → Still 0 M
none_still M j k h = absurd (omega arith)
