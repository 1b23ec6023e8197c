-- The state at rest does not depend on the order of moves.
-- Let Z be a state where no equation can move, and X one that is nowhere ahead of it, both of the same run but for moves.
-- Then no move takes X ahead of Z: suppose one would take stream s past its bound z in Z. Below z the solution is silent
-- there, so what X sees at z, Z sees; Z's reach is above z, and as s cannot move there it is full in Z and an event lies at
-- z. X adds that event, so s is not full in X; but X holds at least what Z holds, for X's readers are nowhere ahead.
-- So two ways to rest from one state end with equal bounds, and bounds and marks determine the state.
use mathlib.Core.Path.{◌≡◌, refl, sym, ◌∙◌, ap}
use mathlib.Core.Bool.{Bool, true, false, not, cond, ◌&&◌}
use Rattle.std.specs.Prelude.{None, Some}
use mathlib.Core.List.{List}
use Prim.Native.Nat.{ℕ, suc, ◌≤◌, ◌<◌}
use native.Mathlib.Omega.{arith}
use native.Mathlib.Decide.{dec_lt}
use lib.Dec.{T, leb, ltb, leb→le, nleb→lt, ltb→lt, nltb→le, lt→ltb, T_not, not_T}
use lib.ListN.{length}
use lib.Seq.{ext_get_or}
use lib.IntN.{ℤ}
use Rattle.meaning.specs.Plan.{Eqn, input, nil, unit, one, two, last, delay, signal, window}
use Rattle.meaning.specs.Arguments.{reads, Each, arg_a, arg_b}
use Rattle.meaning.specs.Events.{Event, Streams, events, has, horizon}
use Rattle.meaning.specs.Table.{Solves}
use Rattle.meaning.proofs.Tests.{Is, yes!, no!, look, T_and, T-and-l, T-and-r}
use Rattle.machine.specs.State.{Declared, Kept, Passed, Cell, State, absent, cell_at, room, declared_plan}
use Rattle.machine.specs.Reach.{view, limit, point, stops, Next}
use Rattle.machine.specs.Step.{least_waiting, ahead, new_bound, can_move, comes_in, move}
use Rattle.machine.proofs.Window.{seen_has}
use Rattle.machine.proofs.Rising.{events_flat, drop_fewer}
use Rattle.machine.proofs.Release.{Frame, frame_waiting, waiting_grows}
use Rattle.machine.proofs.Frame.{raise_next, raise_bound}
use Rattle.machine.proofs.Moves.{reach_of, reach_gt, goal, can_equation, can_of, no_input_lem, goal_ge}
use Rattle.runs.specs.Inside.{cut, known_in}
use Rattle.runs.proofs.Kept.{kept_of, kept_cong}
use Rattle.runs.proofs.Tracks.{cut_yes, Tracks}
use Rattle.runs.proofs.Decide.{Finds, nothing, something, finds_le, floor, floor_read, shows_now, arg_at, point_is, in_reach}
use Rattle.runs.proofs.World.{Shape}
use Rattle.runs.proofs.Move.{row, equation_finds, move_raise, move_tracks, move_shape}

-- ---- bounds and marks determine the state

cell_ext : (c d : Cell) → c.eqn ≡ d.eqn → c.out ≡ d.out → c.bound ≡ d.bound → c.held ≡ d.held → c.next ≡ d.next → c.kept ≡ d.kept → c.passed ≡ d.passed → c ≡ d
cell_ext c d e o b h n k w = cell
  where
    of : Eqn → Bool → ℕ → List Event → ℕ → Kept → Passed → Cell
    of e o b h n k w = record { eqn = e; out = o; bound = b; held = h; next = n; kept = k; passed = w }

    cell : of c.eqn c.out c.bound c.held c.next c.kept c.passed ≡ of d.eqn d.out d.bound d.held d.next d.kept d.passed
    cell = rw (e, o, b, h, n, k, w)

pub determined : (S : Streams) (A B : State) → Tracks S A → Tracks S B → Frame A B → B ≡ A
determined S A B a b f = ext_get_or absent B A f.size (λ i l. cell_ext (cell_at B i) (cell_at A i) (f.eqns i) (f.outs i) (f.bounds i) (held i) (f.nexts i) (kept i) (passed i))
  where
    held : (i : ℕ) → (cell_at B i).held ≡ (cell_at A i).held
    held i = b.held i ∙ rw (frame_waiting i A B f, f.bounds i) (sym (a.held i))

    kept : (i : ℕ) → (cell_at B i).kept ≡ (cell_at A i).kept
    kept i =
        b.kept i ∙ rw (f.eqns i, f.bounds i) (kept_cong (cell_at A i).eqn (known_in S B) (known_in S A) i (cell_at A i).bound (λ j p l. ap (λ k. cut (S j) k p) (f.bounds j))) ∙ sym (a.kept i)

    passed : (i : ℕ) → (cell_at B i).passed ≡ (cell_at A i).passed
    passed i = b.passed i ∙ rw (f.eqns i, f.bounds i) (sym (a.passed i))

-- ---- a state that is nowhere ahead of another, with the same marks

pub record Behind (X Z : State) : Type 0 where
  pub bounds : (i : ℕ) → (cell_at X i).bound ≤ (cell_at Z i).bound
  pub marks : (i : ℕ) → (cell_at X i).next ≡ (cell_at Z i).next

abbrev pub Stuck : State → Type 0
Stuck Z = (s : ℕ) → s < length Z → T (not (can_move s Z))

module _ (ds : List Declared) (rd S : Streams) (sol : Solves (declared_plan ds) rd S horizon) where
  module _ (X Z : State) (of-x : Shape ds X) (of-z : Shape ds Z) (x : Tracks S X) (z : Tracks S Z) (behind : Behind X Z) (stuck : Stuck Z)
      (s : ℕ) (there : s < length X) (can : T (can_move s X)) where
    abbrev top : ℕ
    top = (cell_at Z s).bound

    same_eqn : (i : ℕ) → (cell_at Z i).eqn ≡ (cell_at X i).eqn
    same_eqn i = of-z.eqns i ∙ sym (of-x.eqns i)

    is_equation : (cell_at X s).eqn ≡ input → ⊥
    is_equation = no_input_lem (cell_at X s).eqn (can_equation s X can)

    finds_x : Finds (S s) (cell_at X s).bound (reach_of s X) (ahead s X)
    finds_x = equation_finds ds rd S sol X of-x x s is_equation

    finds_z : Finds (S s) (cell_at Z s).bound (reach_of s Z) (ahead s Z)
    finds_z = equation_finds ds rd S sol Z of-z z s (rw (same_eqn s) is_equation)

    limit_grows : (e : Eqn) → (e ≡ input → ⊥) → limit e (cell_at X s) (cell_at X (arg_a e)) (cell_at X (arg_b e)) ≤ limit e (cell_at Z s) (cell_at Z (arg_a e)) (cell_at Z (arg_b e))
    limit_grows input n = absurd (n refl)
    limit_grows nil n = omega arith
    limit_grows unit n = omega arith
    limit_grows (one f a) n = behind.bounds a
    limit_grows (two g a b) n = let p = behind.bounds a in let q = behind.bounds b in omega arith
    limit_grows (last a b) n = behind.bounds b
    limit_grows (delay a b) n = let q = behind.bounds b in omega arith
    limit_grows (signal c a b) n = let p = behind.bounds a in let q = behind.bounds b in omega arith
    limit_grows (window f k a) n = behind.bounds a

    module _ (past : top < goal s X) where
      -- what X finds lies at top or later
      quiet_before : (p : ℕ) → (cell_at X s).bound ≤ p → p < top → S s p ≡ None
      quiet_before = go (ahead s X) finds_x refl
        where
          go : (n : Next) → Finds (S s) (cell_at X s).bound (reach_of s X) n → new_bound n (cell_at X s).held ≡ goal s X → (p : ℕ) → (cell_at X s).bound ≤ p → p < top → S s p ≡ None
          go n (nothing l q) e p i j = q p i (omega arith)
          go n (something {t} {v} l m q k) e p i j = q p i (at (leb room (length (cell_at X s).held)) e)
            where
              at : (b : Bool) → cond b t (suc t) ≡ goal s X → p < t
              at true e = omega arith
              at false e = omega arith

      -- nothing stops s at top in Z
      no_stop : (e : Eqn) → Each (λ i. floor S X x i ≤ (cell_at X s).bound) (reads e) → Each (λ i. floor S Z z i ≤ (cell_at Z s).bound) (reads e)
          → (cell_at X s).kept ≡ kept_of e (known_in S X) s (cell_at X s).bound → (cell_at Z s).kept ≡ kept_of e (known_in S Z) s (cell_at Z s).bound
          → top < limit e (cell_at X s) (cell_at X (arg_a e)) (cell_at X (arg_b e)) → T (not (stops e (cell_at X s) (cell_at X (arg_a e)) (cell_at X (arg_b e)) top))
          → T (not (stops e (cell_at Z s) (cell_at Z (arg_a e)) (cell_at Z (arg_b e)) top))
      no_stop input lx lz kx kz l n = tt
      no_stop nil lx lz kx kz l n = tt
      no_stop unit lx lz kx kz l n = tt
      no_stop (one f a) lx lz kx kz l n = tt
      no_stop (two g a b) lx lz kx kz l n = tt
      no_stop (last a b) lx lz kx kz l n =
          not_T (has (view (cell_at Z b) top) && ltb (cell_at Z a).bound top) (λ h.
          let u = behind.bounds a in let w = behind.bounds s in
          let here = seen_has (known_in S Z b) (view (cell_at Z b)) (floor S Z z b) (shows_now S Z z b) top (T-and-l (has (view (cell_at Z b) top)) (ltb (cell_at Z a).bound top) h) in
          let c = behind.bounds b in
          let is : T (has (S b top)) = rw (cut_yes (S b) (cell_at Z b).bound top (omega arith)) at here in
          let seen : T (has (view (cell_at X b) top)) = rw (arg_at S X x rd s b top lx.1.0 w l) is in
          let v = ltb→lt (cell_at Z a).bound top (T-and-r (has (view (cell_at Z b) top)) (ltb (cell_at Z a).bound top) h) in
          T_not (has (view (cell_at X b) top) && ltb (cell_at X a).bound top) n
          (T_and (has (view (cell_at X b) top)) (ltb (cell_at X a).bound top) seen (lt→ltb (cell_at X a).bound top (omega arith))))
      no_stop (delay a b) lx lz kx kz l n =
          let u = behind.bounds a in let w = behind.bounds s in let c = behind.bounds b in
          let px = point_is S X x rd s a b top lx.0 lx.1.0 kx w (omega arith) quiet_before in
          let pz = point_is S Z z rd s a b top lz.0 lz.1.0 kz (omega arith) (omega arith) (λ p i j. absurd (omega arith)) in
          let m = nltb→le (cell_at X a).bound (point (cell_at X s) (cell_at X b) top) n in
          not_T (ltb (cell_at Z a).bound (point (cell_at Z s) (cell_at Z b) top)) (λ h.
          let v = ltb→lt (cell_at Z a).bound (point (cell_at Z s) (cell_at Z b) top) h in absurd (omega arith))
      no_stop (signal c a b) lx lz kx kz l n = tt
      no_stop (window f k a) lx lz kx kz l n = tt

      far_z : top < reach_of s Z
      far_z =
          let e = (cell_at X s).eqn in
          let low = finds_le finds_x (cell_at X s).held in
          let r = in_reach S X x rd s (row ds rd S sol X of-x x s) is_equation top (behind.bounds s) (omega arith) in
          let g = limit_grows e is_equation in
          let k = r.0 in
          let n = no_stop e (floor_read S X x s) (rw (same_eqn s) at (floor_read S Z z s)) (x.kept s) (rw (same_eqn s) at (z.kept s)) r.0 r.1 in
          rw (same_eqn s) (reach_gt e (cell_at Z s) (cell_at Z (arg_a e)) (cell_at Z (arg_b e)) (omega arith) n)

      stays : goal s Z ≤ top
      stays = go (dec_lt top (goal s Z))
        where
          go : Dec (top < goal s Z) → goal s Z ≤ top
          go (no d) = omega arith
          go (yes d) =
              absurd (T_not (can_move s Z) (stuck s (let a = of-x.size in let b = of-z.size in omega arith)) (can_of s Z (rw (same_eqn s) (can_equation s X can)) d))

      -- so s is full in Z, and an event waits at top
      full_z : T (leb room (length (cell_at Z s).held)) × ((v : ℤ) × (S s top ≡ Some v))
      full_z = go (ahead s Z) finds_z refl
        where
          go : (n : Next) → Finds (S s) top (reach_of s Z) n → new_bound n (cell_at Z s).held ≡ goal s Z → T (leb room (length (cell_at Z s).held)) × ((v : ℤ) × (S s top ≡ Some v))
          go n (nothing l q) e = let a = stays in let b = far_z in absurd (omega arith)
          go n (something {t} {v} l m q k) e = at (look (leb room (length (cell_at Z s).held)))
            where
              at : Is (leb room (length (cell_at Z s).held)) → T (leb room (length (cell_at Z s).held)) × ((v : ℤ) × (S s top ≡ Some v))
              at (yes! i h) =
                  let a = stays in
                  let f : t ≡ goal s Z = rw i at e in
                  let g : t ≡ top = omega arith in
                  (h, (v, rw g at k))
              at (no! i h) =
                  let a = stays in
                  let f : suc t ≡ goal s Z = rw i at e in
                  absurd (omega arith)

      -- and not in X, which adds that event
      room_x : T (not (leb room (length (cell_at X s).held)))
      room_x = go (ahead s X) finds_x refl
        where
          here : S s top ≡ None → ⊥
          here e = let k = full_z.1.1 in let w : ◌≡◌ {A = ℕ} 0 1 = cc in omega arith

          go : (n : Next) → Finds (S s) (cell_at X s).bound (reach_of s X) n → new_bound n (cell_at X s).held ≡ goal s X → T (not (leb room (length (cell_at X s).held)))
          go n (nothing l q) e = absurd (here (q top (behind.bounds s) (omega arith)))
          go n (something {t} {v} l m q k) e = at (look (leb room (length (cell_at X s).held)))
            where
              at : Is (leb room (length (cell_at X s).held)) → T (not (leb room (length (cell_at X s).held)))
              at (yes! i h) = let f : t ≡ goal s X = rw i at e in absurd (here (q top (behind.bounds s) (omega arith)))
              at (no! i h) = h

      -- but X holds at least as much
      holds_more : length (cell_at Z s).held ≤ length (cell_at X s).held
      holds_more =
          let g = waiting_grows s X Z (record { eqns = same_eqn; outs = of-z.outs s ∙ sym (of-x.outs s); bounds = λ r h. behind.bounds r; marks = let e = behind.marks s in omega arith }) in
          rw (x.held s, z.held s, events_flat (S s) (cell_at X s).bound top (behind.bounds s) quiet_before) (drop_fewer (least_waiting s X) (least_waiting s Z) (events (S s) (cell_at X s).bound) g)

      absurdity : ⊥
      absurdity =
          let a = leb→le room (length (cell_at Z s).held) full_z.0 in
          let b = nleb→lt room (length (cell_at X s).held) room_x in
          let c = holds_more in
          omega arith

    pub not_past : goal s X ≤ (cell_at Z s).bound
    not_past = go (dec_lt (cell_at Z s).bound (goal s X))
      where
        go : Dec ((cell_at Z s).bound < goal s X) → goal s X ≤ (cell_at Z s).bound
        go (yes d) = absurd (absurdity d)
        go (no d) = omega arith

-- ---- moves, one after the other

pub data Moves : State → State → Type 0 where
  none_more : {M : State} → Moves M M
  then_more : {M N : State} (s : ℕ) → s < length M → T (can_move s M) → Moves (move s M) N → Moves M N

-- a move changes no mark and lets no bound fall
module _ (s : ℕ) (M : State) (there : s < length M) where
  move_marks : (i : ℕ) → (cell_at (move s M) i).next ≡ (cell_at M i).next
  move_marks i = rw (move_raise s M) (raise_next s (goal s M) (comes_in s M) M there i)

  move_bounds : (P : ℕ → ℕ → Type 0) → ((i : ℕ) → (i ≡ s → ⊥) → P i (cell_at M i).bound) → P s (goal s M) → (i : ℕ) → P i (cell_at (move s M) i).bound
  move_bounds P other this i = rw (move_raise s M) (raise_bound s (goal s M) (comes_in s M) M there P other this i)

pub moves_behind : {M N : State} → Moves M N → Behind M N
moves_behind none_more = record { bounds = λ i. omega arith; marks = λ i. refl }
moves_behind {M} (then_more s l c m) =
    let r = moves_behind m in
    record {
      bounds = λ i. let a = move_bounds s M l (λ i b. (cell_at M i).bound ≤ b) (λ i n. omega arith) (goal_ge s M) i in let b = r.bounds i in omega arith;
      marks = λ i. sym (move_marks s M l i) ∙ r.marks i;
    }

module _ (ds : List Declared) (rd S : Streams) (sol : Solves (declared_plan ds) rd S horizon) where
  pub moves_shape : {M N : State} → Moves M N → Shape ds M → Tracks S M → Shape ds N
  moves_shape none_more h t = h
  moves_shape {M} (then_more s l c m) h t = moves_shape m (move_shape ds rd S sol M h t s l c) (move_tracks ds rd S sol M h t s l c)

  pub moves_tracks : {M N : State} → Moves M N → Shape ds M → Tracks S M → Tracks S N
  moves_tracks none_more h t = t
  moves_tracks {M} (then_more s l c m) h t = moves_tracks m (move_shape ds rd S sol M h t s l c) (move_tracks ds rd S sol M h t s l c)

  -- no list of moves goes ahead of a state where none can be made
  moves_under : {M N : State} (Z : State) → Shape ds Z → Tracks S Z → Stuck Z → Moves M N → Shape ds M → Tracks S M → Behind M Z → Behind N Z
  moves_under Z of-z z stuck none_more h t b = b
  moves_under {M} Z of-z z stuck (then_more s l c m) h t b =
      moves_under Z of-z z stuck m (move_shape ds rd S sol M h t s l c) (move_tracks ds rd S sol M h t s l c) (record {
        bounds = move_bounds s M l (λ i x. x ≤ (cell_at Z i).bound) (λ i n. b.bounds i) (not_past ds rd S sol M Z h of-z t z b stuck s l c);
        marks = λ i. move_marks s M l i ∙ b.marks i;
      })

  -- two ways to rest end in one state
  pub same_rest : {M A B : State} → Shape ds M → Tracks S M → Moves M A → Moves M B → Stuck A → Stuck B → A ≡ B
  same_rest {M} {A} {B} h t a b stuck-a stuck-b =
      let ha = moves_shape a h t in let ta = moves_tracks a h t in
      let hb = moves_shape b h t in let tb = moves_tracks b h t in
      let ab = moves_under B hb tb stuck-b a h t (moves_behind b) in
      let ba = moves_under A ha ta stuck-a b h t (moves_behind a) in
      determined S B A tb ta (record {
        size = ha.size ∙ sym hb.size;
        eqns = λ i. ha.eqns i ∙ sym (hb.eqns i);
        outs = λ i. ha.outs i ∙ sym (hb.outs i);
        bounds = λ i. let p = ab.bounds i in let q = ba.bounds i in omega arith;
        nexts = ab.marks;
      })
