-- Every call brings a replay nearer to rest.
use Prim.Native.Nat.{ℕ, suc, ◌+◌, ◌*◌, ◌-◌, ◌<◌, ◌≤◌}
use mathlib.Core.Path.{◌≡◌, refl, sym, ap}
use mathlib.Core.Bool.{Bool, true, false, true≢false}
use mathlib.Core.Logic.{◌⊎◌, inl, inr}
use mathlib.Core.List.{List}
use native.Mathlib.Omega.{arith}
use native.Mathlib.Nat.{mul-le-mul_right}
use native.Mathlib.Decide.{dec_lt, ℕ_discrete}
use Rattle.le.specs.Bytes.{Bytes}
use Rattle.machine.specs.Calls.{running, collecting}
use Rattle.calls.specs.Reply.{reply}
use Rattle.calls.proofs.Answers.{reply_none}
use Rattle.resting.specs.Left.{left}
use Rattle.resting.proofs.Bytes.{run_left, collect_left}
use Rattle.replaying.specs.declared.Place.{Place}
use Rattle.replaying.specs.declared.Place.TheVariants.{Run, Collect, Rest}
use Rattle.replaying.specs.declared.Stand.{Stand}
use Rattle.replaying.specs.Replay.{all_moves, next_output, round_after, to_output, ran, collected, step, Turned}
use Rattle.replaying.specs.Rank.{is_rest, more, calls_left, calls_all, rank}
use Rattle.replaying.proofs.Bytes.{Fine, reply_fine, collect_same}
use Rattle.replaying.proofs.Outputs.{next_ge}
use Rattle.replaying.proofs.Steps.{ran_rest, ran_moved, to_next_lem, to_last, collected_event, collected_none, collected_state, ran_state}

-- a step leaves what its call leaves
pub step_fine : (n : ℕ) (p : Place) (s : List ℕ) → (is_rest p ≡ true → Fine s) → Fine (step n p s).state
unfolding step
step_fine n Run s f = rw (ran_state n (reply (running all_moves) s)).0 (reply_fine (running all_moves) s)
step_fine n (Collect i busy) s f = rw (collected_state n i busy (reply (collecting i) s)) (reply_fine (collecting i) s)
step_fine n Rest s f = f refl

-- on the way to the next output fewer calls are left
to_fewer : (n from : ℕ) (busy : Bool) (s : List ℕ) → calls_left n (to_output n from busy s) < 1 + (n + 1 - from) + more n busy
to_fewer n from busy s = go (dec_lt (next_output n from s) n)
  where
    round : (b : Bool) → calls_left n (round_after b) < 1 + (n + 1 - from) + more n b
    round true = omega arith
    round false = omega arith

    go : Dec (next_output n from s < n) → calls_left n (to_output n from busy s) < 1 + (n + 1 - from) + more n busy
    go (yes h) = rw (sym (to_next_lem n from busy s h)) (omega (arith, next_ge n from s))
    go (no h) = rw (sym (to_last n from busy s (omega arith))) (round busy)

-- less is lacking, or the same and fewer calls are left
lower : (w l l' c c' : ℕ) → l' < l → c' < w → l' * w + c' < l * w + c
lower w l l' c c' h k =
    let m : suc l' * w ≤ l * w = mul-le-mul_right w h in
    let e : suc l' * w ≡ w + l' * w = omega arith in
    omega arith

same : (w l l' c c' : ℕ) → l' ≤ l → c' < c → l' * w + c' < l * w + c
same w l l' c c' h k =
    let m : l' * w ≤ l * w = mul-le-mul_right w h in
    omega arith

module _ (n : ℕ) (s : List ℕ) (f : Fine s) where
  run_less : left (reply (running all_moves) s).buffer + (reply (running all_moves) s).moves ≤ left s
  run_less = go f
    where
      go : Fine s → left (reply (running all_moves) s).buffer + (reply (running all_moves) s).moves ≤ left s
      go (inl b) = run_left s b all_moves
      go (inr e) = rw (reply_none (running all_moves) s e) (omega arith)

  collect_less : (i : ℕ) → (reply (collecting i) s).number ≡ 0 → left (reply (collecting i) s).buffer < left s
  collect_less i = go f
    where
      go : Fine s → (reply (collecting i) s).number ≡ 0 → left (reply (collecting i) s).buffer < left s
      go (inl b) = collect_left s b i
      go (inr e) = rw (reply_none (collecting i) s e) (λ z. absurd (omega arith))

  run_falls : rank n (ran n (reply (running all_moves) s)).place (ran n (reply (running all_moves) s)).state < rank n Run s
  run_falls = go (dec_lt (reply (running all_moves) s).moves all_moves)
    where
      h : left (reply (running all_moves) s).buffer + (reply (running all_moves) s).moves ≤ left s
      h = run_less

      go : Dec ((reply (running all_moves) s).moves < all_moves) → rank n (ran n (reply (running all_moves) s)).place (ran n (reply (running all_moves) s)).state < rank n Run s
      go (yes l) =
          rw (ran_rest n (reply (running all_moves) s) l)
          (same (calls_all n) (left s) (left (reply (running all_moves) s).buffer) (n + 2) (calls_left n (to_output n 0 false (reply (running all_moves) s).buffer)) (omega (arith, h)) (omega (arith, to_fewer n 0 false (reply (running all_moves) s).buffer)))
      go (no l) =
          rw (ran_moved n (reply (running all_moves) s) (omega arith))
          (lower (calls_all n) (left s) (left (reply (running all_moves) s).buffer) (n + 2) (n + 2) (omega (arith, h, l)) (omega arith))

  collect_falls : (i : ℕ) (busy : Bool) → rank n (collected n i busy (reply (collecting i) s)).place (collected n i busy (reply (collecting i) s)).state < rank n (Collect i busy) s
  collect_falls i busy = go (ℕ_discrete (reply (collecting i) s).number 0)
    where
      go : Dec ((reply (collecting i) s).number ≡ 0) → rank n (collected n i busy (reply (collecting i) s)).place (collected n i busy (reply (collecting i) s)).state < rank n (Collect i busy) s
      go (yes e) = rw (collected_event n i busy (reply (collecting i) s) e) (lower (calls_all n) (left s) (left (reply (collecting i) s).buffer) (1 + (n - i) + more n busy) (1 + (n - i) + (n + 2)) (collect_less i e) (omega arith))
      go (no e) =
          let h = ap left (collect_same s f i e) in
          rw (collected_none n i busy (reply (collecting i) s) e)
          (same (calls_all n) (left s) (left (reply (collecting i) s).buffer) (1 + (n - i) + more n busy) (calls_left n (to_output n (i + 1) busy (reply (collecting i) s).buffer)) (omega (arith, h)) (omega (arith, to_fewer n (i + 1) busy (reply (collecting i) s).buffer)))

  pub step_falls : (p : Place) → is_rest p ≡ false → rank n (step n p s).place (step n p s).state < rank n p s
  unfolding step
  step_falls Run e = run_falls
  step_falls (Collect i busy) e = collect_falls i busy
  step_falls Rest e = absurd (true≢false e)

pub turn_nearer : (n : ℕ) (q : Place) (t : List ℕ) → Bytes t → is_rest q ≡ false → {o : List ℕ} {end : ℕ} {r : Stand} {o' t' : List ℕ} → Turned (step n q t) o end r o' t' → rank n r.place t' < rank n q t
turn_nearer n q t b e x = rw (x.place, x.state) (step_falls n t (inl b) q e)

-- ## A loop of turns: nothing was done yet, or the replay is nearer to rest

pub began : {A B : Type 0} → A ⊎ B → (B → ⊥) → A
began (inl a) n = a
began (inr b) n = absurd (n b)

pub further : (n : ℕ) {p q : Place} {s t : List ℕ} {end m : ℕ} → (rank n q t < rank n p s) ⊎ ((end ≡ 0) × (q ≡ p) × (t ≡ s)) → m < rank n q t → m < rank n p s
further n (inl h) k = omega arith
further n (inr h) k = rw (sym h.1, sym h.2) k
