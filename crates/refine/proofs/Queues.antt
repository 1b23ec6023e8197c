-- Events appended and let go: the slots of a cell's record are those of its held events.
use Prim.Native.Nat.{ℕ, zero, suc, ◌+◌, ◌-◌, ◌<◌, ◌≤◌, min}
use mathlib.Core.Path.{◌≡◌, refl, sym, ap, ap₂, ◌∙◌}
use mathlib.Core.List.{List, [], ◌∷◌, ◌++◌, map, append-nil, append_assoc}
use mathlib.Core.Bool.{Bool, true, false, cond}
use native.Mathlib.Omega.{arith}
use native.Mathlib.Nat.{sub-zero}
use lib.ListN.{length, set, take, drop, replicate, length-append, length-map, take-append-drop, replicate-append-replicate}
use lib.Dec.{ltb}
use lib.IntN.{ℤ}
use mir.Syntax.{w64}
use mir.Val.{of_z}
use borrow.Author.Tests.{lt-ltb}
use Rattle.meaning.specs.Events.{Event, ev}
use Rattle.machine.specs.State.{Cell, room, with_held, with_next, with_bound}
use Rattle.machine.specs.Step.{advance, drop_below}
use Rattle.layout.specs.Record.{Slot, Raw, no_slot, with_num, shifted, count_f, bound_f, next_f}
use Rattle.encoding.specs.View.{slot_of, pad_to, of_cell}
use Rattle.queue.specs.Queue.{pushed, below, released}

-- ---- a number of the head

pub bound_of : (y : ℕ) (c : Cell) → with_num bound_f y (of_cell c) ≡ of_cell (with_bound y c)
unfolding of_cell
bound_of y c = refl

pub next_of : (n : ℕ) (c : Cell) → with_num next_f n (of_cell c) ≡ of_cell (with_next n c)
unfolding of_cell
next_of n c = refl

-- a silent step writes the bound alone
pub silent_is : (y : ℕ) (c : Cell) → advance y [] c.passed c ≡ with_bound y c
silent_is y c = ap (λ (l : List Event). with_held l (with_bound y c)) (append-nil c.held)

-- ---- an event appended

pad_set : {A : Type 0} (n : ℕ) (d e : A) (l : List A) → length l < n → set (pad_to n d l) (length l) e ≡ pad_to n d (l ++ e ∷ [])
unfolding pad_to
pad_set zero d e l h = absurd (omega arith)
pad_set (suc n) d e [] h = refl
pad_set (suc n) d e (a ∷ l) h = ap (◌∷◌ a) (pad_set n d e l (omega arith))

map_snoc : {A B : Type 0} (f : A → B) (l : List A) (e : A) → map f (l ++ e ∷ []) ≡ map f l ++ f e ∷ []
map_snoc f [] e = refl
map_snoc f (a ∷ l) e = ap (◌∷◌ (f a)) (map_snoc f l e)

-- a record with another count and other slots
abbrev counted : Raw → ℕ → List Slot → Raw
counted r n l = record { nums = set r.nums count_f n; slots = l }

pub push_of : (t : ℕ) (v : ℤ) (c : Cell) → length c.held < room → pushed t (of_z w64 v) (of_cell c) ≡ of_cell (advance (t + 1) (ev t v ∷ []) c.passed c)
unfolding pushed of_cell
push_of t v c h =
    let l = c.held in
    let n : length l + 1 ≡ length (l ++ ev t v ∷ []) = sym (length-append l (ev t v ∷ [])) in
    let e : Slot = slot_of (ev t v) in
    let lm : length (map slot_of l) ≡ length l = length-map l slot_of in
    let sl : set (pad_to room no_slot (map slot_of l)) (length l) e ≡ pad_to room no_slot (map slot_of (l ++ ev t v ∷ [])) =
    ap (λ (j : ℕ). set (pad_to room no_slot (map slot_of l)) j e) (sym lm) ∙ pad_set room no_slot e (map slot_of l) (omega arith)
    ∙ ap (pad_to room no_slot) (sym (map_snoc slot_of l (ev t v))) in
    let base = of_cell (with_bound (t + 1) c) in
    rw (lt-ltb (length l) room h) (ap₂ (counted base) n sl)

-- ---- events let go

pad_snoc : {A : Type 0} (n : ℕ) (d : A) (l : List A) → length l ≤ n → pad_to n d l ++ d ∷ [] ≡ pad_to (suc n) d l
unfolding pad_to
pad_snoc zero d [] h = refl
pad_snoc zero d (a ∷ l) h = absurd (omega arith)
pad_snoc (suc n) d [] h = ap (◌∷◌ d) (pad_snoc n d [] (omega arith))
pad_snoc (suc n) d (a ∷ l) h = ap (◌∷◌ a) (pad_snoc n d l (omega arith))

last_zero : (k : ℕ) → replicate (suc k) no_slot ≡ replicate k no_slot ++ no_slot ∷ []
last_zero zero = refl
last_zero (suc k) = ap (◌∷◌ no_slot) (last_zero k)

abbrev padded : ℕ → List Event → List Slot
padded n l = pad_to n no_slot (map slot_of l)

-- how many go
abbrev gone : ℕ → ℕ → List Event → ℕ
gone w n l = below w (length l) (padded n l)

gone_nil : (w n : ℕ) → gone w n [] ≡ 0
unfolding below
gone_nil w n = refl

drop_nil : (w : ℕ) → drop_below w [] ≡ []
unfolding drop_below
drop_nil w = refl

gone_cons : (w n : ℕ) (e : Event) (l : List Event) → gone w (suc n) (e ∷ l) ≡ cond (ltb e.stamp w) (suc (gone w n l)) 0
unfolding below pad_to
gone_cons w n e l = refl

drop_cons : (w : ℕ) (e : Event) (l : List Event) → drop_below w (e ∷ l) ≡ cond (ltb e.stamp w) (drop_below w l) (e ∷ l)
unfolding drop_below
drop_cons w e l = refl

padded_cons : (n : ℕ) (e : Event) (l : List Event) → padded (suc n) (e ∷ l) ≡ slot_of e ∷ padded n l
unfolding pad_to
padded_cons n e l = refl

counts : (w n : ℕ) (l : List Event) → length l ≤ n → gone w n l + length (drop_below w l) ≡ length l
counts w n [] h = rw (gone_nil w n, drop_nil w)
counts w zero (e ∷ l) h = absurd (omega arith)
counts w (suc n) (e ∷ l) h = go (ltb e.stamp w) refl (counts w n l (omega arith))
  where
    go : (b : Bool) → ltb e.stamp w ≡ b → gone w n l + length (drop_below w l) ≡ length l → gone w (suc n) (e ∷ l) + length (drop_below w (e ∷ l)) ≡ suc (length l)
    go true q i = rw (gone_cons w n e l, drop_cons w e l, q) (omega arith)
    go false q i = rw (gone_cons w n e l, drop_cons w e l, q) (omega arith)

pad_none : (n : ℕ) → pad_to n no_slot [] ≡ replicate n no_slot
unfolding pad_to
pad_none zero = refl
pad_none (suc n) = ap (◌∷◌ no_slot) (pad_none n)

-- the slots behind the held events are free
free : (n : ℕ) (l : List Event) → length l ≤ n → drop (length l) (padded n l) ≡ replicate (n - length l) no_slot
free n [] h = pad_none n ∙ ap (λ (j : ℕ). replicate j no_slot) (sym (sub-zero n))
free zero (e ∷ l) h = absurd (omega arith)
free (suc n) (e ∷ l) h =
    let q : suc n - suc (length l) ≡ n - length l = omega arith in
    ap (drop (suc (length l))) (padded_cons n e l) ∙ free n l (omega arith) ∙ ap (λ (j : ℕ). replicate j no_slot) (sym q)

leaves : (w n : ℕ) (l : List Event) → length l ≤ n → shifted (gone w n l) (length l) (padded n l) ≡ padded n (drop_below w l)
leaves w n [] h = rw (gone_nil w n, drop_nil w)
leaves w zero (e ∷ l) h = absurd (omega arith)
leaves w (suc n) (e ∷ l) h = go (ltb e.stamp w) refl (leaves w n l (omega arith))
  where
    go : (b : Bool) → ltb e.stamp w ≡ b → shifted (gone w n l) (length l) (padded n l) ≡ padded n (drop_below w l)
        → shifted (gone w (suc n) (e ∷ l)) (suc (length l)) (padded (suc n) (e ∷ l)) ≡ padded (suc n) (drop_below w (e ∷ l))
    go true q i =
        let k = gone w n l in
        let m = length l in
        let c : length (map slot_of (drop_below w l)) ≤ n = rw (length-map (drop_below w l) slot_of) (omega (arith, counts w n l (omega arith))) in
        let x = drop k (take m (padded n l)) in
        let zs : replicate k no_slot ++ drop m (padded n l) ≡ replicate (k + (n - m)) no_slot =
        ap (λ (z : List Slot). replicate k no_slot ++ z) (free n l (omega arith)) ∙ replicate-append-replicate k (n - m) no_slot in
        rw (gone_cons w n e l, drop_cons w e l, q, padded_cons n e l)
        (ap (λ (z : List Slot). x ++ no_slot ∷ z) zs
        ∙ ap (λ (z : List Slot). x ++ z) (last_zero (k + (n - m)))
        ∙ ap (λ (z : List Slot). x ++ (z ++ no_slot ∷ [])) (sym zs)
        ∙ sym (append_assoc x (replicate k no_slot ++ drop m (padded n l)) (no_slot ∷ []))
        ∙ ap (λ (z : List Slot). z ++ no_slot ∷ []) i
        ∙ pad_snoc n no_slot (map slot_of (drop_below w l)) c)
    go false q i = rw (gone_cons w n e l, drop_cons w e l, q) (take-append-drop (suc (length l)) (padded (suc n) (e ∷ l)))

pub release_of : (w : ℕ) (c : Cell) → length c.held ≤ room → released w (of_cell c) ≡ of_cell (with_held (drop_below w c.held) c)
unfolding released of_cell
release_of w c h =
    let l = c.held in
    let m : min (length l) room ≡ length l = omega arith in
    let k = counts w room l h in
    let n : length l - gone w room l ≡ length (drop_below w l) = omega arith in
    rw m (ap₂ (counted (of_cell c)) n (leaves w room l h))
