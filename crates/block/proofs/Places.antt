-- What lies where in a block that was written to.
use Prim.Native.Nat.{ℕ, suc, ◌+◌, ◌-◌, ◌<◌, ◌≤◌, ◌^◌}
use mathlib.Core.Path.{◌≡◌, refl, sym, ap, ◌∙◌}
use mathlib.Core.Bool.{Bool}
use mathlib.Core.List.{List, [], ◌∷◌, ◌++◌, append_assoc}
use mathlib.Core.Logic.{◌⊎◌, inl, inr}
use native.Mathlib.Omega.{arith}
use lib.IntN.{ℤ}
use lib.ListN.{length, get_or, set, take, drop, length-set, length-take}
use lib.Seq.{sets, get_or-set_same, get_or-set_other, take-set-le, drop-set-lt, drop-set-add, take_at, drop_at, length-sets, sets-eq}
use mir.Syntax.{w64}
use mir.Val.{to_z, of_z, SFits}
use mir.Facts.{Fits-of_z, to_z-of_z}
use Rattle.le.specs.Bytes.{le, enc, part}
use Rattle.le.proofs.Laws.{length_enc, le_enc}
use Rattle.block.specs.Block.{block_length, command_at, status_at, flags_at, flags_in, value_in, reply_stamp_in, filled, raised, ended}

-- ---- runs of bytes

sets_outside : (vs l : List ℕ) (at i : ℕ) → (i < at) ⊎ (at + length vs ≤ i) → get_or (sets l at vs) i 0 ≡ get_or l i 0
sets_outside [] l at i h = refl
sets_outside (v ∷ vs) l at i (inl h) = sets_outside vs (set l at v) (suc at) i (inl (omega arith)) ∙ get_or-set_other l at i v 0 (λ e. omega arith)
sets_outside (v ∷ vs) l at i (inr h) = sets_outside vs (set l at v) (suc at) i (inr (omega arith)) ∙ get_or-set_other l at i v 0 (λ e. omega arith)

part_above : (l : List ℕ) (i v at n : ℕ) → at + n ≤ i → part (set l i v) at n ≡ part l at n
part_above l i v at n h =
    let e : at + (i - at) ≡ i = omega arith in
    ap (λ (m : ℕ). take n (drop at (set l m v))) (sym e) ∙ ap (take n) (drop-set-add at l (i - at) v) ∙ take-set-le n (drop at l) (i - at) v (omega arith)

part_below : (l : List ℕ) (i v at n : ℕ) → i < at → part (set l i v) at n ≡ part l at n
part_below l i v at n h = ap (take n) (drop-set-lt at l i v h)

sets_above : (vs l : List ℕ) (i at n : ℕ) → at + n ≤ i → part (sets l i vs) at n ≡ part l at n
sets_above [] l i at n h = refl
sets_above (v ∷ vs) l i at n h = sets_above vs (set l i v) (suc i) at n (omega arith) ∙ part_above l i v at n h

sets_there : (vs l : List ℕ) (at n : ℕ) → length vs ≡ n → at + n ≤ length l → part (sets l at vs) at n ≡ vs
sets_there vs l at n e h =
    let front : length (take at l) ≡ at = length-take at l ∙ omega arith in
    ap (λ (y : List ℕ). take n (drop at y)) (sets-eq vs l at (omega arith) ∙ append_assoc (take at l) vs (drop (at + length vs) l))
    ∙ ap (take n) (drop_at (take at l) (vs ++ drop (at + length vs) l) at front)
    ∙ take_at vs (drop (at + length vs) l) n e

-- ---- a command or a refused write has ended

module _ (k : ℕ) (w : Bool) (b : List ℕ) where
  pub ended_flags : length b ≡ block_length → flags_in (ended k w b) ≡ raised (flags_in b) k w
  unfolding ended
  ended_flags l = get_or-set_same (set b status_at k) flags_at (raised (flags_in b) k w) 0 (omega (arith, length-set b status_at k))

  pub ended_status : length b ≡ block_length → get_or (ended k w b) status_at 0 ≡ k
  unfolding ended
  ended_status l = get_or-set_other (set b status_at k) flags_at status_at (raised (flags_in b) k w) 0 (λ e. omega arith) ∙ get_or-set_same b status_at k 0 (omega arith)

  pub ended_other : (i : ℕ) → (i ≡ status_at → ⊥) → (i ≡ flags_at → ⊥) → get_or (ended k w b) i 0 ≡ get_or b i 0
  unfolding ended
  ended_other i d e = get_or-set_other (set b status_at k) flags_at i (raised (flags_in b) k w) 0 e ∙ get_or-set_other b status_at i k 0 d

  pub ended_stamp : reply_stamp_in (ended k w b) ≡ reply_stamp_in b
  unfolding ended
  ended_stamp = ap le (part_below (set b status_at k) flags_at (raised (flags_in b) k w) 20 4 (omega arith) ∙ part_below b status_at k 20 4 (omega arith))

  pub ended_value : value_in (ended k w b) ≡ value_in b
  unfolding ended
  ended_value = ap (λ (y : List ℕ). to_z w64 (le y)) (part_above (set b status_at k) flags_at (raised (flags_in b) k w) 8 8 (omega arith) ∙ part_above b status_at k 8 8 (omega arith))

-- ---- the command is stored

module _ (x : ℕ) (b : List ℕ) where
  pub command_stamp : reply_stamp_in (set b command_at x) ≡ reply_stamp_in b
  command_stamp = ap le (part_below b command_at x 20 4 (omega arith))

  pub command_value : value_in (set b command_at x) ≡ value_in b
  command_value = ap (λ (y : List ℕ). to_z w64 (le y)) (part_above b command_at x 8 8 (omega arith))

-- ---- an event is filled in

module _ (t : ℕ) (v : ℤ) (b : List ℕ) where
  pub filled_length : length (filled t v b) ≡ length b
  unfolding filled
  filled_length = length-sets (sets b 8 (enc 8 (of_z w64 v))) 20 (enc 4 t) ∙ length-sets b 8 (enc 8 (of_z w64 v))

  pub filled_flags : flags_in (filled t v b) ≡ flags_in b
  unfolding filled
  filled_flags =
      sets_outside (enc 4 t) (sets b 8 (enc 8 (of_z w64 v))) 20 flags_at (inl (omega arith))
      ∙ sets_outside (enc 8 (of_z w64 v)) b 8 flags_at (inr (omega (arith, length_enc 8 (of_z w64 v))))

  pub filled_stamp : length b ≡ block_length → t < 2 ^ 32 → reply_stamp_in (filled t v b) ≡ t
  unfolding filled
  filled_stamp l h =
      ap le (sets_there (enc 4 t) (sets b 8 (enc 8 (of_z w64 v))) 20 4 (length_enc 4 t) (omega (arith, length-sets b 8 (enc 8 (of_z w64 v)))))
      ∙ le_enc 4 t h

  pub filled_value : length b ≡ block_length → SFits w64 v → value_in (filled t v b) ≡ v
  unfolding filled
  filled_value l h =
      ap (λ (y : List ℕ). to_z w64 (le y)) (sets_above (enc 4 t) (sets b 8 (enc 8 (of_z w64 v))) 20 8 8 (omega arith) ∙ sets_there (enc 8 (of_z w64 v)) b 8 8 (length_enc 8 (of_z w64 v)) (omega arith))
      ∙ ap (to_z w64) (le_enc 8 (of_z w64 v) (Fits-of_z {w = w64} {z = v} h).fits)
      ∙ to_z-of_z h
