-- Valid bytes read as a state, and a sound state's bytes.
use Prim.Native.Nat.{ℕ, ◌+◌, ◌*◌, ◌≤◌}
use mathlib.Core.Path.{◌≡◌, refl, sym, ap, ◌∙◌}
use mathlib.Core.Bool.{Bool, true, false, cond}
use mathlib.Core.List.{List}
use Rattle.std.specs.Prelude.{None, Some}
use native.Mathlib.Omega.{arith}
use lib.ListN.{length}
use Rattle.machine.specs.State.{State}
use Rattle.operators.specs.Limits.{capacity}
use Rattle.operators.proofs.Sizes.{capacity_area}
use Rattle.le.specs.Bytes.{Bytes}
use Rattle.layout.specs.Record.{decode}
use Rattle.layout.specs.Windows.{area_length}
use Rattle.encoding.specs.View.{raws_of, bytes_of}
use Rattle.encoding.specs.Back.{state_of}
use Rattle.encoding.specs.Sound.{Sound}
use Rattle.valid.specs.Valid.{count, valid, tested}
use Rattle.valid.proofs.Link.{count_few, count_fits}
use Rattle.roundtrip.specs.In.{state_in, IsState}
use Rattle.encoding.proofs.Cells.{state_length_lem}
use Rattle.roundtrip.proofs.Whole.{decoded, valid_bytes, valid_sound, bytes_valid, bytes_count, bytes_state}

-- what the test of number 15 answers
pub tested_state : (s : List ℕ) (n : ℕ) → Some n ≡ tested s → IsState s n
unfolding tested
tested_state s n = go (valid s) refl
  where
    go : (b : Bool) → valid s ≡ b → Some n ≡ cond b (Some (count s)) None → IsState s n
    go true v e = record { is_valid = v; streams = cc }
    go false v e = let z : ◌≡◌ {A = ℕ} 0 1 = cc in absurd (omega arith)

pub tested_none : (s : List ℕ) → None ≡ tested s → valid s ≡ false
unfolding tested
tested_none s = go (valid s) refl
  where
    go : (b : Bool) → valid s ≡ b → None ≡ cond b (Some (count s)) None → valid s ≡ false
    go true v e = let z : ◌≡◌ {A = ℕ} 0 1 = cc in absurd (omega arith)
    go false v e = v

pub bytes_are : (size : ℕ) (M : State) (s : List ℕ) (n : ℕ) → Sound (capacity size) M → n ≡ length M → s ≡ bytes_of size M → IsState s n
bytes_are size M s n ok l e = record { is_valid = ap valid e ∙ bytes_valid size M ok; streams = l ∙ sym (ap count e ∙ bytes_count size M ok) }

pub bytes_in : (size : ℕ) (M : State) (s : List ℕ) → Sound (capacity size) M → s ≡ bytes_of size M → state_in s ≡ M
bytes_in size M s ok e = ap state_in e ∙ ap (λ (k : ℕ). state_of k (bytes_of size M)) (bytes_count size M ok) ∙ bytes_state size M ok

module _ (s : List ℕ) (b : Bytes s) (n : ℕ) (h : IsState s n) where
  pub sound : Sound (capacity (length s)) (state_in s)
  sound = valid_sound s b h.is_valid

  pub streams : n ≡ length (state_in s)
  streams = h.streams ∙ sym (state_length_lem (count s) s)

  pub raws : decode n s ≡ raws_of (length s) (state_in s)
  raws = ap (λ (m : ℕ). decode m s) h.streams ∙ decoded s b h.is_valid

  pub stays : s ≡ bytes_of (length s) (state_in s)
  stays = valid_bytes s b h.is_valid

  pub few : n ≤ capacity (length s)
  few = rw h.streams (count_few s)

  pub room_for : n * 256 ≤ length s
  room_for = rw h.streams (count_fits s)

  -- and behind the records there is room for the windows
  pub area_for_lem : n * 256 + area_length ≤ length s
  area_for_lem = let c = capacity_area (length s) sound.size in let f = few in omega arith
