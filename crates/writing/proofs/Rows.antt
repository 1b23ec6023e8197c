-- The lines of a state's records are the text of its plan.
use Prim.Native.Nat.{ℕ, suc, ◌*◌, ◌<◌, ◌≤◌}
use mathlib.Core.Path.{◌≡◌, refl, sym, ap, ap₂, ◌∙◌}
use mathlib.Core.Bool.{Bool, true, false}
use mathlib.Core.List.{List, [], ◌∷◌, ◌++◌, map}
use native.Mathlib.Omega.{arith}
use lib.Dec.{eqb}
use lib.ListN.{length, length-map}
use Rattle.le.specs.Bytes.{Bytes}
use Rattle.layout.specs.Record.{Raws}
use Rattle.machine.specs.State.{Cell, State, declares, declared_in, cell_at}
use Rattle.operators.specs.Limits.{capacity}
use Rattle.encoding.specs.View.{flag, of_cell, raws_of, bytes_of}
use Rattle.encoding.specs.Sound.{SoundCell, Sound}
use Rattle.encoding.proofs.Widths.{value_back}
use Rattle.encoding.proofs.Cells.{state_length_lem}
use Rattle.render.specs.Render.{declared_text, all_text, opening, render}
use Rattle.valid.specs.Valid.{count}
use Rattle.valid.proofs.Link.{count_fits}
use Rattle.roundtrip.specs.In.{IsState, state_in}
use Rattle.roundtrip.proofs.Whole.{valid_bytes, valid_sound, bytes_decoded}
use Rattle.writing.specs.Text.{text_in}
use Rattle.writing.specs.Rows.{row_text, rows_text, text_of}

flag_back : (b : Bool) → eqb (flag b) 1 ≡ b
flag_back true = refl
flag_back false = refl

cell_text : (n : ℕ) (c : Cell) → SoundCell n c → row_text (of_cell c) ≡ declared_text (declares c)
unfolding row_text of_cell declared_text
cell_text n c h = rw (value_back _ h.value, flag_back c.out)

cells_text : (n : ℕ) (M : State) → ((i : ℕ) → i < length M → SoundCell n (cell_at M i)) → rows_text (map of_cell M) ≡ all_text (declared_in M)
unfolding rows_text all_text
cells_text n [] h = refl
cells_text n (c ∷ M) h = ap₂ ◌++◌ (cell_text n c (h 0 (omega arith))) (cells_text n M (λ i k. h (suc i) (omega arith)))

-- of the bytes of a sound state
bytes_text : (size : ℕ) (M : State) → Sound (capacity size) M → text_of (length M) (bytes_of size M) ≡ render (declared_in M)
unfolding text_of render
bytes_text size M ok =
    ap₂ (λ (n : ℕ) (r : Raws). opening n ++ rows_text r.rows) (sym (length-map M declares)) (bytes_decoded size M ok)
    ∙ (unfold raws_of in ap (λ (l : List ℕ). opening (length (declared_in M)) ++ l) (cells_text (length M) M ok.each))

module _ (s : List ℕ) (b : Bytes s) (n : ℕ) (h : IsState s n) where
  pub text_is : text_of n s ≡ text_in s
  text_is =
      let M = state_in s in
      let e : s ≡ bytes_of (length s) M = valid_bytes s b h.is_valid in
      ap₂ text_of (h.streams ∙ sym (state_length_lem (count s) s)) e ∙ bytes_text (length s) M (valid_sound s b h.is_valid)

  pub text_fits : n * 256 ≤ length s
  text_fits = omega (arith, h.streams, count_fits s)
