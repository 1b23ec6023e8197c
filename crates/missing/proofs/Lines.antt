-- How long the lines are, and that one after another they are the listing.
use Prim.Native.Nat.{ℕ, suc, ◌+◌, ◌-◌, ◌<◌, ◌≤◌}
use mathlib.Core.Path.{◌≡◌, refl}
use mathlib.Core.List.{List, [], ◌++◌}
use native.Mathlib.Omega.{arith}
use borrow.Author.Tests.{eq-eqb, ne_eqb}
use lib.ListN.{length, length-append}
use Rattle.operators.specs.Limits.{most_streams}
use Rattle.decimal.specs.Decimal.{decimal, most_digits}
use Rattle.decimal.specs.Put.{Put}
use Rattle.decimal.proofs.Puts.{put_none, put_then, digits_most}
use Rattle.printer.specs.Print.{stream_key}
use Rattle.counts.specs.Missing.{missing_reply}
use Rattle.missing.specs.Listing.{field, counts_text, counts_room, outside_key, zero_key, listing}

-- ## How long

pub field_length : (key : List ℕ) (n : ℕ) → length (field key n) ≡ length key + length (decimal n)
unfolding field
field_length key n = length-append key (decimal n)

pub field_most : (key : List ℕ) (n : ℕ) → length (field key n) ≤ length key + most_digits
field_most key n = omega (arith, field_length key n, digits_most most_digits n)

pub counts_most : (i o z : ℕ) → length (counts_text i o z) ≤ counts_room
unfolding counts_text
counts_most i o z =
    rw (length-append (field stream_key i), length-append (field outside_key o), length-append (field zero_key z))
    (omega (arith, field_most stream_key i, field_most outside_key o, field_most zero_key z))

-- ## One after another

-- the line of stream i, as the call gives its counts
abbrev pub line_of : ℕ → List ℕ → List ℕ
line_of i state = counts_text i (missing_reply i state).outside (missing_reply i state).divisors

listing_more : (k i : ℕ) (state : List ℕ) → (missing_reply i state).number ≡ 0 → listing (suc k) i state ≡ line_of i state ++ listing k (suc i) state
unfolding listing
listing_more k i state e = rw (eq-eqb (missing_reply i state).number 0 e)

listing_none : (k i : ℕ) (state : List ℕ) → ((missing_reply i state).number ≡ 0 → ⊥) → listing (suc k) i state ≡ []
unfolding listing
listing_none k i state e = rw (ne_eqb (missing_reply i state).number 0 e)

listing_over : (i : ℕ) (state : List ℕ) → listing 0 i state ≡ []
unfolding listing
listing_over i state = refl

-- what is left to do: with the lines of the streams from i on put at a position of the buffer, the whole listing is put
abbrev pub Left : List ℕ → List ℕ → List ℕ → ℕ → ℕ → Type 0
Left l₀ state l end i = (r : ℕ) (m : List ℕ) → Put l end (listing (most_streams - i) i state) r m → Put l₀ 0 (listing most_streams 0 state) r m

module _ (l₀ state l : List ℕ) (end i : ℕ) (x : Left l₀ state l end i) where
  pub left_more : i < most_streams → (missing_reply i state).number ≡ 0 → (m : List ℕ) (next : ℕ) → Put l end (line_of i state) next m → Left l₀ state m next (i + 1)
  left_more h e m next y r n z =
      let k : most_streams - i ≡ suc (most_streams - (i + 1)) = omega arith in
      let j : suc i ≡ i + 1 = omega arith in
      x r n (rw (k, listing_more (most_streams - (i + 1)) i state e, j) (put_then y z))

  pub left_none : i < most_streams → ((missing_reply i state).number ≡ 0 → ⊥) → Put l₀ 0 (listing most_streams 0 state) end l
  left_none h e =
      let k : most_streams - i ≡ suc (most_streams - (i + 1)) = omega arith in
      x end l (rw (k, listing_none (most_streams - (i + 1)) i state e) (put_none l end))

  pub left_over : most_streams ≤ i → Put l₀ 0 (listing most_streams 0 state) end l
  left_over h =
      let k : most_streams - i ≡ 0 = omega arith in
      x end l (rw (k, listing_over i state) (put_none l end))
