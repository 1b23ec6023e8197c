-- What it says of an operator that it is no window: its equation is the one that is counted, and nothing slides.
use Prim.Native.Nat.{ℕ, ◌*◌, ◌≤◌}
use mathlib.Core.Path.{◌≡◌, refl, sym}
use mathlib.Core.Bool.{false}
use mathlib.Core.List.{List, [], ◌∷◌}
use lib.ListN.{length}
use types.Run.{OneOf, miss}
use denote.Enum.Declared.{tag_of}
use Rattle.operators.specs.Windows.{is_window_eqn}
use Rattle.le.specs.Bytes.{Bytes}
use Rattle.layout.specs.Record.{encode, decode}
use Rattle.layout.proofs.Laws.{encode_decode}
use Rattle.streams.specs.declared.Op.{Op}
use Rattle.streams.specs.declared.Op.TheVariants.{In, Nil, Unit, One, Two, Last, Delay, Signal, Window}
use Rattle.streams.specs.contracts.Op.{the_type}
use Rattle.streams.specs.Look.{equation, plain}
use Rattle.passing.specs.Pass.{slid_raw}

-- the places of the variants but the last
abbrev others : List ℕ
others = 0 ∷ 1 ∷ 2 ∷ 3 ∷ 4 ∷ 5 ∷ 6 ∷ 7 ∷ []

abbrev pub Other : Op → Type 0
Other o = OneOf (0 ∷ 1 ∷ 2 ∷ 3 ∷ 4 ∷ 5 ∷ 6 ∷ 7 ∷ []) (tag_of the_type o)

pub no_window : (o : Op) → Other o → is_window_eqn (equation o) ≡ false
no_window In h = refl
no_window Nil h = refl
no_window Unit h = refl
no_window (One f a) h = refl
no_window (Two g a b) h = refl
no_window (Last a b) h = refl
no_window (Delay a b) h = refl
no_window (Signal g a b) h = refl
no_window (Window f k a) h = absurd (miss others 8 tt h)

pub plain_is : (o : Op) → Other o → plain o ≡ equation o
plain_is In h = refl
plain_is Nil h = refl
plain_is Unit h = refl
plain_is (One f a) h = refl
plain_is (Two g a b) h = refl
plain_is (Last a b) h = refl
plain_is (Delay a b) h = refl
plain_is (Signal g a b) h = refl
plain_is (Window f k a) h = absurd (miss others 8 tt h)

pub slid_other : (n i : ℕ) (o : Op) (y x : ℕ) (s : List ℕ) → Other o → n * 256 ≤ length s → Bytes s → s ≡ encode n (slid_raw n i (equation o) y x (decode n s))
unfolding slid_raw
slid_other n i o y x s h l b = rw (no_window o h) (sym (encode_decode n s l b))
