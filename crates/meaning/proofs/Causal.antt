-- What the table reads: readings and undelayed arguments at the stamp itself, and everything before it.
use mathlib.Core.Path.{◌≡◌, refl, ap}
use mathlib.Core.Bool.{Bool, ◌&&◌}
use Prim.Native.Nat.{ℕ, zero, suc, ◌<◌}
use native.Mathlib.Nat.{lt-suc_self}
use native.Mathlib.Omega.{arith}
use lib.Dec.{T, ltb}
use Rattle.meaning.specs.Plan.{Eqn, input, nil, unit, one, two, last, delay, signal, window, is_input}
use Rattle.meaning.specs.Arguments.{undelayed, Each}
use Rattle.meaning.specs.Events.{Stream, Streams, has, events}
use Rattle.meaning.specs.Table.{latest, any_below, fires, delay_at, at}

-- two streams agree below t
abbrev pub SameBelow : ℕ → Stream → Stream → Type 0
SameBelow t a b = (p : ℕ) → p < t → a p ≡ b p

pub latest_cong : (a b : Stream) (t : ℕ) → SameBelow t a b → latest a t ≡ latest b t
unfolding latest
latest_cong a b zero h = refl
latest_cong a b (suc t) h = rw (h t (lt-suc_self t), latest_cong a b t (λ p l. h p (omega arith)))

pub any_cong : (t : ℕ) (f g : ℕ → Bool) → ((p : ℕ) → p < t → f p ≡ g p) → any_below t f ≡ any_below t g
unfolding any_below
any_cong zero f g h = refl
any_cong (suc t) f g h = rw (h t (lt-suc_self t), any_cong t f g (λ p l. h p (omega arith)))

-- streams that agree below t have the same events there
pub events_cong : (f g : Stream) (t : ℕ) → SameBelow t f g → events f t ≡ events g t
events_cong f g zero h = refl
events_cong f g (suc t) h = rw (h t (lt-suc_self t), events_cong f g t (λ p l. h p (omega arith)))

pub fires_cong : (a b d a' b' d' : Stream) (t : ℕ) → SameBelow t a a' → SameBelow t b b' → SameBelow t d d'
    → fires a b d t ≡ fires a' b' d' t
unfolding fires
fires_cong a b d a' b' d' t ha hb hd =
    any_cong t _ _ λ p l. rw (ha p l, hb p l, hd p l, any_cong t (λ q. ltb p q && has (b q)) (λ q. ltb p q && has (b' q)) (λ q m. rw (hb q m)))

pub at_cong : (e : Eqn) (rd rd' S S' : Streams) (s t : ℕ) → (T (is_input e) → rd s t ≡ rd' s t)
    → Each (λ a. S a t ≡ S' a t) (undelayed e) → ((a : ℕ) → SameBelow t (S a) (S' a))
    → at e rd S s t ≡ at e rd' S' s t
unfolding at
at_cong input rd rd' S S' s t r now past = r tt
at_cong nil rd rd' S S' s t r now past = refl
at_cong unit rd rd' S S' s t r now past = refl
at_cong (one f a) rd rd' S S' s t r now past = rw now.0
at_cong (two g a b) rd rd' S S' s t r now past = rw (now.0, now.1.0)
at_cong (last a b) rd rd' S S' s t r now past = rw (now.0, latest_cong (S a) (S' a) t (past a))
at_cong (delay a b) rd rd' S S' s t r now past =
    ap delay_at (fires_cong (S a) (S b) (S s) (S' a) (S' b) (S' s) t (past a) (past b) (past s))
at_cong (signal c a b) rd rd' S S' s t r now past =
    rw (now.0, now.1.0, latest_cong (S a) (S' a) t (past a), latest_cong (S b) (S' b) t (past b))
at_cong (window f k a) rd rd' S S' s t r now past = rw (now.0, events_cong (S a) (S' a) t (past a))
