-- Runs and collects accept no reading and set no bound, and what is printed of them are the events handed out.
use Prim.Native.Nat.{ℕ}
use mathlib.Core.Path.{◌≡◌, refl, sym, ap, ap₂, ◌∙◌}
use mathlib.Core.Bool.{Bool, true, false, cond, ◌&&◌}
use mathlib.Core.List.{List, [], ◌∷◌, ◌++◌, append_assoc}
use native.Mathlib.Omega.{arith}
use lib.Dec.{eqb}
use borrow.Author.Tests.{eqb-true, eq-eqb}
use Rattle.meaning.specs.Events.{Event, ev}
use Rattle.machine.specs.Calls.{Call, reading, progress, moving, running, collecting}
use Rattle.runs.specs.Seen.{Seen, reading_of, bound_of, is_collect, accepted, known_from, handed}
use Rattle.calls.specs.Reply.{reply, left_by}
use Rattle.histories.specs.Demands.{seen_in}
use Rattle.histories.proofs.Whole.{seen_by}
use Rattle.printer.specs.Print.{event_text}
use Rattle.replaying.specs.Session.{line_in, printed_of, others_of}

-- ## One list after another

pub seen_append : (s : List ℕ) (cs ds : List Call) → seen_by s (cs ++ ds) ≡ seen_by s cs ++ seen_by (left_by s cs) ds
unfolding seen_by left_by
seen_append s [] ds = refl
seen_append s (c ∷ cs) ds = ap (λ (l : List Seen). seen_in c (reply c s) ∷ l) (seen_append (reply c s).buffer cs ds)

pub accepted_append : (i : ℕ) (l m : List Seen) → accepted i (l ++ m) ≡ accepted i l ++ accepted i m
unfolding accepted
accepted_append i [] m = refl
accepted_append i (x ∷ l) m =
    ap (λ (r : List Event). cond (eqb x.number 0) (reading_of i x.made) [] ++ r) (accepted_append i l m)
    ∙ sym (append_assoc (cond (eqb x.number 0) (reading_of i x.made) []) (accepted i l) (accepted i m))

pub known_append : (y i : ℕ) (l m : List Seen) → known_from y i (l ++ m) ≡ known_from (known_from y i l) i m
unfolding known_from
known_append y i [] m = refl
known_append y i (x ∷ l) m = known_append (cond (eqb x.number 0) (bound_of i x.made y) y) i l m

-- ## Runs and collects

same_either : {A : Type 0} (b : Bool) (a : A) → cond b a a ≡ a
same_either true a = refl
same_either false a = refl

pub quiet_accepted : (i : ℕ) (s : List ℕ) (cs : List Call) → others_of cs ≡ [] → accepted i (seen_by s cs) ≡ []
unfolding accepted seen_by others_of
quiet_accepted i s [] e = refl
quiet_accepted i s (reading a t v ∷ cs) e = let z : ◌≡◌ {A = ℕ} 0 1 = cc in absurd (omega arith)
quiet_accepted i s (progress a y ∷ cs) e = let z : ◌≡◌ {A = ℕ} 0 1 = cc in absurd (omega arith)
quiet_accepted i s (moving a ∷ cs) e = let z : ◌≡◌ {A = ℕ} 0 1 = cc in absurd (omega arith)
quiet_accepted i s (running n ∷ cs) e =
    let r = reply (running n) s in
    ap₂ ◌++◌ (same_either {A = List Event} (eqb r.number 0) []) (quiet_accepted i r.buffer cs e)
quiet_accepted i s (collecting a ∷ cs) e =
    let r = reply (collecting a) s in
    ap₂ ◌++◌ (same_either {A = List Event} (eqb r.number 0) []) (quiet_accepted i r.buffer cs e)

pub quiet_known : (y i : ℕ) (s : List ℕ) (cs : List Call) → others_of cs ≡ [] → known_from y i (seen_by s cs) ≡ y
unfolding known_from seen_by others_of
quiet_known y i s [] e = refl
quiet_known y i s (reading a t v ∷ cs) e = let z : ◌≡◌ {A = ℕ} 0 1 = cc in absurd (omega arith)
quiet_known y i s (progress a k ∷ cs) e = let z : ◌≡◌ {A = ℕ} 0 1 = cc in absurd (omega arith)
quiet_known y i s (moving a ∷ cs) e = let z : ◌≡◌ {A = ℕ} 0 1 = cc in absurd (omega arith)
quiet_known y i s (running n ∷ cs) e =
    let r = reply (running n) s in
    ap (λ (k : ℕ). known_from k i (seen_by r.buffer cs)) (same_either {A = ℕ} (eqb r.number 0) y) ∙ quiet_known y i r.buffer cs e
quiet_known y i s (collecting a ∷ cs) e =
    let r = reply (collecting a) s in
    ap (λ (k : ℕ). known_from k i (seen_by r.buffer cs)) (same_either {A = ℕ} (eqb r.number 0) y) ∙ quiet_known y i r.buffer cs e

-- ## What is printed, where stream o is the only output and no offer is refused

module _ (o : ℕ) where
  abbrev pub PlainIn : Call → Seen → Type 0
  PlainIn (reading s t v) x = x.number ≡ 0
  PlainIn (progress s y) x = x.number ≡ 0
  PlainIn (moving s) x = Unit {0}
  PlainIn (running n) x = Unit {0}
  PlainIn (collecting i) x = x.number ≡ 0 → i ≡ o

  abbrev pub AllPlain : List Seen → Type 0
  AllPlain [] = Unit {0}
  AllPlain (x ∷ xs) = PlainIn x.made x × AllPlain xs

  pub plain_append : (l m : List Seen) → AllPlain l → AllPlain m → AllPlain (l ++ m)
  plain_append [] m h k = k
  plain_append (x ∷ l) m h k = (h.0, plain_append l m h.1 k)

  unfoldable pub lines_of : List Event → List ℕ
  lines_of [] = []
  lines_of (e ∷ es) = event_text o e.stamp e.value ++ lines_of es

  self : eqb o o ≡ true
  self = eq-eqb o o refl

  one : (c : Call) (x : Seen) (r : List ℕ) (h : List Event) → PlainIn c x → r ≡ lines_of h → line_in c x ++ r ≡ lines_of (cond (eqb x.number 0 && is_collect o c) (ev x.stamp x.value ∷ h) h)
  one (reading s t v) x r h p e = rw p e
  one (progress s y) x r h p e = rw p e
  one (moving s) x r h p e = by (eqb x.number 0)
    where
      by : (b : Bool) → r ≡ lines_of (cond (b && false) (ev x.stamp x.value ∷ h) h)
      by true = e
      by false = e
  one (running n) x r h p e = by (eqb x.number 0)
    where
      by : (b : Bool) → r ≡ lines_of (cond (b && false) (ev x.stamp x.value ∷ h) h)
      by true = e
      by false = e
  one (collecting i) x r h p e = by (eqb x.number 0) refl
    where
      by : (b : Bool) → eqb x.number 0 ≡ b → cond b (event_text i x.stamp x.value) [] ++ r ≡ lines_of (cond (b && eqb i o) (ev x.stamp x.value ∷ h) h)
      by true q = rw (p (eqb-true x.number 0 q), self) (unfold lines_of in ap (λ (l : List ℕ). event_text o x.stamp x.value ++ l) e)
      by false q = e

  pub printed_handed : (l : List Seen) → AllPlain l → printed_of l ≡ lines_of (handed o l)
  unfolding printed_of handed
  printed_handed [] h = unfold lines_of in refl
  printed_handed (x ∷ l) h = one x.made x (printed_of l) (handed o l) h.0 (printed_handed l h.1)
