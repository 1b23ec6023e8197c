-- A card without a plan: the text of no bytes leaves zeros, and what every call on zeros answers.
use Prim.Native.Nat.{ℕ, zero, suc, ◌<◌}
use mathlib.Core.Path.{◌≡◌, refl, sym, ap, ◌∙◌}
use mathlib.Core.Bool.{Bool, true, false, true≢false}
use mathlib.Core.List.{List, [], ◌∷◌}
use native.Mathlib.Omega.{arith}
use lib.ListN.{length, get_or}
use borrow.Author.Tests.{lt-ltb, le-ltb}
use Rattle.machine.specs.State.{Declared, loaded}
use Rattle.machine.specs.Reach.{least}
use Rattle.machine.specs.Calls.{Call, reading, progress, moving, running, collecting, Outcome, refused, unless, offer_reading, offer_progress, no_equation, move_one, lowest, run, collect, call, no_counts, missing}
use Rattle.operators.specs.Limits.{capacity}
use Rattle.plan.specs.Rules.{declared}
use Rattle.plan.proofs.Taken.{taken_rendered}
use Rattle.plan.proofs.Empty.{empty_taken, empty_alone}
use Rattle.encoding.specs.View.{bytes_of}
use Rattle.valid.specs.Valid.{count, valid}
use Rattle.roundtrip.proofs.Empty.{none_sound, none_bytes, zeros_alone_lem}
use Rattle.roundtrip.proofs.Whole.{bytes_count}
use Rattle.roundtrip.proofs.In.{bytes_are, bytes_in}
use Rattle.counts.specs.Missing.{missing_reply}
use Rattle.counts.proofs.Cases.{reply_state}
use Rattle.load.proofs.Taken.{many}
use Rattle.load.proofs.Fresh.{loaded_sound}
use Rattle.calls.specs.Reply.{Reply, plain, reply_of, not_state, reply}
use Rattle.engine.specs.Load.{load_reply}
use Rattle.histories.specs.NoPlan.{zeros, answer, NoPlan}
use Rattle.calls.proofs.Answers.{reply_machine, reply_none}
use Rattle.engine.proofs.Loads.{load_done}

stopped : (b : Bool) (n : ℕ) (o : Outcome) → b ≡ true → unless b n [] o ≡ refused n []
stopped true n o e = refl
stopped false n o e = absurd (true≢false (sym e))

no_equation_lem : (s : ℕ) → no_equation s [] ≡ true
no_equation_lem s = rw (le-ltb s 0 (omega arith))

-- on the machine
answered : (c : Call) → call c [] ≡ refused (answer c) []
unfolding call offer_reading offer_progress move_one lowest least run collect
answered (reading s t v) = refl
answered (progress s y) = refl
answered (moving s) = stopped (no_equation s []) 11 _ (no_equation_lem s)
answered (running zero) = refl
answered (running (suc n)) = refl
answered (collecting s) = refl

nobody : (i : ℕ) → missing i [] ≡ no_counts 11
unfolding missing
nobody i = rw (le-ltb i 0 (omega arith))

no_loaded : loaded [] ≡ []
unfolding loaded
no_loaded = refl

module _ (size : ℕ) (l : 0 < capacity size) where
  loaded_zeros : (s : List ℕ) → length s ≡ size → load_reply [] s ≡ plain 0 (zeros size)
  unfolding load_reply
  loaded_zeros s e =
      let t = empty_taken (capacity size) in
      rw (e, lt-ltb 0 (capacity size) l, t.0, t.1) (ap (plain 0) (ap (bytes_of size) no_loaded ∙ none_bytes size l))

  one_text : (text s : List ℕ) → length s ≡ size → load_reply text s ≡ plain 0 (zeros size) → text ≡ []
  one_text text s e q =
      let d = load_done text s (ap (λ (r : Reply). r.number) q) in
      let cap = capacity (length s) in
      let ds = declared cap text in
      let ok = loaded_sound d.2 ds (taken_rendered cap text d.0).1 in
      let left : bytes_of (length s) (loaded ds) ≡ bytes_of size [] = sym d.1 ∙ ap (λ (r : Reply). r.buffer) q ∙ sym (none_bytes size l) in
      let none : length ds ≡ 0 = sym (many ds) ∙ sym (bytes_count (length s) (loaded ds) ok) ∙ ap count left ∙ bytes_count size [] (none_sound l) in
      empty_alone cap text d.0 (nothing ds none)
    where
      nothing : (ds : List Declared) → length ds ≡ 0 → ds ≡ []
      nothing [] h = refl
      nothing (d ∷ ds) h = absurd (omega arith)

  zeros_answer : (c : Call) → reply c (zeros size) ≡ plain (answer c) (zeros size)
  zeros_answer c =
      reply_machine size c [] (zeros size) (none_sound l) (sym (none_bytes size l))
      ∙ ap (reply_of size) (answered c) ∙ ap (plain (answer c)) (none_bytes size l)

  zeros_counts : (i : ℕ) → missing_reply i (zeros size) ≡ no_counts 11
  zeros_counts i =
      let z = sym (none_bytes size l) in
      reply_state i (zeros size) (bytes_are size [] (zeros size) 0 (none_sound l) refl z).is_valid ∙ ap (missing i) (bytes_in size [] (zeros size) (none_sound l) z) ∙ nobody i

  others_15 : (c : Call) (s : List ℕ) → length s ≡ size → get_or s 0 0 ≡ 0 → (s ≡ zeros size → ⊥) → reply c s ≡ not_state s
  others_15 c s e z n = reply_none c s (by (valid s) refl)
    where
      by : (x : Bool) → valid s ≡ x → valid s ≡ false
      by true v = absurd (n (zeros_alone_lem s v z ∙ ap zeros e))
      by false v = v

  pub no_plan : NoPlan size
  no_plan = record { loads = loaded_zeros; text_alone = one_text; answers = zeros_answer; counts = zeros_counts; zeros_alone = others_15 }
