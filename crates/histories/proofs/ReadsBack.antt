-- The plan text of any state is taken by load, which leaves the fresh state of the same plan.
use Prim.Native.Nat.{ℕ, ◌<◌, ◌≤◌}
use mathlib.Core.Path.{◌≡◌, refl, sym, ap, ◌∙◌, subst}
use mathlib.Core.Bool.{true}
use mathlib.Core.List.{List, ◌++◌}
use native.Mathlib.Omega.{arith}
use lib.ListN.{length, take, drop}
use lib.Seq.{take_at}
use Rattle.le.specs.Bytes.{Bytes}
use Rattle.machine.specs.State.{Declared, State, declared_in, loaded}
use Rattle.machine.proofs.SamePlan.{loaded_plan}
use Rattle.operators.specs.Limits.{text_limit, capacity}
use Rattle.operators.proofs.Sizes.{capacity_few}
use Rattle.encoding.specs.View.{bytes_of}
use Rattle.encoding.specs.Sound.{Sound}
use Rattle.valid.specs.Valid.{valid}
use Rattle.roundtrip.specs.In.{state_in}
use Rattle.roundtrip.proofs.Whole.{valid_sound}
use Rattle.roundtrip.proofs.In.{bytes_are, bytes_in}
use Rattle.render.specs.Render.{render}
use Rattle.plan.specs.Rules.{number, declared}
use Rattle.plan.specs.Taken.{KeepsRules}
use Rattle.plan.proofs.Rendered.{render_short, render_taken}
use Rattle.load.proofs.Fresh.{loaded_sound}
use Rattle.load.proofs.Plans.{sound_rules}
use Rattle.writing.specs.Text.{TextReply, text_there, given, text_in, plan_text}
use Rattle.writing.proofs.Cases.{given_there, text_state, text_written}
use Rattle.engine.specs.Load.{load_reply}
use Rattle.engine.proofs.Loads.{load_number, load_done}
use Rattle.histories.specs.ReadsBack.{written, Reads, ReadsBack}

-- what was written is the text
written_is : (w b : List ℕ) → written (text_there w b) ≡ w
written_is w b = take_at w (drop (length w) b) (length w) refl

-- a load of the text of a plan that keeps the rules, into a buffer of a length that states have
module _ (ds : List Declared) (t : List ℕ) (l : 0 < capacity (length t)) (k : KeepsRules (capacity (length t)) ds) where
  most : ℕ
  most = capacity (length t)

  taken : (number most (render ds) ≡ 0) × (declared most (render ds) ≡ ds)
  unfolding most
  taken = render_taken (capacity (length t)) (capacity_few (length t)) ds k

  load_taken : (load_reply (render ds) t).number ≡ 0
  unfolding most
  load_taken = sym (load_number (render ds) t (capacity (length t)) refl l 0 (sym taken.0))

  load_fresh : (load_reply (render ds) t).buffer ≡ bytes_of (length t) (loaded ds)
  unfolding most
  load_fresh = (load_done (render ds) t load_taken).1 ∙ ap (λ (x : List Declared). bytes_of (length t) (loaded x)) taken.1

  fresh_sound : Sound (capacity (length t)) (loaded ds)
  fresh_sound = loaded_sound l ds k

  load_same : declared_in (state_in (load_reply (render ds) t).buffer) ≡ ds
  load_same = ap declared_in (bytes_in (length t) (loaded ds) (load_reply (render ds) t).buffer fresh_sound load_fresh) ∙ loaded_plan ds

  load_valid : valid (load_reply (render ds) t).buffer ≡ true
  load_valid = (bytes_are (length t) (loaded ds) (load_reply (render ds) t).buffer (length (loaded ds)) fresh_sound refl load_fresh).is_valid

reads_text : (s t : List ℕ) → Bytes s → valid s ≡ true → length t ≡ length s → Reads s (text_in s) t
reads_text s t b v e =
    let ok = valid_sound s b v in
    let ds = declared_in (state_in s) in
    let l : 0 < capacity (length t) = rw e ok.size in
    let k : KeepsRules (capacity (length t)) ds = rw e (sound_rules (state_in s) ok) in
    record {
      taken = load_taken ds t l k;
      fresh = load_fresh ds t l k ∙ ap (λ (n : ℕ). bytes_of n (loaded ds)) e;
      same = load_same ds t l k;
      again = λ lent. text_state (load_reply (text_in s) t).buffer lent (load_valid ds t l k) ∙ ap (λ (x : List Declared). given (render x) lent) (load_same ds t l k) ∙ sym (text_state s lent v);
    }

-- "Reading that text gives the same plan"
pub reads_back : ReadsBack
reads_back = record {
  reads = λ s lent t b e q.
      let w = text_written s lent e in
      subst (λ (x : List ℕ). Reads s x t) (sym (ap written w.1 ∙ written_is (text_in s) lent)) (reads_text s t b w.0 q);
  fits = λ s lent b v h.
      let ok = valid_sound s b v in
      let short : length (text_in s) ≤ text_limit = render_short (capacity (length s)) (capacity_few (length s)) (declared_in (state_in s)) (sound_rules (state_in s) ok) in
      ap (λ (r : TextReply). r.number) (text_state s lent v ∙ given_there (text_in s) lent (omega arith));
}
