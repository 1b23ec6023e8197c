-- The second pass over a taken text: each stream is read again, in order, and its fields fit their places.
use Prim.Native.Nat.{ℕ, ◌-◌, ◌^◌, ◌<◌, ◌≤◌}
use mathlib.Core.Path.{◌≡◌, refl, sym, ap, ◌∙◌}
use mathlib.Core.Bool.{true}
use mathlib.Core.List.{List, [], ◌∷◌}
use native.Mathlib.Omega.{arith}
use lib.Dec.{lit<}
use lib.ListN.{length}
use Rattle.operators.specs.Limits.{most_streams}
use Rattle.operators.specs.Operators.{uses_a, uses_b}
use Rattle.operators.proofs.Rules.{arg_small, first_ok, second_ok}
use Rattle.operators.proofs.Tests.{left, right}
use Rattle.text.specs.declared.Fields.{Fields}
use Rattle.std.specs.Prelude.{Result, Ok, Err}
use Rattle.refusal.specs.declared.Refusal.{Refusal}
use Rattle.text.specs.Grammar.{stream}
use Rattle.render.proofs.Heads.{head_fits}
use Rattle.plan.specs.Rules.{keeps, all_keep, Form, refused, formed, put, others, streams}
use Rattle.plan.proofs.Forms.{fields_in, end_in, clash}
use Rattle.plan.proofs.Pass.{turn_streams}
use Rattle.plan.proofs.Noted.{Sound, All, read_sound}
use Rattle.plan.proofs.Taken.{InRange, streams_read, Parts}

module _ (s : List ℕ) (p m : ℕ) (fs : List Fields) (end : ℕ) (h : 0 < m) (e : streams s p m ≡ formed fs end) where
  opened : (l : Result Fields Refusal) → stream s p ≡ l → others l (λ f. streams s f.next (m - 1)) ≡ formed fs end
  opened l q = ap (λ (x : Result Fields Refusal). others x (λ f. streams s f.next (m - 1))) (sym q) ∙ sym (turn_streams s m p h) ∙ e

  -- no stream of a text that was read whole is refused
  pub none_refused : (r : Refusal) → stream s p ≡ Err r → ⊥
  none_refused r q = clash (opened (Err r) q)

  -- the stream that is read is the first that is left, and the others follow it
  pub next_read : (f : Fields) → stream s p ≡ Ok f → (gs : List Fields) × (fs ≡ f ∷ gs) × (streams s f.next (m - 1) ≡ formed gs end)
  next_read f q = by (streams s f.next (m - 1)) refl (opened (Ok f) q)
    where
      by : (x : Form) → streams s f.next (m - 1) ≡ x → put f x ≡ formed fs end → (gs : List Fields) × (fs ≡ f ∷ gs) × (streams s f.next (m - 1) ≡ formed gs end)
      by (refused r) z g = clash g
      by (formed gs t) z g =
          let y : t ≡ end = ap end_in g in
          (gs, sym (ap fields_in g), z ∙ rw y)

-- a stream's fields fit the bytes that they are stored in
pub record Stored (f : Fields) : Type 0 where
  pub op : Sound f
  pub a : f.a < 256
  pub b : f.b < 256
  pub k : f.k < 2 ^ 64
  pub out : f.out ≤ 1

all_stored : (n : ℕ) (fs : List Fields) → n ≤ 256 → All Sound fs → All InRange fs → all_keep n fs ≡ true → All Stored fs
unfolding all_keep
all_stored n [] h t r e = tt
all_stored n (f ∷ fs) h t r e =
    let k = left (keeps n f) (all_keep n fs) e in (
      record {
        op = t.0;
        a = arg_small (uses_a f.op) n f.a (first_ok n f.op f.a f.b f.k f.out k) 256 (lit< tt) h;
        b = arg_small (uses_b f.op) n f.b (second_ok n f.op f.a f.b f.k f.out k) 256 (lit< tt) h;
        k = r.0.0;
        out = r.0.1;
      },
      all_stored n fs h t.1 r.1 (right (keeps n f) (all_keep n fs) e),
    )

pub taken_stored : (cap : ℕ) → cap ≤ most_streams → (s : List ℕ) (p : Parts cap s) → All Stored p.fields × (length p.fields ≡ p.count)
taken_stored cap c s p =
    let r = read_sound s p.count p.start p.fields (length s) p.lists in
    let h = head_fits cap s p.count p.start p.opens in
    (all_stored p.count p.fields (omega (arith, h)) r.0 (streams_read s p.count p.start p.fields (length s) p.lists).1 p.kept, r.1)
