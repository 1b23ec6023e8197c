-- The answers of a write, case by case.
use Prim.Native.Nat.{ℕ, ◌<◌, ◌≤◌}
use mathlib.Core.Path.{◌≡◌, refl, sym, ap, ◌∙◌}
use mathlib.Core.Bool.{true, false}
use mathlib.Core.List.{List}
use native.Mathlib.Omega.{arith}
use lib.ListN.{length, set}
use borrow.Author.Tests.{eq-eqb, ne_eqb, lt-ltb, le-ltb}
use Rattle.block.specs.Block.{block_length, command_at, flags_at, mask_at, flags_in, cleared, ended}
use Rattle.registers.specs.Write.{Written, is_command, commanded, refused, stored, write_in, write}
use Rattle.registers.proofs.Commands as commands

-- the three answers of a write
abbrev pub Answers : Written → ℕ → List ℕ → List ℕ → Type 0
Answers w k b s = (k ≡ w.number) × ((b ≡ w.block) × (s ≡ w.state))

-- they are those of a known one
by_known : (w v : Written) → w ≡ v → (k : ℕ) (b s : List ℕ) → Answers v k b s → Answers w k b s
by_known w v e k b s h = (h.0 ∙ sym (ap (λ (y : Written). y.number) e), (h.1.0 ∙ sym (ap (λ (y : Written). y.block) e), h.1.1 ∙ sym (ap (λ (y : Written). y.state) e)))

module _ (s b : List ℕ) (at x : ℕ) where
  pub write_length : (length b ≡ block_length → ⊥) → write s b at x ≡ record { number = 17; block = b; state = s }
  unfolding write
  write_length d = rw (ne_eqb (length b) block_length d)

  pub by_length : (length b ≡ block_length → ⊥) → Answers (write s b at x) 17 b s
  by_length d = by_known (write s b at x) (record { number = 17; block = b; state = s }) (write_length d) 17 b s (refl, (refl, refl))

  module _ (l : length b ≡ block_length) where
    write_in_lem : write s b at x ≡ write_in s b at x
    unfolding write
    write_in_lem = rw (eq-eqb (length b) block_length l)

    pub write_command : at ≡ command_at → is_command x ≡ true → write s b at x ≡ commanded s b x
    write_command e c = write_in_lem ∙ rw (eq-eqb at command_at e, c)

    pub write_none : at ≡ command_at → is_command x ≡ false → write s b at x ≡ refused s b
    write_none e c = write_in_lem ∙ rw (eq-eqb at command_at e, c)

    pub write_flags : at ≡ flags_at → write s b at x ≡ stored s (set b flags_at (cleared (flags_in b) x))
    write_flags e = write_in_lem ∙ rw (ne_eqb at command_at (λ q. omega arith), eq-eqb at flags_at e)

    pub write_low : at < command_at → write s b at x ≡ stored s (set b at x)
    write_low h = write_in_lem ∙ rw (ne_eqb at command_at (λ q. omega arith), ne_eqb at flags_at (λ q. omega arith), lt-ltb at command_at h)

    pub write_mask : at ≡ mask_at → write s b at x ≡ stored s (set b at x)
    write_mask e = write_in_lem ∙ rw (ne_eqb at command_at (λ q. omega arith), ne_eqb at flags_at (λ q. omega arith), le-ltb at command_at (omega arith), eq-eqb at mask_at e)

    pub write_other : command_at ≤ at → (at ≡ command_at → ⊥) → (at ≡ flags_at → ⊥) → (at ≡ mask_at → ⊥) → write s b at x ≡ refused s b
    write_other h c d e = write_in_lem ∙ rw (ne_eqb at command_at c, ne_eqb at flags_at d, le-ltb at command_at h, ne_eqb at mask_at e)

    -- ---- as the code answers

    pub by_command : (k : ℕ) (b' s' : List ℕ) → at ≡ command_at → is_command x ≡ true → commands.Answers s b x k b' s' → Answers (write s b at x) k b' s'
    by_command k b' s' e c h = by_known (write s b at x) (commanded s b x) (write_command e c) k b' s' h

    pub by_refused : (k : ℕ) (b' : List ℕ) → write s b at x ≡ refused s b → k ≡ 17 → b' ≡ ended 17 false b → Answers (write s b at x) k b' s
    by_refused k b' e ek eb = by_known (write s b at x) (refused s b) e k b' s (ek, (eb, refl))

    pub by_stored : (b' b'' : List ℕ) → write s b at x ≡ stored s b'' → b' ≡ b'' → Answers (write s b at x) 0 b' s
    by_stored b' b'' e eb = by_known (write s b at x) (stored s b'') e 0 b' s (refl, (eb, refl))
