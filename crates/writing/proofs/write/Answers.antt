-- `writing::write` meets its contract.
use mathlib.Core.Path.{sym, ap, ◌∙◌}
use lib.ListN.{length}
use Rattle.writing.specs.Text.{TextReply, text_in}
use Rattle.writing.proofs.Rows.{text_is, text_fits}
use Rattle.writing.proofs.Cases.{given_short, given_there, there_put}
use native.Mathlib.Omega.{arith}
use Rattle.writing.proofs.write.Goals as goal

pub text_length-size-requires : goal.text_length-size-requires
text_length-size-requires c = text_fits c.args.state.now (λ j. omega (arith, c.shared_slice_known-1.given j)) c.args.n c.requires

pub returns-then-text-size : goal.returns-then-text-size
returns-then-text-size c = let s = c.args.state.now in let t = text_is s (λ j. omega (arith, c.shared_slice_known-1.given j)) c.args.n c.requires in let e = sym (given_short (text_in s) c.args.text.now (omega (arith, c.text_length-size.ensures, ap length t))) in record { number = ap (λ (r : TextReply). r.number) e; length = tt; buffer = ap (λ (r : TextReply). r.buffer) e }

pub put_text-requires : goal.put_text-requires
put_text-requires c = (text_fits c.args.state.now (λ j. omega (arith, c.shared_slice_known-1.given j)) c.args.n c.requires, omega (arith, c.text_length-size.ensures))

pub returns : goal.returns
returns c = let s = c.args.state.now in let t = text_is s (λ j. omega (arith, c.shared_slice_known-1.given j)) c.args.n c.requires in let l = c.text_length-size.ensures ∙ ap length t in let e = sym (given_there (text_in s) c.args.text.now (omega (arith, l))) in record { number = ap (λ (r : TextReply). r.number) e; length = l ∙ ap (λ (r : TextReply). r.length) e; buffer = c.put_text.ensures ∙ rw t (there_put (text_in s) c.args.text.now (omega (arith, l))) ∙ ap (λ (r : TextReply). r.buffer) e }
