-- `counting::add` meets its contract.
use mathlib.Core.Path.{sym, ap, ◌∙◌}
use Prim.Native.Nat.{ℕ, ◌+◌, ◌%◌, ◌/◌, ◌^◌, min}
use Rattle.meaning.specs.Missing.{count_limit}
use Rattle.layout.specs.Record.{dec_raw, enc_raw}
use Rattle.counting.proofs.Laws as law
use Rattle.counting.proofs.add.Goals as goal

pub returns : goal.returns
returns c = let r = dec_raw c.args.r.now in c.put_word.ensures ∙ ap enc_raw (sym (law.counted_is c.args.outside c.args.divisors c.plus-low.result c.plus-high.result r (c.plus-low.ensures.0 ∙ ap (λ (x : ℕ). min count_limit (x + c.args.outside)) (c.new.ensures ∙ ap (λ (w : ℕ). w % 2 ^ 32) c.word_at-both.ensures)) (c.plus-high.ensures.0 ∙ ap (λ (x : ℕ). min count_limit (x + c.args.divisors)) (c.new-2.ensures ∙ ap (λ (w : ℕ). w / 2 ^ 32) c.word_at-both.ensures))))
