-- `playing::replay_line` meets its contract.
use Prim.Native.Nat.{ℕ}
use mathlib.Core.Path.{◌≡◌, refl, sym, ◌∙◌, subst}
use mathlib.Core.Bool.{true, false, true≢false}
use Rattle.std.specs.Prelude.{Option, Some, None}
use Rattle.std.specs.Option.{is_some}
use Rattle.trace.specs.declared.Record.{Record}
use Rattle.replaying.specs.Whole.{line_state}
use mathlib.Core.List.{List}
use lib.Seq.{length-take-le}
use Rattle.trace.specs.Trace.{line}
use Rattle.decimal.proofs.Puts.{put_length}
use Rattle.replaying.proofs.Steps.{line_most}
use Rattle.playing.specs.Played.{Settles, Follows}
use native.Mathlib.Omega.{arith}
use Rattle.playing.proofs.replay_line.Goals as goal

pub slice_bounds-printed-end : goal.slice_bounds-printed-end
slice_bounds-printed-end g c = omega (arith, c.line-passed.ensures.put.past, line_most (line c.args.text.now c.args.at) c.args.state.now, put_length c.line-passed.ensures.put)

pub slice_bounds-printed-end-2 : goal.slice_bounds-printed-end-2
slice_bounds-printed-end-2 g c = omega (arith, c.line-passed.ensures.put.past, line_most (line c.args.text.now c.args.at) c.args.state.now, put_length c.line-passed.ensures.put)

pub slice_bounds-say_line-end : goal.slice_bounds-say_line-end
slice_bounds-say_line-end g c = sym (length-take-le c.line-passed.result.end c.line-passed.new.out (omega (arith, c.line-passed.ensures.put.past, line_most (line c.args.text.now c.args.at) c.args.state.now, put_length c.line-passed.ensures.put)))

-- a bad line changes nothing
stays : (x : Option (Record × ℕ)) (s t : List ℕ) → is_some x ≡ false → t ≡ line_state x s → (None ≡ x) × (t ≡ s)
stays None s t h e = (refl, e)
stays (Some (r, next)) s t h e = absurd (true≢false h)

-- a record is offered, and what follows settles
settled : (n : ℕ) (x : Option (Record × ℕ)) (s z t : List ℕ) → is_some x ≡ true → z ≡ line_state x s → Settles n z t → Follows n x s t
settled n None s z t h e k = absurd (true≢false (sym h))
settled n (Some (r, next)) s z t h e k = subst (λ (l : List ℕ). Settles n l t) e k

pub returns-then-is_none : goal.returns-then-is_none
returns-then-is_none g c =
    let t = stays c.line-passed.result.found c.args.state.now c.line-passed.new.state c.if-is_none.ensures (rw (sym c.line-passed.ensures.found) at c.line-passed.ensures.state) in
    record { found = t.0 ∙ c.line-passed.ensures.found; follows = t.1 }

pub returns : goal.returns
returns g c = record { found = c.line-passed.ensures.found; follows = settled c.args.n c.line-passed.result.found c.args.state.now c.line-passed.new.state c.settle.new.state c.if-is_none.ensures (rw (sym c.line-passed.ensures.found) at c.line-passed.ensures.state) c.settle.ensures }

pub slice_bounds-put-end : goal.slice_bounds-put-end
slice_bounds-put-end g c = sym (length-take-le c.line-passed.result.end c.line-passed.new.out (omega (arith, c.line-passed.ensures.put.past, line_most (line c.args.text.now c.args.at) c.args.state.now, put_length c.line-passed.ensures.put)))
