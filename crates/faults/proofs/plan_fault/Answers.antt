-- `faults::plan_fault` meets its contract.
use mathlib.Core.Path.{refl, sym, subst}
use Rattle.faults.specs.Search.{FoundAfter}
use Rattle.faults.proofs.Says.{no_line, both_none}
use Rattle.faults.proofs.Number.{found_form, found_rule, found_window, found_none, found_cycle}
use native.Mathlib.Omega.{arith}
use Rattle.faults.proofs.plan_fault.Goals as goal

pub returns-in-Some : goal.returns-in-Some
returns-in-Some c = (found_form c.args.most c.args.text.now c.args.n c.args.at c.in-Some.f c.in-Some.ensures.0 (λ z. omega (arith, c.in-Some.ensures.1.1)), c.in-Some.ensures.1.0)

pub returns-in-Some-rule_fault : goal.returns-in-Some-rule_fault
returns-in-Some-rule_fault c = (found_rule c.args.most c.args.text.now c.args.n c.args.at (no_line c.in_default.ensures.0) c.in-Some-rule_fault.f c.in-Some-rule_fault.ensures.0 (λ z. omega (arith, c.in-Some-rule_fault.ensures.1.1)), c.in-Some-rule_fault.ensures.1.0)

pub returns-in-Some-window_fault : goal.returns-in-Some-window_fault
returns-in-Some-window_fault c = (found_window c.args.most c.args.text.now c.args.n c.args.at (no_line c.in_default.ensures.0) (no_line c.in_default-rule_fault.ensures.0) c.in-Some-window_fault.f c.in-Some-window_fault.ensures.0 (λ z. omega (arith, c.in-Some-window_fault.ensures.1.1)), c.in-Some-window_fault.ensures.1.0)

pub on_cycle-requires : goal.on_cycle-requires
on_cycle-requires c = (omega arith, both_none c.args.text.now c.args.n c.args.at (no_line c.in_default.ensures.0) (no_line c.in_default-rule_fault.ensures.0))

pub returns-in_err-c : goal.returns-in_err-c
returns-in_err-c c = rw c.from_residual.ensures (found_none c.args.most c.args.text.now c.args.n c.args.at (no_line c.in_default.ensures.0) (no_line c.in_default-rule_fault.ensures.0) (no_line c.in_default-window_fault.ensures.0) c.requires.2 c.requires.1 c.args.n (both_none c.args.text.now c.args.n c.args.at (no_line c.in_default.ensures.0) (no_line c.in_default-rule_fault.ensures.0)) c.in_err-c.ensures.0 refl, tt)

pub returns : goal.returns
returns c = (subst (FoundAfter c.args.most c.args.text.now c.args.n c.args.at) (sym c.in_stream.ensures.0) (found_cycle c.args.most c.args.text.now c.args.n c.args.at (no_line c.in_default.ensures.0) (no_line c.in_default-rule_fault.ensures.0) (no_line c.in_default-window_fault.ensures.0) c.requires.2 c.requires.1 c.in_ok-c.c (both_none c.args.text.now c.args.n c.args.at (no_line c.in_default.ensures.0) (no_line c.in_default-rule_fault.ensures.0)) c.in_ok-c.ensures.0 (λ z. omega (arith, c.in_ok-c.ensures.1))), c.in_stream.ensures.1.0)
