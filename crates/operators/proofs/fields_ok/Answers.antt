-- `operators::fields_ok` meets its contract.
use mathlib.Core.Path.{sym, ap, ◌∙◌}
use Rattle.operators.proofs.Arms.{kept_by, fields_by, plain_fields, one_fields, two_fields}
use Rattle.operators.proofs.fields_ok.Goals as goal

pub returns-in-Input : goal.returns-in-Input
returns-in-Input c = c.none_ok.ensures ∙ ap (kept_by c.args.n c.args.op c.args.a c.args.b c.args.k c.args.out) (sym c.in-Input.is) ∙ fields_by c.args.n c.args.op c.args.a c.args.b c.args.k c.args.out c.group_of.result c.group_of.ensures

pub returns-in-Absent : goal.returns-in-Absent
returns-in-Absent c = c.none_ok-in-Absent.ensures ∙ plain_fields c.args.n c.args.op c.args.a c.args.b c.args.k c.args.out c.group_of.result c.in-Absent.in-Absent-own.keys2 ∙ fields_by c.args.n c.args.op c.args.a c.args.b c.args.k c.args.out c.group_of.result c.group_of.ensures

pub returns-in-One : goal.returns-in-One
returns-in-One c = c.one_ok.ensures ∙ one_fields c.args.n c.args.op c.args.a c.args.b c.args.k c.args.out c.group_of.result c.in-One.in-One-own.keys3 ∙ fields_by c.args.n c.args.op c.args.a c.args.b c.args.k c.args.out c.group_of.result c.group_of.ensures

pub returns-in-Two : goal.returns-in-Two
returns-in-Two c = c.two_ok.ensures ∙ two_fields c.args.n c.args.op c.args.a c.args.b c.args.k c.args.out c.group_of.result c.in-Two.in-Two-own.keys4 ∙ fields_by c.args.n c.args.op c.args.a c.args.b c.args.k c.args.out c.group_of.result c.group_of.ensures
