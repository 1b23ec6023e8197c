-- Cases: Document 01's whole example, counting visits: the plan, the trace, and what is printed.
use Rattle.std.specs.Prelude.{ℕ, List}
use Rattle.trace.specs.Cases.{bytes}

-- "in; unit; set a=1 k=0; last a=5 b=0; plus a=3 k=1; merge a=4 b=2 out=1"
abbrev pub visits : List ℕ
visits =
    bytes
    "plan=1\nstreams=6\nop=in\na=0\nb=0\nk=0\nout=0\nop=unit\na=0\nb=0\nk=0\nout=0\nop=set\na=1\nb=0\nk=0\nout=0\nop=last\na=5\nb=0\nk=0\nout=0\nop=plus\na=3\nb=0\nk=1\nout=0\nop=merge\na=4\nb=2\nk=0\nout=1\n"

abbrev pub trace : List ℕ
trace = bytes "s=0 t=3 v=7\ns=0 t=5 v=7\n"

abbrev pub printed : List ℕ
printed = bytes "s=5 t=0 v=0\ns=5 t=3 v=1\ns=5 t=5 v=2\n"
