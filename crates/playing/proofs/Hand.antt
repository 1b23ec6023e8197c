-- Going through a trace a part of it at a time is going through the whole: what is in hand reads the lines of the trace, and one
-- part after another leaves out none.
use Prim.Native.Nat.{ℕ, ◌+◌, ◌-◌, ◌^◌, ◌<◌, ◌≤◌}
use mathlib.Core.Path.{◌≡◌, refl, sym, ap, ◌∙◌, subst}
use mathlib.Core.Logic.{◌⊎◌, inl, inr}
use mathlib.Core.Bool.{Bool, true, false, true≢false}
use mathlib.Core.List.{List, [], ◌∷◌, ◌++◌, append-nil, append_assoc}
use native.Mathlib.Omega.{arith}
use lib.ListN.{length, take, drop, length-append, length-drop, take-append-drop}
use lib.Seq.{drop-cons, drop-append-le, drop-drop, drop-length, take-take, length-take-le}
use Rattle.le.proofs.RoundTrip.{drop_take}
use Rattle.calls.specs.Reply.{reply}
use Rattle.trace.specs.declared.Record.{Record}
use Rattle.std.specs.Prelude.{Some, None}
use Rattle.trace.specs.Trace.{line}
use Rattle.chunks.specs.Window.{longest, Enough}
use Rattle.chunks.proofs.Held.{window_read, window_bad}
use Rattle.printer.specs.Print.{refused_text}
use Rattle.replaying.specs.Replay.{call_of}
use Rattle.replaying.specs.Whole.{line_number, Lines, none, more, Stops, end, bad}
use Rattle.playing.specs.Played as played
use Rattle.playing.specs.Played.{Settles, Offered, Trailed}
use Rattle.playing.specs.Hand.{hand, line_after, Follow, Between, Through, Onward, Ended}

-- ## One after another

lines_then : {trace : List ℕ} {rs : List Record} {mid : List ℕ} {qs : List Record} {rest : List ℕ} → Lines trace rs mid → Lines mid qs rest → Lines trace (rs ++ qs) rest
lines_then none y = y
lines_then (more e x) y = more e (lines_then x y)

offered_then : {n : ℕ} {s : List ℕ} {rs : List Record} {t : List ℕ} {qs : List Record} {u : List ℕ} → Offered n s rs t → Offered n t qs u → Offered n s (rs ++ qs) u
offered_then {n} {s} {rs} {t} x played.none = subst (λ (l : List Record). Offered n s l t) (sym (append-nil rs)) x
offered_then {n} {s} {rs} {u = u} x (played.more {rs = qs} r y z) = subst (λ (l : List Record). Offered n s l u) (append_assoc rs qs (r ∷ [])) (played.more r (offered_then x y) z)

-- ## The count of the lines

counted_then : (first mid line : ℕ) (rs qs : List Record) → mid ≡ line_after first (length rs) → line ≡ line_after mid (length qs) → line ≡ line_after first (length (rs ++ qs))
counted_then first mid line rs qs e f = omega (arith, length-append rs qs)

-- ## Within the text in hand

pub between_none : (n : ℕ) (text : List ℕ) (at : ℕ) (last : Bool) (first : ℕ) (s : List ℕ) → first < 2 ^ 64 → Between n text at last first s at first s
between_none n text at last first s h = record { records = []; counted = omega arith; offered = played.none; lines = λ rest f. none }

-- the text has a whole line from the position on, or is the last
abbrev pub Whole : List ℕ → ℕ → Bool → Type 0
Whole text p last = (longest ≤ length text - p) ⊎ (last ≡ true)

enough : (text : List ℕ) (p : ℕ) {last : Bool} {rest : List ℕ} → Whole text p last → Follow last rest → Enough text p rest
enough text p (inl h) f = inl h
enough text p (inr e) f = inr (f e)

pub either : {A B C : Type 0} → (A → C) → (B → C) → A ⊎ B → C
either f g (inl a) = f a
either f g (inr b) = g b

-- one line more
pub between_more : {n : ℕ} {text : List ℕ} {at : ℕ} {last : Bool} {first : ℕ} {s : List ℕ} {p l m : ℕ} {t u : List ℕ} → p ≤ length text → Whole text p last → Between n text at last first s p l t
    → (r : Record) (next : ℕ) → line text p ≡ Some (r, next) → next ≤ length text → m ≡ line_after l 1 → Settles n (reply (call_of r) t).buffer u → Between n text at last first s next m u
between_more {text = text} {at} {last} {first} {p = p} {l} {m} inside whole x r next e fits c z =
    record { records = x.records ++ r ∷ []; counted = counted_then first l m x.records (r ∷ []) x.counted c; offered = played.more r x.offered z; lines = λ rest f. lines_then (x.lines rest f) (one rest f) }
  where
    one : (rest : List ℕ) → Follow last rest → Lines (drop p text ++ rest) (r ∷ []) (drop next text ++ rest)
    one rest f =
        let w = window_read text p rest inside (enough text p whole f) r next e in
        let q = w.1 in
        let behind : drop w.0 (drop p text ++ rest) ≡ drop next text ++ rest =
        drop-append-le w.0 (drop p text) rest (omega (arith, length-drop p text)) ∙ ap (λ (l : List ℕ). l ++ rest) (drop-drop w.0 p text ∙ ap (λ (k : ℕ). drop k text) (sym q)) in
        more w.2 (subst (λ (l : List ℕ). Lines l [] (drop next text ++ rest)) (sym behind) none)

-- a bad line
pub between_bad : {n : ℕ} {text : List ℕ} {at : ℕ} {last : Bool} {first : ℕ} {s : List ℕ} {p l : ℕ} {t u : List ℕ} → p < length text → Whole text p last → Between n text at last first s p l t
    → line text p ≡ None → u ≡ t → Through n text at last first s None u
between_bad {n} {text} {at} {last} {first} {s} {p} {l} inside whole x e z =
    (p, l, inside, subst (Between n text at last first s p l) (sym z) x, λ rest f. (refused_text (line_number None), stops rest (window_bad text p rest (omega arith) (enough text p whole f) e)))
  where
    stops : (rest : List ℕ) → line (drop p text ++ rest) 0 ≡ None → Stops (drop p text ++ rest) (refused_text (line_number None))
    stops rest = rw (drop-cons text p 0 inside) (λ q. bad q)

-- ## From one part of the trace to the next

-- the text in hand was kept, and what was read stands behind it
module _ (old buffer : List ℕ) (left filled : ℕ) (order : left ≤ filled) (inside : filled ≤ length buffer) (kept : take left buffer ≡ old) where
  is : take filled buffer ≡ old ++ drop left (take filled buffer)
  is = sym (take-append-drop left (take filled buffer)) ∙ ap (λ (l : List ℕ). l ++ drop left (take filled buffer)) (take-take left filled buffer order ∙ kept)

  size : length (take filled buffer) ≡ filled
  size = length-take-le filled buffer inside

  pub part_onward : {n : ℕ} {s : List ℕ} {last : Bool} {p first line : ℕ} {t : List ℕ} → last ≡ false → Through n (take filled buffer) 0 last first s (Some (p, line)) t → (p ≤ filled) × (filled ≤ length buffer) × (o : Onward n first old s (hand buffer p filled) line t) × (take filled buffer ≡ old ++ o.brought)
  part_onward {p = p} no_last x =
      let h : p ≤ filled = let k = x.0 in omega (arith, size) in
      let b = x.3 in
      let e : p + (filled - p) ≡ filled = omega arith in
      let same : drop p (take filled buffer) ≡ hand buffer p filled = ap (λ (k : ℕ). drop p (take k buffer)) (sym e) ∙ drop_take p (filled - p) buffer in (
        h,
        inside,
        record {
          brought = drop left (take filled buffer);
          records = b.records;
          counted = b.counted;
          offered = b.offered;
          lines = λ rest.
              subst (λ (l : List ℕ). Lines l b.records (hand buffer p filled ++ rest)) (ap (λ (l : List ℕ). l ++ rest) is ∙ append_assoc old (drop left (take filled buffer)) rest)
              (subst (λ (l : List ℕ). Lines (take filled buffer ++ rest) b.records (l ++ rest)) same (b.lines rest (λ q. absurd (true≢false (sym q ∙ no_last)))));
        },
        is,
      )

  -- nothing follows
  ended : {n : ℕ} {s : List ℕ} {last : Bool} {first p l : ℕ} {t v : List ℕ} → Between n (take filled buffer) 0 last first s p l t → Stops (drop p (take filled buffer) ++ []) v
      → (drop p (take filled buffer) ++ [] ≡ [] → filled < length buffer) → Ended n old s buffer t
  ended {p = p} {v = v} b x short =
      record {
        brought = drop left (take filled buffer);
        records = b.records;
        rest = drop p (take filled buffer) ++ [];
        offered = b.offered;
        lines = subst (λ (l : List ℕ). Lines l b.records (drop p (take filled buffer) ++ [])) (append-nil (take filled buffer) ∙ is) (b.lines [] (λ q. refl));
        stops = (v, x);
        held = ap (λ (k : ℕ). take k buffer) (sym (ap length is) ∙ size) ∙ is;
        short = λ q. let h = short q in omega (arith, ap length is, size);
      }

  pub bad_ended : {n : ℕ} {s : List ℕ} {last : Bool} {first : ℕ} {t : List ℕ} → Through n (take filled buffer) 0 last first s None t → Ended n old s buffer t
  bad_ended x =
      let l = x.2 in
      ended x.3 (x.4 [] (λ q. refl)).1
      (λ q. absurd (omega (arith, ap length (sym (append-nil (drop x.0 (take filled buffer))) ∙ q), length-drop x.0 (take filled buffer))))

  pub last_ended : {n : ℕ} {s : List ℕ} {last : Bool} {p first line : ℕ} {t : List ℕ} → last ≡ true → filled < length buffer → Through n (take filled buffer) 0 last first s (Some (p, line)) t → Ended n old s buffer t
  last_ended {p = p} q short x =
      let e : drop p (take filled buffer) ++ [] ≡ [] = append-nil (drop p (take filled buffer)) ∙ ap (λ (k : ℕ). drop k (take filled buffer)) (x.1 q) ∙ drop-length (take filled buffer) in
      ended x.3 (subst (λ (l : List ℕ). Stops l []) (sym e) end) (λ r. short)

pub onward_none : (n first : ℕ) (s old : List ℕ) → first < 2 ^ 64 → old ≡ [] → Onward n first [] s old first s
onward_none n first s old h e = record { brought = []; records = []; counted = omega arith; offered = played.none; lines = λ rest. subst (λ (l : List ℕ). Lines rest [] (l ++ rest)) (sym e) none }

pub onward_then : {n first : ℕ} {old s mid : List ℕ} {l : ℕ} {t new : List ℕ} {m : ℕ} {u : List ℕ} → Onward n first old s mid l t → Onward n l mid t new m u → Onward n first old s new m u
onward_then {first = first} {old = old} {l = l} {new = new} {m = m} x y =
    record {
      brought = x.brought ++ y.brought;
      records = x.records ++ y.records;
      counted = counted_then first l m x.records y.records x.counted y.counted;
      offered = offered_then x.offered y.offered;
      lines = λ rest.
          subst (λ (l : List ℕ). Lines (old ++ l) (x.records ++ y.records) (new ++ rest)) (sym (append_assoc x.brought y.brought rest))
          (lines_then (x.lines (y.brought ++ rest)) (y.lines rest));
    }

-- what was read, one part after the other, is the trace
pub onward_trailed : {n first : ℕ} {s new : List ℕ} {l : ℕ} {t : List ℕ} → Onward n first [] s new l t → Trailed n s false t
onward_trailed {new = new} x = record { trace = x.brought ++ []; records = x.records; rest = new ++ []; lines = x.lines []; offered = x.offered; stops = λ q. absurd (true≢false (sym q)) }

pub ended_trailed : {n first : ℕ} {s mid : List ℕ} {l : ℕ} {t buffer u : List ℕ} → Onward n first [] s mid l t → Ended n mid t buffer u → Trailed n s true u
ended_trailed x y =
    record {
      trace = x.brought ++ y.brought;
      records = x.records ++ y.records;
      rest = y.rest;
      lines = lines_then (x.lines y.brought) y.lines;
      offered = offered_then x.offered y.offered;
      stops = λ q. y.stops;
    }

pub trailed_none : (n : ℕ) (s : List ℕ) → Trailed n s true s
trailed_none n s = record { trace = []; records = []; rest = []; lines = none; offered = played.none; stops = λ q. ([], end) }
