use Rattle.std.proofs.Common.{length, sym, ◌∙◌, inl, inr}
use Rattle.iri_robots.proofs.Parts.{some_left}
use Rattle.iri_robots.proofs.Readings.{escape_part, same_part}
use Rattle.iri_robots.proofs.needle.part_len.Goals.{then-dollars-via-then-dollars, then-dollars-via-else-dollars+then-special-eq42}
use Rattle.iri_robots.proofs.needle.part_len.Goals.{else-dollars-2-via-then-dollars-2+else-pattern-eq36, else-dollars-2-via-else-dollars-2}
use Rattle.iri_robots.proofs.needle.part_len.Goals as goal

pub returns-then-dollars-clause-part : goal.returns-then-dollars-clause-part
returns-then-dollars-clause-part c = escape_part c.args.dollars c.args.pattern.now c.in-Some.special c.in-Some.ensures (elim c.then-dollars.branch [
  | then-dollars-via-then-dollars w ↦ inl w.if-dollars.true
  | then-dollars-via-else-dollars+then-special-eq42 w ↦ inr w.if-special-eq42.true
])

pub returns-clause-part : goal.returns-clause-part
returns-clause-part c = same_part c.args.dollars c.args.pattern.now (some_left (length c.args.pattern.now) (sym c.is_empty.ensures
    ∙ c.if-is_empty.false)) c.if-pattern-eq42.false c.in_default.ensures (λ e. elim c.else-dollars-2.branch [
      | else-dollars-2-via-then-dollars-2+else-pattern-eq36 w ↦ w.if-pattern-eq36.false
      | else-dollars-2-via-else-dollars-2 w ↦ λ x. let h = w.if-dollars-2.false in cc
    ])
