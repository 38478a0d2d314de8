use Rattle.std.proofs.Common.{length, slice_index, ap, ◌∙◌, sym, arith}
use Rattle.iri_robots.proofs.Parts.{some_left, takes_special, takes_triplet, escape_sticks}
use Rattle.iri_robots.proofs.pattern.take_escape.Goals as goal
use Rattle.iri_robots.proofs.pattern.take_escape.Goals.{then-text-lt3-via-then-text-lt3, then-text-lt3-via-else-text-lt3+then-text-ne37}
use Rattle.iri_robots.proofs.pattern.take_escape.Goals.{then-text-lt3-via-else-text-lt3+else-text-ne37+then-text-ne50}
use Rattle.iri_robots.proofs.pattern.take_escape.Goals.{then-text-lt3-via-else-text-lt3+else-text-ne37+else-text-ne50+then-text-pattern}

pub returns-then-text-special : goal.returns-then-text-special
returns-then-text-special c = takes_special c.args.pattern.now c.args.text.now c.args.special c.requires (some_left (length c.args.text.now) (sym
    c.is_empty.ensures ∙ c.if-is_empty.false)) c.if-text-special.true

pub returns-then-text-lt3 : goal.returns-then-text-lt3
returns-then-text-lt3 c = escape_sticks c.args.pattern.now c.args.text.now c.args.special c.requires c.if-text-special.false (λ l t k e. elim
    c.then-text-lt3.branch [
      | then-text-lt3-via-then-text-lt3 w ↦ let h = w.if-text-lt3.true in omega (arith, ap length e)
      | then-text-lt3-via-else-text-lt3+then-text-ne37 w ↦ w.if-text-ne37.true (ap (λ x. slice_index x 0) e)
      | then-text-lt3-via-else-text-lt3+else-text-ne37+then-text-ne50 w ↦ w.if-text-ne50.true (ap (λ x. slice_index x 1) e)
      | then-text-lt3-via-else-text-lt3+else-text-ne37+else-text-ne50+then-text-pattern w ↦ w.if-text-pattern.true (ap (λ x. slice_index x 2) e
          ∙ k)
    ])

pub returns : goal.returns
returns c = takes_triplet c.args.pattern.now c.args.text.now c.args.special c.requires c.if-text-lt3.false c.if-text-ne37.false
    c.if-text-ne50.false c.if-text-pattern.false
