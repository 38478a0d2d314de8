use Rattle.iri_normal.proofs.Common.{◌∙◌, sym, ap, has_dot_segment}
use Rattle.iri_normal.proofs.segments.DotBytes.{no_dots}
use Rattle.iri_normal.proofs.segments.FirstDots.{next-dotted}
use Rattle.iri_normal.proofs.dots.has_dot_segment.Goals as goal

pub returns-then-not-may_have_dots : goal.returns-then-not-may_have_dots
returns-then-not-may_have_dots c =
    sym (ap has_dot_segment (sym c.as_bytes-bytes.ensures.value)
    ∙ no_dots c.as_bytes-bytes.result.now (c.may_have_dots.ensures c.if-not-may_have_dots.true))

pub returns-in-Some : goal.returns-in-Some
returns-in-Some c = sym (ap has_dot_segment (sym c.as_bytes-bytes.ensures.value) ∙ next-dotted _ _ _ _ c.in-Some.ensures)

pub returns-in-None : goal.returns-in-None
returns-in-None c = sym (ap has_dot_segment (sym c.as_bytes-bytes.ensures.value) ∙ c.in-None.ensures)
