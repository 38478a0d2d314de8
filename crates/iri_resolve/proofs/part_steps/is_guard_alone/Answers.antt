use Rattle.iri_resolve.proofs.Common.{◌&&◌, sym, ◌∙◌, ap, not, is_empty, starts_with_slash, now_of, is_two_dots}
use Rattle.iri_grammar.specs.Cut.{before}
use Rattle.iri_normal.specs.Dots.{has_dot_segment, is_dot_segment}
use Rattle.iri_resolve.proofs.GuardLemmas.{one-segment, two-segments, more-segments}
use Rattle.iri_resolve.proofs.part_steps.is_guard_alone.Goals as goal

pub returns-in_default : goal.returns-in_default
returns-in_default c = sym (one-segment c.args.path.now (sym c.cut.ensures.after ∙ ap now_of c.in_default.is))

pub returns-in_default-after : goal.returns-in_default-after
returns-in_default-after c = sym (two-segments c.args.path.now c.in-Some.rest.now (sym c.cut.ensures.after ∙ ap now_of c.in-Some.is)
    (sym c.cut-2.ensures.after ∙ ap now_of c.in_default-after.is))

pub returns : goal.returns
returns c =
    let more = more-segments c.args.path.now c.in-Some.rest.now c.in-Some-after.rest.now
    (sym c.cut.ensures.after ∙ ap now_of c.in-Some.is) (sym c.cut-2.ensures.after ∙ ap now_of c.in-Some-after.is) in
    c.is_guard.ensures
    ∙ ap (λ f. is_empty f && (is_dot_segment c.cut-2.result.0.now && not (is_two_dots c.cut-2.result.0.now))
    && (starts_with_slash c.in-Some-after.rest.now && not (has_dot_segment c.in-Some-after.rest.now))) c.cut.ensures.before
    ∙ ap (λ d. is_empty (before 47 c.args.path.now) && (is_dot_segment d && not (is_two_dots d))
    && (starts_with_slash c.in-Some-after.rest.now && not (has_dot_segment c.in-Some-after.rest.now))) c.cut-2.ensures.before
    ∙ sym more
