use Rattle.iri_normal.proofs.Common.{◌≡◌, ◌+◌, ◌∙◌, true, drop, sym, subst, arith, common_steps, lead_after_ascii, to_last_slash}
use Rattle.iri_normal.proofs.Common.{ends_at_slash}
use Rattle.iri_normal.proofs.segments.Slashes.{after_slash, ends, last_slash, no_slash, none_after, slash_is}
use Rattle.iri_normal.proofs.target.cut_last_segment.Goals as goal

pub range-requires-clause-end_boundary : goal.range-requires-clause-end_boundary
range-requires-clause-end_boundary c =
    let at = slash_is c.args.path.now c.in-Some.i c.in-Some.ensures in
    (omega (arith, at.0), λ l h. lead_after_ascii c.args.path.now c.in-Some.i c.utf8.path (omega (arith, at.1)) l h)

pub range_from-requires : goal.range_from-requires
range_from-requires c _ =
    let at = slash_is c.args.path.now c.in-Some.i c.in-Some.ensures in
    (omega (arith, at.0), λ l h. lead_after_ascii c.args.path.now c.in-Some.i c.utf8.path (omega (arith, at.1)) l h)

pub returns-in-Some-clause-ends : goal.returns-in-Some-clause-ends
returns-in-Some-clause-ends c =
    let directory = last_slash c.args.path.now c.in-Some.i c.in-Some.ensures in
    let same : c.range.result.now ≡ to_last_slash c.args.path.now = grind (arith, common_steps) in
    subst (λ t. ends_at_slash t ≡ true) (sym same) (ends c.args.path.now)

pub returns-in-Some-clause-directory : goal.returns-in-Some-clause-directory
returns-in-Some-clause-directory c =
    let directory = last_slash c.args.path.now c.in-Some.i c.in-Some.ensures in
    grind (arith, common_steps)

pub returns-in-Some-clause-last : goal.returns-in-Some-clause-last
returns-in-Some-clause-last c =
    let same : c.range_from.result.now ≡ drop (c.in-Some.i + 1) c.args.path.now = grind (arith, common_steps) in
    same ∙ after_slash c.args.path.now c.in-Some.i c.in-Some.ensures

pub returns-in-None-clause-directory : goal.returns-in-None-clause-directory
returns-in-None-clause-directory c = (no_slash c.args.path.now c.in-None.ensures).1

pub returns-in-None-clause-last : goal.returns-in-None-clause-last
returns-in-None-clause-last c = sym (none_after c.args.path.now (no_slash c.args.path.now c.in-None.ensures).0)
