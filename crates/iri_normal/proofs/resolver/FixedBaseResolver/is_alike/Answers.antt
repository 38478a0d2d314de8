use Rattle.iri_normal.proofs.Common.{◌∙◌, ap, subst, Parts, split_of, split_text, target, canonical_in, base_text}
use Rattle.iri_normal.specs.inside.SchemeRules.{StaysByScheme}
use Rattle.iri_normal.proofs.targets.SchemeRules.{canonical-stays}
use Rattle.iri_normal.proofs.resolver.FixedBaseResolver.is_alike.Goals as goal

pub returns-in-Scheme : goal.returns-in-Scheme
returns-in-Scheme g c h =
    let s = g.S.Spec.tests in
    let b = base_text c.args.self.now in
    let r = split_text c.args.reference.now in
    ap (λ m. canonical_in s m b r) c.in-Scheme.is
    ∙ canonical-stays s b r (subst (λ (p : Parts). StaysByScheme (target (split_of b) p)) c.parts.ensures.split (c.stays_by_scheme.ensures h))
