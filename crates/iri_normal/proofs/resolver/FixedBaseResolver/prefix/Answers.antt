use Rattle.iri_normal.proofs.Common.{sym, ◌∙◌, ap, Parts, split_of, now_of, split_text, base_text}
use Rattle.iri_normal.proofs.normal_forms.Prefixes.{prefix-kept}
use Rattle.iri_normal.proofs.resolver.FixedBaseResolver.prefix.Goals as goal

pub returns-in-None-None : goal.returns-in-None-None
returns-in-None-None g c =
    let split = c.parts-parts.ensures.split in
    let scheme = sym (c.scheme.ensures ∙ ap (λ (p : Parts). p.scheme) split) ∙ ap now_of c.in-None-None.is-0 in
    let authority = sym (c.authority.ensures ∙ ap (λ (p : Parts). p.authority) split) ∙ ap now_of c.in-None-None.is-1 in
    prefix-kept g.S.Spec.tests (split_of (base_text c.args.self.now)) (split_of (split_text c.args.reference.now))
    (now_of c.args.self.now.prefix) scheme authority c.args.self.now.prepared.1
