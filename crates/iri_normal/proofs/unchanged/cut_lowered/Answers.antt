use Rattle.iri_normal.proofs.Common.{◌∙◌, ap, arith, subst, sym, or_parts, if_there, now_of, Fits, Parts, split_of, split_text}
use Rattle.iri_normal.proofs.Common.{may_have_dots}
use Rattle.iri_grammar.specs.Seen.{is_plain_authority}
use Rattle.iri_normal.proofs.segments.DotBytes.{no_dots}
use Rattle.iri_normal.proofs.targets.PlainReferences.{lowered-before}
use Rattle.iri_normal.proofs.unchanged.cut_lowered.Goals as goal

pub returns : goal.returns
returns g c =
    let t = split_text c.args.reference.now in
    let split = c.parts-parts.ensures.split in
    let k = or_parts c.seen-seen.result.dots c.seen-seen.result.other_authority c.if-seen.false in
    let scheme = sym (ap (λ (p : Parts). p.scheme) split) ∙ (sym c.scheme.ensures ∙ ap now_of c.in-Some.is) in
    let plain = ap (λ (p : Parts). if_there is_plain_authority p.authority) (sym split) ∙ c.seen-seen.ensures.promises.5 k.1 in
    let none = no_dots (split_of t).path (ap (λ (p : Parts). may_have_dots p.path) (sym split) ∙ c.seen-seen.ensures.promises.3 k.0) in
    lowered-before g.S.Spec.tests t c.cut_prefix.result.0.now c.cut_prefix.result.1.now c.in-Some.field-0.now g.met.S.Spec.lawful
    (subst (Fits g.S.Spec.tests) split c.parts-parts.ensures.fits) scheme plain none c.cut_prefix.ensures.whole c.cut_prefix.ensures.prefix
    (omega (arith, c.if-prefix-gt64.false))
