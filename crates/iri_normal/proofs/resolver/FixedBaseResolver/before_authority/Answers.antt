use Rattle.std.proofs.Common.{rules}
use Rattle.iri_grammar.specs.Seen.{is_small}
use Rattle.iri_normal.proofs.Common.{◌≡◌, ◌∙◌, true, ap, sym, list_all, if_there, now_of, Parts, parts, split_text, base_text}
use Rattle.iri_normal.proofs.segments.DotBytes.{no_dots}
use Rattle.iri_normal.proofs.targets.PlainReferences.{authority-put}
use Rattle.iri_normal.proofs.resolver.FixedBaseResolver.before_authority.Goals as goal

pub returns : goal.returns
returns g c =
    let r = parts c.parts-parts.result.now in
    let x = c.scheme_str.result.now in
    let noted = c.seen-else-not-keeps_prefix.ensures.promises.4 c.if-seen-2.false in
    let small : list_all is_small x ≡ true = ap (if_there (list_all is_small)) (c.scheme_str.ensures
    ∙ sym (ap (λ (p : Parts). p.scheme) c.parts.ensures.split)) ∙ noted.0 in
    let keeps : c.keeps_prefix.result ≡ true = search rules in
    authority-put g.S.Spec.tests (base_text c.args.self.now) r x c.in-None-Some.field-0-1.now g.met.S.Spec.lawful c.parts-parts.ensures.fits
    (sym c.scheme_str.ensures) small (sym c.scheme.ensures ∙ ap now_of c.in-None-Some.is-0) (sym c.authority.ensures ∙ ap now_of c.in-None-Some.is-1)
    (c.keeps_prefix.ensures keeps) (split_text c.args.reference.now) (sym c.parts-parts.ensures.split)
    (no_dots r.path (c.seen.ensures.promises.3 c.if-seen.false))
