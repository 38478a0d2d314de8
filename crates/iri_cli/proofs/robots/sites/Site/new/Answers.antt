use Rattle.iri_cli.proofs.Common.{◌≡◌, ◌∙◌, Parts, absolute-law, ap, base_text, canonical_in, normal_base, refl, split_of, split_text}
use Rattle.std.proofs.Math.Logic.{∥∥₁_elim}
use Rattle.std.proofs.Props.{props}
use Rattle.iri_cli.proofs.AlikeLaws.{own_canonical}
use Rattle.iri_cli.proofs.RobotsLemmas.{site_parts}
use Rattle.iri_cli.proofs.robots.sites.Site.new.Goals as goal

pub invariant_of-result : goal.invariant_of-result
invariant_of-result g c = record {
  begins = c.in_ok-prefix.ensures;
  parts = site_parts g.S.Spec.tests _ _ _ _ g.met.S.Spec.lawful c.parts.ensures.fits c.parts-2.ensures.fits
      (c.in_ok-scheme.ensures ∙ c.scheme.ensures) (c.in_ok-authority.ensures ∙ c.authority.ensures);
}

pub returns : goal.returns
returns g c =
    let s = g.S.Spec.tests in
    let spec = g.met.S.Spec.lawful in
    let mode = c.args.setup.mode in
    let base = base_text c.args.resolver.now in
    let valid = (absolute-law s spec base).0 (∥∥₁_elim c.args.resolver.now.base.view.valid (hlevel props) (λ e. e)) in
    let asked = c.of-base.ensures ∙ c.as_reference.ensures ∙ c.base.ensures in
    let normal : split_text c.of-normal.result ≡ normal_base s mode base =
    c.of-normal.ensures ∙ c.from_valid.ensures ∙ c.deref.ensures ∙ c.in_ok-write_target.ensures.text
    ∙ ap (canonical_in s mode base) asked ∙ own_canonical s mode base spec valid in (
      refl,
      refl,
      record {
        scheme_is = c.in_ok-scheme.ensures ∙ c.scheme.ensures ∙ ap (λ (p : Parts). p.scheme) (c.parts.ensures.split ∙ ap split_of normal);
        authority_is = c.in_ok-authority.ensures ∙ c.authority.ensures ∙ ap (λ (p : Parts). p.authority) (c.parts-2.ensures.split ∙ ap split_of normal);
      },
    )
