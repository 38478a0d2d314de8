use Rattle.iri_normal.proofs.Common.{sym, subst, ∥∥₁_elim, props, IsSome, Parts, Fits, parts}
use Rattle.iri_types.specs.inside.KindLaws.{absolute-scheme}
use Rattle.iri_normal.proofs.targets.Targets.{target-fits}
use Rattle.iri_normal.proofs.resolver.FixedBaseResolver.slices.Goals as goal

pub returns-clause-fits : goal.returns-clause-fits
returns-clause-fits g c =
    let s = g.S.Spec.tests in
    let base = c.args.self.now.base in
    let scheme = ∥∥₁_elim base.view.valid (hlevel props) (λ none. absolute-scheme s g.met.S.Spec.lawful base.view.text.now none) in
    let fit = target-fits s (parts c.parts.result.now) (parts c.parts-2.result.now) c.parts.ensures.fits
    (subst (λ (p : Parts). IsSome p.scheme) (sym c.parts.ensures.split) scheme) c.parts-2.ensures.fits in
    subst (Fits s) (sym c.target.ensures.parts) fit.0

pub returns-clause-scheme : goal.returns-clause-scheme
returns-clause-scheme g c =
    let s = g.S.Spec.tests in
    let base = c.args.self.now.base in
    let scheme = ∥∥₁_elim base.view.valid (hlevel props) (λ none. absolute-scheme s g.met.S.Spec.lawful base.view.text.now none) in
    let fit = target-fits s (parts c.parts.result.now) (parts c.parts-2.result.now) c.parts.ensures.fits
    (subst (λ (p : Parts). IsSome p.scheme) (sym c.parts.ensures.split) scheme) c.parts-2.ensures.fits in
    subst (λ (p : Parts). IsSome p.scheme) (sym c.target.ensures.parts) fit.1
