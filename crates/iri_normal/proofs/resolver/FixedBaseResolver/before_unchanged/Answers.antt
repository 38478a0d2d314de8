use Rattle.iri_normal.proofs.Common.{ℕ, List, sym, parts, split_text, base_text}
use Rattle.iri_normal.specs.declared.unchanged.Before.{Before}
use Rattle.iri_normal.specs.inside.Unchanged.{EndsCanonical, EndsParts}
use Rattle.iri_normal.proofs.segments.DotBytes.{no_dots}
use Rattle.iri_normal.proofs.targets.PlainReferences.{matched}
use Rattle.iri_normal.proofs.resolver.FixedBaseResolver.before_unchanged.Goals as goal

pub returns-in-Some-default : goal.returns-in-Some-default
returns-in-Some-default g c =
    let s = g.S.Spec.tests in
    let base = base_text c.args.self.now in
    let t = split_text c.args.reference.now in
    let r = parts c.parts-parts.result.now in
    let none = no_dots r.path (c.seen.ensures.promises.3 c.if-seen.false) in
    matched c.own_before.result (λ (b : Before). (text : List ℕ) → EndsParts s text r b.prefix.now b.directory.now)
    (λ (b : Before). EndsCanonical s base t b.prefix.now b.directory.now)
    (λ b h. h base t (sym c.parts-parts.ensures.split) none) c.own_before.ensures

pub returns-in-None-None : goal.returns-in-None-None
returns-in-None-None g c =
    let s = g.S.Spec.tests in
    let base = base_text c.args.self.now in
    let t = split_text c.args.reference.now in
    let r = parts c.parts-parts.result.now in
    let none = no_dots r.path (c.seen.ensures.promises.3 c.if-seen.false) in
    matched c.base_before.result (λ (b : Before). EndsParts s base r b.prefix.now b.directory.now)
    (λ (b : Before). EndsCanonical s base t b.prefix.now b.directory.now)
    (λ b h. h t (sym c.parts-parts.ensures.split) none) c.base_before.ensures
