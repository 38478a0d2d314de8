use Rattle.std.proofs.Common.{rules}
use Rattle.iri_normal.proofs.Common.{◌≡◌, ◌∙◌, sym, false, is_some, None, Parts, Fits, parts, split_of, prefix_in, base_text}
use Rattle.iri_normal.specs.declared.unchanged.Before.{Before}
use Rattle.iri_normal.specs.inside.Unchanged.{EndsParts, PutsPath, StandBefore}
use Rattle.iri_normal.proofs.targets.PlainReferences.{matched, nothing, parts-unchanged, path-put}
use Rattle.iri_normal.proofs.resolver.FixedBaseResolver.base_before.Goals as goal

pub returns-then-is_empty : goal.returns-then-is_empty
returns-then-is_empty g c =
    let s = g.S.Spec.tests in
    let base = base_text c.args.self.now in
    let r = parts c.args.reference.now in
    let query : c.is_some.result ≡ is_some r.query = search rules in
    matched c.before_query.result (λ (b : Before). PutsPath s (split_of base) c.is_some.result b.prefix.now b.directory.now)
    (λ (b : Before). EndsParts s base r b.prefix.now b.directory.now)
    (λ b h. path-put s base r b.prefix.now b.directory.now c.is_some.result g.met.S.Spec.lawful c.requires.fits c.requires.scheme
    c.requires.authority (nothing c.path-path.result.now (sym c.if-is_empty.ensures) ∙ c.path-path.ensures) query h) c.before_query.ensures

pub returns-else-is_empty : goal.returns-else-is_empty
returns-else-is_empty g c =
    let s = g.S.Spec.tests in
    let base = base_text c.args.self.now in
    let r = parts c.args.reference.now in
    matched c.before_path.result
    (λ (b : Before). (p : Parts) → p.path ≡ c.path-path.result.now → p.scheme ≡ None → p.authority ≡ None → Fits s p
    → StandBefore s (split_of base) p b.prefix.now b.directory.now (prefix_in s false p))
    (λ (b : Before). EndsParts s base r b.prefix.now b.directory.now)
    (λ b h. parts-unchanged s base r b.prefix.now b.directory.now g.met.S.Spec.lawful c.requires.fits
    (h r (sym c.path-path.ensures) c.requires.scheme c.requires.authority c.requires.fits)) c.before_path.ensures
