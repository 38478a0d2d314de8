use Rattle.iri_normal.proofs.Common.{◌∙◌, ap, sym, subst, is_empty, starts_with_slash, now_of, split_of, IsPrefix, base_text}
use Rattle.iri_normal.proofs.targets.PlainReferences.{rooted-before, merged-before}
use Rattle.iri_normal.proofs.resolver.FixedBaseResolver.before_path.Goals as goal

pub returns-then-starts_with_slash : goal.returns-then-starts_with_slash
returns-then-starts_with_slash g c r path scheme authority fits =
    let s = g.S.Spec.tests in
    let b = split_of (base_text c.args.self.now) in
    rooted-before s b r c.in_ok-prefix.prefix.now scheme authority
    (ap is_empty path ∙ c.requires)
    (ap starts_with_slash path ∙ sym c.starts_with_slash.ensures ∙ c.if-starts_with_slash.true) fits
    (subst (λ o. IsPrefix s b (now_of o)) c.in_ok-prefix.was c.args.self.now.prepared.1)

pub returns-then-self : goal.returns-then-self
returns-then-self g c r path scheme authority fits =
    let s = g.S.Spec.tests in
    let b = split_of (base_text c.args.self.now) in
    let base = c.args.self.now.prepared in
    merged-before s b r c.in_ok-prefix.prefix.now c.args.self.now.directory.text.now scheme authority
    (ap is_empty path ∙ c.requires)
    (ap starts_with_slash path ∙ sym c.if-starts_with_slash.ensures)
    (subst (λ o. IsPrefix s b (now_of o)) c.in_ok-prefix.was base.1) base.0 c.args.self.now.directory.ends (base.2 c.if-self.true)
