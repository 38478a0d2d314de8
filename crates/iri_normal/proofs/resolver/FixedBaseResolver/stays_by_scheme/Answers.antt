use Rattle.iri_normal.proofs.Common.{◌∙◌, ◌&&◌, ap, sym, is_empty, not-true, now_of, parts, split_of, base_text}
use Rattle.iri_normal.specs.inside.SchemeRules.{ends_in_port}
use Rattle.iri_normal.proofs.targets.SchemeRules.{hosted-stays, own-stays, path-stays}
use Rattle.iri_normal.proofs.resolver.FixedBaseResolver.stays_by_scheme.Goals as goal

pub returns-in-Some-default : goal.returns-in-Some-default
returns-in-Some-default g c h =
    let stays = c.stays_by_scheme.ensures h in
    own-stays (split_of (base_text c.args.self.now)) (parts c.args.reference.now) c.in-Some-default.field-0-0.now
    (sym c.scheme.ensures ∙ ap now_of c.in-Some-default.is-0) (ap ends_in_port (sym c.authority-authority.ensures) ∙ stays.0)
    (ap is_empty (sym c.path.ensures) ∙ stays.1)

pub returns-then-self : goal.returns-then-self
returns-then-self g c h =
    let b = split_of (base_text c.args.self.now) in
    path-stays b (parts c.args.reference.now) (sym c.scheme.ensures ∙ ap now_of c.in-None-None.is-0)
    (sym c.authority-authority.ensures ∙ ap now_of c.in-None-None.is-1) (c.args.self.now.prepared.5 c.if-self.true)
    (ap (λ p. is_empty p && is_empty b.path) (sym c.path-then-self.ensures) ∙ (sym c.lacks_path.ensures ∙ not-true c.lacks_path.result h))

pub returns-in-None-Some : goal.returns-in-None-Some
returns-in-None-Some g c h =
    let stays = c.stays_by_scheme-in-None-Some.ensures h in
    hosted-stays (split_of (base_text c.args.self.now)) (parts c.args.reference.now) c.in-None-Some.authority.now
    (sym c.scheme.ensures ∙ ap now_of c.in-None-Some.is-0) (sym c.authority-authority.ensures ∙ ap now_of c.in-None-Some.is-1) stays.0
    (ap is_empty (sym c.path-in-None-Some.ensures) ∙ stays.1)
