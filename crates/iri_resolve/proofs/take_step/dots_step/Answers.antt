use Rattle.iri_resolve.proofs.Common.{◌∙◌, ap, string_bytes, IfOk-weaker, dots, guard, other_than}
use Rattle.iri_percent.specs.declared.canon_mode.CanonMode.TheVariants.{Default}
use Rattle.iri_resolve.proofs.ReachedLemmas.{dots-reached}
use Rattle.iri_resolve.proofs.take_step.dots_step.Goals as goal

pub returns : goal.returns
returns g c =
    let r = c.args.reached.now in
    IfOk-weaker c.without_dots.result _ _
    (λ b h. dots-reached g.S.Spec.tests Default b r c.without_dots.new.path c.requires
    (h ∙ ap (λ v. other_than (string_bytes r.path) (guard (dots (string_bytes r.path)) v)) c.is_some-stands.ensures)) c.without_dots.ensures
