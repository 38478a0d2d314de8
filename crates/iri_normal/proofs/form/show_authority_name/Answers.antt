use Rattle.iri_normal.proofs.Common.{◌∙◌, cond, sym, ap, now_of, normal_authority_in}
use Rattle.iri_normal.proofs.ShownTexts.{shows_same}
use Rattle.iri_normal.proofs.form.show_authority_name.Goals as goal

pub returns-then-normal : goal.returns-then-normal
returns-then-normal g c =
    let s = g.S.Spec.tests in
    let a = c.args.authority.now in
    let d = now_of c.args.dropped in
    shows_same (ap (normal_authority_in s (now_of c.new.result.dropped_port)) c.new.ensures.0 ∙ ap (λ o. normal_authority_in s o a) c.new.ensures.1
    ∙ sym (ap (λ b. cond b (normal_authority_in s d a) a) c.if-normal.true)) c.show.ensures
