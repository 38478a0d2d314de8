use Rattle.iri_resolve.proofs.Common.{sym, ◌∙◌}
use Rattle.iri_resolve.proofs.JoinLemmas.{apart, to-one}
use Rattle.iri_resolve.proofs.join.join_steps_in.Goals as goal

pub returns-then-not-branch : goal.returns-then-not-branch
returns-then-not-branch g c =
    apart g.S.Spec.tests c.args.mode c.args.a.now c.args.b.now g.met.S.Spec.lawful
    (record { fits = c.slices-first.ensures.fits; scheme = c.slices-first.ensures.scheme })
    (record { fits = c.slices-second.ensures.fits; scheme = c.slices-second.ensures.scheme })
    (sym c.in_ok-have_one_normal_text.ensures ∙ c.if-not-branch.true)

pub returns : goal.returns
returns g c =
    to-one g.S.Spec.tests c.args.mode c.args.a.now c.args.b.now c.in_ok-first.first c.in_ok-second.second g.met.S.Spec.lawful
    (record { fits = c.slices-first.ensures.fits; scheme = c.slices-first.ensures.scheme })
    (record { fits = c.slices-second.ensures.fits; scheme = c.slices-second.ensures.scheme })
    (sym c.in_ok-have_one_normal_text.ensures ∙ c.if-not-branch.false) c.in_ok-first.ensures.leads c.in_ok-second.ensures.leads
