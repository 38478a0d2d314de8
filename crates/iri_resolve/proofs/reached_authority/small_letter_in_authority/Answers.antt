use Rattle.iri_resolve.proofs.Common.{Some, false, sym, subst, with_small_letter_in_host, IsReadThere, ReadOnThere}
use Rattle.iri_resolve.proofs.ReachedLemmas.{on-there, nothing-there}
use Rattle.iri_resolve.proofs.reached_authority.small_letter_in_authority.Goals as goal

pub returns-in_default : goal.returns-in_default
returns-in_default g c =
    let f = with_small_letter_in_host c.args.i in
    subst (λ o. ReadOnThere g.S.Spec.tests f false o o) (sym c.in_default.is) (nothing-there g.S.Spec.tests f)

pub returns : goal.returns
returns g c =
    let s = g.S.Spec.tests in
    let f = with_small_letter_in_host c.args.i in
    subst (λ o. ReadOnThere s f c.small_letter_in_host.result o (Some c.small_letter_in_host.new.authority)) (sym c.in-Some.is)
    (on-there s f c.small_letter_in_host.result c.in-Some.authority c.small_letter_in_host.new.authority g.met.S.Spec.lawful
    (subst (λ o. IsReadThere s o) c.in-Some.is c.requires) c.small_letter_in_host.ensures)
