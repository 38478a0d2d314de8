use Rattle.iri_resolve.proofs.Common.{Some, false, sym, subst, in_userinfo_or_host, change_of, IsReadThere, ReadOnThere}
use Rattle.iri_resolve.proofs.ReachedLemmas.{on-there, nothing-there}
use Rattle.iri_resolve.proofs.reached_authority.changed_in_authority.Goals as goal

pub returns-in_default : goal.returns-in_default
returns-in_default g c =
    let f = in_userinfo_or_host (change_of g.S.Spec.tests c.args.change) c.args.i in
    subst (λ o. ReadOnThere g.S.Spec.tests f false o o) (sym c.in_default.is) (nothing-there g.S.Spec.tests f)

pub returns : goal.returns
returns g c =
    let s = g.S.Spec.tests in
    let f = in_userinfo_or_host (change_of g.S.Spec.tests c.args.change) c.args.i in
    subst (λ o. ReadOnThere s f c.in_ok-went.went o (Some c.changed_in_parts.new.authority)) (sym c.in-Some.is)
    (on-there s f c.in_ok-went.went c.in-Some.authority c.changed_in_parts.new.authority g.met.S.Spec.lawful
    (subst (λ o. IsReadThere s o) c.in-Some.is c.requires) c.in_ok-went.ensures)
