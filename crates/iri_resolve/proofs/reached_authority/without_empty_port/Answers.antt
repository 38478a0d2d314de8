use Rattle.iri_resolve.proofs.Common.{Some, None, true, false, sym, ◌∙◌, ap, subst, IsReadThere, ReadOnThere, is_port_empty}
use Rattle.iri_resolve.proofs.Common.{without_empty_port}
use Rattle.iri_resolve.proofs.ReachedLemmas.{empty-on, empty-stays, nothing-there}
use Rattle.iri_resolve.proofs.reached_authority.without_empty_port.Goals as goal

pub returns-in_default : goal.returns-in_default
returns-in_default g c = subst (λ o. ReadOnThere g.S.Spec.tests (λ p. without_empty_port p p.port) false o o) (sym c.in_default.is)
    (nothing-there g.S.Spec.tests (λ p. without_empty_port p p.port))

pub returns-then-not-is_empty_port : goal.returns-then-not-is_empty_port
returns-then-not-is_empty_port g c = subst (λ o. ReadOnThere g.S.Spec.tests (λ p. without_empty_port p p.port) false o (Some c.in-Some.authority)) (sym c.in-Some.is)
    (empty-stays g.S.Spec.tests c.in-Some.authority g.met.S.Spec.lawful (subst (λ o. IsReadThere g.S.Spec.tests o) c.in-Some.is c.requires)
    (ap (λ o. is_port_empty o) (sym c.borrowed.ensures) ∙ sym c.is_empty_port.ensures ∙ c.if-not-is_empty_port.true))

pub returns : goal.returns
returns g c = subst (λ o. ReadOnThere g.S.Spec.tests (λ p. without_empty_port p p.port) true o (Some (record c.in-Some.authority { port = None }))) (sym c.in-Some.is)
    (empty-on g.S.Spec.tests c.in-Some.authority g.met.S.Spec.lawful (subst (λ o. IsReadThere g.S.Spec.tests o) c.in-Some.is c.requires)
    (ap (λ o. is_port_empty o) (sym c.borrowed.ensures) ∙ sym c.is_empty_port.ensures ∙ c.if-not-is_empty_port.false))
