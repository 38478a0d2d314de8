use Rattle.iri_resolve.proofs.Common.{Some, None, true, false, sym, ◌∙◌, ap, subst, now_of, is_port_dropped, IsReadThere, ReadOnThere}
use Rattle.iri_resolve.proofs.Common.{without_dropped_port}
use Rattle.iri_resolve.proofs.ReachedLemmas.{dropped-on, dropped-stays, nothing-there}
use Rattle.iri_resolve.proofs.reached_authority.without_dropped_port.Goals as goal

pub returns-in_default : goal.returns-in_default
returns-in_default g c = subst (λ o. ReadOnThere g.S.Spec.tests (λ p. without_dropped_port (now_of c.args.dropped) p p.port) false o o) (sym c.in_default.is)
    (nothing-there g.S.Spec.tests (λ p. without_dropped_port (now_of c.args.dropped) p p.port))

pub returns-then-not-is_dropped_port : goal.returns-then-not-is_dropped_port
returns-then-not-is_dropped_port g c = subst (λ o. ReadOnThere g.S.Spec.tests (λ p. without_dropped_port (now_of c.args.dropped) p p.port) false o (Some c.in-Some.authority)) (sym c.in-Some.is)
    (dropped-stays g.S.Spec.tests (now_of c.args.dropped) c.in-Some.authority g.met.S.Spec.lawful (subst (λ o. IsReadThere g.S.Spec.tests o) c.in-Some.is c.requires)
    (ap (λ o. is_port_dropped (now_of c.args.dropped) o) (sym c.borrowed.ensures) ∙ sym c.is_dropped_port.ensures ∙ c.if-not-is_dropped_port.true))

pub returns : goal.returns
returns g c = subst (λ o. ReadOnThere g.S.Spec.tests (λ p. without_dropped_port (now_of c.args.dropped) p p.port) true o (Some (record c.in-Some.authority { port = None }))) (sym c.in-Some.is)
    (dropped-on g.S.Spec.tests (now_of c.args.dropped) c.in-Some.authority g.met.S.Spec.lawful (subst (λ o. IsReadThere g.S.Spec.tests o) c.in-Some.is c.requires)
    (ap (λ o. is_port_dropped (now_of c.args.dropped) o) (sym c.borrowed.ensures) ∙ sym c.is_dropped_port.ensures ∙ c.if-not-is_dropped_port.false))
