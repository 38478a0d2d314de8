use Rattle.iri_grammar.proofs.Common.{subst, sym, Splits}
use Rattle.iri_grammar.proofs.faults.FaultLaws.{splits_where_no_fault}
use Rattle.iri_grammar.proofs.splitter.Splitter.of.Goals as goal

pub returns-clause-split : goal.returns-clause-split
returns-clause-split g c = subst (λ p. Splits g.S.Spec.tests c.args.text.now p) (sym c.in-Ok.ensures.value)
    (splits_where_no_fault g.S.Spec.tests c.args.text.now c.requires)
