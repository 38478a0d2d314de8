use Rattle.iri_grammar.proofs.Common.{subst, Answers}
use Rattle.iri_grammar.proofs.faults.Scans.{scheme-fault}
use Rattle.iri_grammar.proofs.splitter.Splitter.from_bytes.Goals as goal

pub returns-clause-fault : goal.returns-clause-fault
returns-clause-fault g c =
    let cut = c.cut_scheme in
    subst (Answers c.after.result) (scheme-fault g.S.Spec.tests _ c.args.bytes.now cut.result.rest.now cut.ensures.scheme cut.ensures.rest cut.ensures.text)
    c.after.ensures.fault
