use Rattle.iri_grammar.proofs.Common.{ap, subst, ◌∙◌, Answers, bytes_fault, reference_fault}
use Rattle.iri_grammar.proofs.splits.TextParts.{text_fault}
use Rattle.iri_grammar.proofs.splitter.Splitter.new.Goals as goal

pub returns-clause-fault : goal.returns-clause-fault
returns-clause-fault g c =
    let f = reference_fault g.S.Spec.tests in
    subst (Answers c.from_bytes.result) (ap (bytes_fault f) c.as_bytes.ensures.value ∙ text_fault f c.args.text.now c.utf8.text) c.from_bytes.ensures.fault
