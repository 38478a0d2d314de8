use Rattle.iri_docs.proofs.Common.{AnswersBut, expanded, IsExpanded, Memory}
use Rattle.std.proofs.Common.{subst}
use Rattle.std.specs.Prelude.{IfOk}
use Rattle.iri_docs.specs.Held.{held}
use Rattle.iri_docs.proofs.expand.expand_document_in.Goals as goal

pub returns : goal.returns
returns g c =
    let s = g.S.Spec.tests in
    let d = held c.args.document.now in
    let told = c.expand_document_against_in in
    record {
      expanded = subst (λ b. IfOk told.result (λ t. IsExpanded s c.args.mode b d t.text)) c.new.ensures told.ensures.expanded;
      answer = subst (λ b. AnswersBut Memory (λ t. t.text) told.result (expanded s c.args.mode b d.value_of d.template)) c.new.ensures told.ensures.answer;
      fault = told.ensures.fault;
    }
