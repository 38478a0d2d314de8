use Rattle.iri_docs.proofs.Common.{◌≡◌, ◌∙◌, Ok, Err, string_bytes, sym, ap, value_in, AnswersBut, expanded, expansion_within, Memory}
use Rattle.iri_normal.specs.Resolver.{base_text}
use Rattle.iri_docs.specs.Held.{held}
use Rattle.iri_docs.proofs.ExpandLemmas.{all_expanded}
use Rattle.iri_docs.proofs.FaultLemmas.{error_or, tells_ok}
use Rattle.iri_docs.proofs.expand.expand_document_against_in.Goals as goal

pub returns-in-Ok : goal.returns-in-Ok
returns-in-Ok g c =
    let s = g.S.Spec.tests in
    let d = c.args.document.now in
    let is : expansion_within s (value_in d.context) (string_bytes d.template) ≡ Ok c.as_str.result.now =
    ap (λ v. expansion_within s v (string_bytes d.template)) (sym c.context.ensures)
    ∙ (ap (expansion_within s (value_in c.context.result.now)) (sym c.template.ensures)
    ∙ (c.in-Ok.ensures.answer ∙ ap Ok (sym c.as_str.ensures.value))) in
    let told : AnswersBut Memory (λ t. t.text) c.canonicalize.result (expanded s c.args.mode (base_text c.args.resolver.now) (held d).value_of (held d).template) =
    rw is c.canonicalize.ensures in
    record {
      expanded = all_expanded s c.args.mode g.met.S.Spec.lawful (base_text c.args.resolver.now) (held d) c.canonicalize.result told;
      answer = told;
      fault = tells_ok _ _ _ is;
    }

pub returns-in-Err-clause-fault : goal.returns-in-Err-clause-fault
returns-in-Err-clause-fault g c = λ f is.
    let s = g.S.Spec.tests in
    let d = c.args.document.now in
    let same : expansion_within s (value_in c.context.result.now) c.template.result.now ≡ expansion_within s (value_in d.context) (string_bytes d.template) =
    ap (λ v. expansion_within s v c.template.result.now) c.context.ensures ∙ ap (expansion_within s (value_in d.context)) c.template.ensures in
    ap Err (ap (error_or c.in-Err.error) (c.in-Err.ensures.fault f (same ∙ is)))
