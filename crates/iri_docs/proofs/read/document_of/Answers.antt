use Rattle.std.proofs.Common.{rules, arith, ◌≡◌, ◌∙◌, Some, option_map}
use Rattle.std.proofs.lemmas.Grind.{common_steps}
use Rattle.serde_json.specs.View.{view}
use Rattle.iri_docs.specs.Documents.{document, vars_of, with_vars}
use Rattle.iri_docs.proofs.read.document_of.Goals as goal

pub returns-clause-fault : goal.returns-clause-fault
returns-clause-fault c = λ f is.
    let same : with_vars (Some c.in_ok-template.template.now) (vars_of (option_map (λ v. view v.now) c.get-2.result)) ≡ document (view c.args.value.now) =
    first_of (search rules, grind (arith, common_steps)) in
    c.with_vars.ensures.fault f (same ∙ is)
