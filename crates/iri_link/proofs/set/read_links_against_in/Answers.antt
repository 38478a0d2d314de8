use Rattle.iri_link.proofs.Common.{ap, ◌∙◌, base_text, subst, MatchResult, IsReadIn, field_fault}
use Rattle.iri_link.specs.Refusals.{RefusedBy}
use Rattle.iri_link.proofs.AnswerLemmas.{fault_refused}
use Rattle.iri_link.proofs.set.read_links_against_in.Goals as goal

pub read_valid-requires : goal.read_valid-requires
read_valid-requires g c = ap (field_fault g.S.Spec.tests) c.in-Ok.ensures.0 ∙ c.in-Ok.ensures.1

pub returns-in-Ok : goal.returns-in-Ok
returns-in-Ok g c =
    let s = g.S.Spec.tests in
    subst (λ x. MatchResult c.read_valid.result (IsReadIn s c.args.mode (base_text c.args.resolver.now) x) (RefusedBy s x)) c.in-Ok.ensures.0 c.read_valid.ensures

pub returns-in-Err : goal.returns-in-Err
returns-in-Err g c = fault_refused g.S.Spec.tests c.args.field.now c.in-Err.kind c.in-Err.place c.in-Err.ensures
