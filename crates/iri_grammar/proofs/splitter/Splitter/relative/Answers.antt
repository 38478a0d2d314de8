use Rattle.iri_grammar.proofs.Common.{◌∙◌, None, ap, refl, subst, Answers, bytes_fault, relative_split_of}
use Rattle.iri_grammar.specs.inside.Scans.{fault_after}
use Rattle.iri_grammar.proofs.splits.FirstColons.{relative-colon}
use Rattle.iri_grammar.proofs.splits.TextParts.{text_fault}
use Rattle.iri_grammar.proofs.splitter.Splitter.relative.Goals as goal

pub after-requires : goal.after-requires
after-requires g c = (λ _. refl, c.lacks_first_colon.ensures ∙ relative-colon c.as_bytes-bytes.result.now)

pub returns-clause-fault : goal.returns-clause-fault
unfolding relative_split_of
returns-clause-fault g c =
    let f = fault_after g.S.Spec.tests None in
    subst (Answers c.after.result) (ap (bytes_fault f) c.as_bytes-bytes.ensures.value ∙ text_fault f c.args.text.now c.utf8.text) c.after.ensures.fault
