use Rattle.iri_grammar.specs.Parts.{IsReference, IsIri, IsAbsolute, IsRelative}
use Rattle.iri_grammar.proofs.splits.SplitUnique.{splits-utf8}
use Rattle.iri_grammar.specs.WholeFault.{reference_fault, iri_fault, absolute_fault, relative_fault}
use Rattle.iri_grammar.proofs.faults.FaultLaws.{of_bytes, reference-law, iri-law, absolute-law, relative-law, reference-utf8}
use Rattle.iri_grammar.proofs.laws.no_fault_of_wholes.Goals as goal

pub returns : goal.returns
returns g c =
    let s = g.S.Spec.tests in
    let k = g.met.S.Spec.lawful in
    record {
      reference = λ bs. of_bytes (reference_fault s) (IsReference s bs) bs (λ r. splits-utf8 s bs r.0 r.1) (reference-law s k bs);
      iri = λ bs. of_bytes (iri_fault s) (IsIri s bs) bs (λ r. splits-utf8 s bs r.0 r.1) (iri-law s k bs);
      absolute = λ bs. of_bytes (absolute_fault s) (IsAbsolute s bs) bs (λ r. splits-utf8 s bs r.0 r.1) (absolute-law s k bs);
      relative = λ bs. of_bytes (relative_fault s) (IsRelative s bs) bs (λ r. splits-utf8 s bs r.0 r.1) (relative-law s k bs);
      utf8 = reference-utf8 s;
    }
