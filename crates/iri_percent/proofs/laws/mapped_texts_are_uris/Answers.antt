use Rattle.iri_percent.proofs.mapping.Productions.{mapped-reference, mapped-iri, mapped-absolute, mapped-relative, mapped-query, mapped-fragment}
use Rattle.iri_percent.proofs.mapping.Productions.{mapped-split}
use Rattle.iri_percent.proofs.laws.mapped_texts_are_uris.Goals as goal

pub returns : goal.returns
returns g c =
    let s = g.S.Spec.tests in
    let k = g.met.S.Spec.lawful in
    record {
      reference = λ t h. mapped-reference s t k h;
      iri = λ t h. mapped-iri s t k h;
      absolute = λ t h. mapped-absolute s t k h;
      relative = λ t h. mapped-relative s t k h;
      query = λ t h. mapped-query s t k h;
      fragment = λ t h. mapped-fragment s t k h;
      parts = λ t h. mapped-split s t k h;
    }
