use Rattle.iri_edit.proofs.LawLemmas.{masked-again}
use Rattle.iri_edit.proofs.UnchangedTexts.{with_password-same, without_password-same}
use Rattle.iri_edit.proofs.laws.masked_again_is_itself.Goals as goal

pub returns : goal.returns
returns g c = record {
  masked = masked-again g.S.Spec.tests g.met.S.Spec.lawful;
  same = with_password-same;
  without = without_password-same;
}
