use Rattle.iri_edit.proofs.LawLemmas.{fragment-split, host-split}
use Rattle.iri_edit.proofs.laws.other_parts_stay.Goals as goal

pub returns : goal.returns
returns g c = record { host = host-split g.S.Spec.tests g.met.S.Spec.lawful; fragment = fragment-split g.S.Spec.tests g.met.S.Spec.lawful }
