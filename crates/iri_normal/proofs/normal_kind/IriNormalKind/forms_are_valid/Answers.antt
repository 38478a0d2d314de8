use Rattle.iri_normal.proofs.normal_forms.Modes.{iri-stays}
use Rattle.iri_normal.proofs.normal_kind.IriNormalKind.forms_are_valid.Goals as goal

pub returns : goal.returns
returns c = iri-stays
