use Rattle.iri_normal.proofs.normal_forms.Modes.{absolute-stays}
use Rattle.iri_normal.proofs.normal_kind.AbsoluteNormalKind.forms_are_valid.Goals as goal

pub returns : goal.returns
returns c = absolute-stays
