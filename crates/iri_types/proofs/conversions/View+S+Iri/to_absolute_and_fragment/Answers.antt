use Rattle.std.proofs.Math.Logic.{∥∥₁_elim}
use Rattle.std.proofs.Props.{props}
use Rattle.iri_types.proofs.KindTexts.{prefix-joined}
use Rattle.iri_types.proofs.conversions.View+S+Iri.to_absolute_and_fragment.Goals as goal

pub returns-clause-joined : goal.returns-clause-joined
returns-clause-joined g c =
    rw (c.to_absolute.ensures, c.fragment.ensures)
    (∥∥₁_elim c.args.self.valid (hlevel props) (λ valid. prefix-joined g.S.Spec.tests g.met.S.Spec.lawful c.args.self.text.now valid))
