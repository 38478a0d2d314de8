use Rattle.std.proofs.Common.{sym, subst}
use Rattle.std.proofs.Math.Logic.{∥∥₁_elim}
use Rattle.std.proofs.Props.{props}
use Rattle.iri_grammar.proofs.faults.FaultLaws.{splits_where_no_fault}
use Rattle.iri_grammar.specs.Parts.{Fits}
use Rattle.iri_types.proofs.split.SplitView.parts.Goals as goal

pub returns-clause-fits : goal.returns-clause-fits
returns-clause-fits g c =
    let v = c.args.self.now in
    let s = g.S.Spec.tests in
    let none = ∥∥₁_elim v.view.valid (hlevel props) (g.met.K.WholeKind.whole s g.met.S.Spec.lawful v.view.text.now) in
    subst (Fits s) (sym v.is_cut) (splits_where_no_fault s v.view.text.now none).fits
