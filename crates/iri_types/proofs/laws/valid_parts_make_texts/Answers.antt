use Rattle.iri_grammar.proofs.faults.MadeLaws.{split-fits}
use Rattle.iri_types.proofs.laws.valid_parts_make_texts.Goals as goal

pub returns : goal.returns
returns g c = record {
  made = g.met.K.WholeKind.made g.S.Spec.tests g.met.S.Spec.lawful;
  parts = λ t h. split-fits g.S.Spec.tests t (g.met.K.WholeKind.whole g.S.Spec.tests g.met.S.Spec.lawful t h);
  allowed = g.met.K.WholeKind.allowed g.S.Spec.tests g.met.S.Spec.lawful;
}
