use Rattle.iri_grammar.proofs.faults.MadeLaws.{made-split, made-reference, made-iri, made-absolute, made-relative, split-fits}
use Rattle.iri_grammar.proofs.laws.valid_parts_make_wholes.Goals as goal

pub returns : goal.returns
returns g c = record {
  split = made-split g.S.Spec.tests g.met.S.Spec.lawful;
  reference = made-reference g.S.Spec.tests g.met.S.Spec.lawful;
  iri = made-iri g.S.Spec.tests g.met.S.Spec.lawful;
  absolute = made-absolute g.S.Spec.tests g.met.S.Spec.lawful;
  relative = made-relative g.S.Spec.tests g.met.S.Spec.lawful;
  parts = split-fits g.S.Spec.tests;
}
