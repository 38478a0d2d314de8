use Rattle.iri_resolve.proofs.SchemeSteps.{joined_in-exactly, texts_in-exactly}
use Rattle.iri_resolve.proofs.laws.steps_join_what_has_one_normal_form.Goals as goal

pub returns : goal.returns
returns g c = record {
  joined = λ m t u f i h j. joined_in-exactly g.S.Spec.tests m t u g.met.S.Spec.lawful f i h j;
  texts = λ m t u f i h j. texts_in-exactly g.S.Spec.tests m t u g.met.S.Spec.lawful f i h j;
}
