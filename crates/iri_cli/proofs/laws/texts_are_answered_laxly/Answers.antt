use Rattle.iri_cli.proofs.LinksLemmas.{lax_answers_are_links}
use Rattle.iri_cli.proofs.laws.texts_are_answered_laxly.Goals as goal

pub returns : goal.returns
returns g c = lax_answers_are_links g.S.Spec.tests
