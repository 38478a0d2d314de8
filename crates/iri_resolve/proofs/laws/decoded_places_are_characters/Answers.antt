use Rattle.iri_resolve.proofs.ChangedLemmas.{decoded-place}
use Rattle.iri_resolve.proofs.laws.decoded_places_are_characters.Goals as goal

pub returns : goal.returns
returns g c = λ t u i w h. decoded-place g.S.Spec.tests t u i w h
