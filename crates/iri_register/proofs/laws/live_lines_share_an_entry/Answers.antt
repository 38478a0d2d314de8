use Rattle.iri_register.proofs.ShareLemmas.{share_exactly, share_joined}
use Rattle.iri_register.proofs.laws.live_lines_share_an_entry.Goals as goal

pub returns : goal.returns
returns g c = record {
  targets = λ cs l m h _. share_exactly cs l m h;
  steps = λ mode cs base q r m n b hq hr h _. share_joined g.S.Spec.tests mode cs base q r m n g.met.S.Spec.lawful b hq hr h;
}
