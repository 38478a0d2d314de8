use Rattle.iri_cli.proofs.Common.{arith, room-same}
use Rattle.iri_cli.proofs.generator.generate.Goals as goal

pub returns-in-Err-clause-room : goal.returns-in-Err-clause-room
returns-in-Err-clause-room g c = room-same _ _ (λ _ five. absurd (omega (arith, five)))
