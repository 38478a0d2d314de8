use Rattle.iri_percent.proofs.coding.Fragments.{decoding-shorter}
use Rattle.iri_calls.proofs.laws.decoded_bytes_are_few.Goals as goal

pub returns : goal.returns
returns c = decoding-shorter
