use Rattle.iri_calls.proofs.Common.{◌*◌, length, iri_tests, bytes_fault, reference_fault, BAD_TEXT, text}
use Rattle.iri_percent.specs.Mapping.{mapped}
use Rattle.iri_calls.proofs.BoundLemmas.{short_mapped, where_valid}
use Rattle.iri_calls.proofs.laws.mapped_texts_are_short.Goals as goal

pub returns : goal.returns
returns c = λ t. where_valid (3 * length t) BAD_TEXT (bytes_fault (reference_fault iri_tests) t) (text (mapped t)) (λ r. short_mapped t)
