use Rattle.iri_calls.proofs.Common.{◌*◌, length, bytes_fault, encoded_as, no_fault, BAD_TEXT, in_grammar}
use Rattle.iri_calls.proofs.BoundLemmas.{in_each_grammar, short_encoding, where_valid}
use Rattle.iri_calls.proofs.laws.encoded_texts_are_short.Goals as goal

pub returns : goal.returns
returns c = λ grammar place t. where_valid (3 * length t) BAD_TEXT (bytes_fault no_fault t) (in_grammar grammar (encoded_as place t))
    (λ e. in_each_grammar (3 * length t) grammar (encoded_as place t) (λ s k. short_encoding s place t e))
