use Rattle.iri_calls.proofs.Common.{◌+◌, false, length, bytes_fault, split_of, iri_fault, BAD_TEXT, text, in_grammar}
use Rattle.iri_normal.specs.Normalized.{written_text}
use Rattle.iri_calls.proofs.BoundLemmas.{in_each, in_each_grammar, short_form, where_valid}
use Rattle.iri_calls.specs.Numbers.{form_numbered}
use Rattle.iri_calls.specs.Resolutions.{normalized_as}
use Rattle.iri_calls.proofs.laws.normal_forms_are_short.Goals as goal

pub returns : goal.returns
returns c = λ grammar mode t. in_each (length t + 3) (form_numbered mode) (λ m. in_grammar grammar (normalized_as m t))
    (λ m. in_each_grammar (length t + 3) grammar (normalized_as m t) (λ s k. where_valid (length t + 3) BAD_TEXT (bytes_fault (iri_fault s) t)
    (text (written_text s (record { parts = split_of t; whole = false; mode = m }))) (short_form s m t k)))
