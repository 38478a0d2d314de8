use Rattle.std.proofs.Common.{◌≡◌, ◌++◌, length, map, string_bytes}
use denote.Text.{Utf8}
use denote.Shadow.{shadow}
use Rattle.iri_grammar.specs.Pieces.{pieces}
use Rattle.iri_grammar.specs.Blanks.{space}
use Rattle.iri_run_calls.proofs.words_in.Given as goal

abbrev pub invariant-words : goal.invariant-words
invariant-words l = record {
  utf8 : shadow (Utf8 l.rest);
  words : map string_bytes l.words.items ++ pieces space l.rest ≡ pieces space l.text;
}

abbrev pub decreases-words : goal.decreases-words
decreases-words l = length l.rest
