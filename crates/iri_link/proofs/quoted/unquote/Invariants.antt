use Rattle.iri_link.proofs.Common.{◌≡◌, ◌++◌, string_bytes, length, Utf8, shadow, unquoted}
use Rattle.iri_link.proofs.quoted.unquote.Given as goal

-- what is written, and the value of what is left, are the value
abbrev pub invariant-chunks : goal.invariant-chunks
invariant-chunks l = record {
  utf8 : shadow (Utf8 l.rest);
  same : string_bytes l.value ++ unquoted l.rest ≡ unquoted l.raw;
}

abbrev pub decreases-chunks : goal.decreases-chunks
decreases-chunks l = length l.rest
