-- What a splitter holds.
use Rattle.iri_grammar.specs.Parts.{Parts}
use Rattle.iri_grammar.specs.OptionalSlices.{now_of}
use Rattle.iri_grammar.specs.declared.seen.Seen.{Seen}
use Rattle.iri_grammar.specs.declared.splitter.Splitter.{Splitter}

-- its five parts
abbrev pub parts : Splitter → Parts
parts s = record {
  scheme = now_of s.scheme;
  authority = now_of s.authority;
  path = s.path.now;
  query = now_of s.query;
  fragment = now_of s.fragment;
}

-- the notes of its scan
abbrev pub seen : Splitter → Seen
seen s = s.seen
