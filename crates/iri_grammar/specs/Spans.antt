-- What an authority's span holds.
use Rattle.iri_grammar.specs.Authority.{AuthorityParts}
use Rattle.iri_grammar.specs.OptionalSlices.{now_of}
use Rattle.iri_grammar.specs.declared.authority.AuthoritySpan.{AuthoritySpan}

-- the parts
abbrev pub span_parts : AuthoritySpan → AuthorityParts
span_parts a = record { userinfo = now_of a.userinfo; host = a.host.now; port = now_of a.port }
