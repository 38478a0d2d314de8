-- The parts of a text, held as slices, and how many bytes they have.
use Rattle.std.specs.Prelude.{◌+◌, ℕ, List, Option, length}
use denote.Ref.{Bor}
use Rattle.iri_grammar.specs.Authority.{AuthorityParts}
use Rattle.iri_grammar.specs.OptionalSlices.{now_of}
use Rattle.iri_grammar.specs.Parts.{Parts}
use Rattle.iri_calls.specs.Slots.{width}

abbrev pub five : Option (Bor (List ℕ)) → Option (Bor (List ℕ)) → Bor (List ℕ) → Option (Bor (List ℕ)) → Option (Bor (List ℕ)) → Parts
five scheme authority path query fragment = record {
  scheme = now_of scheme;
  authority = now_of authority;
  path = path.now;
  query = now_of query;
  fragment = now_of fragment;
}

-- the bytes of a recomposed authority, and of a recomposed reference (RFC 3986 sections 3.2 and 5.3)
abbrev pub authority_total : AuthorityParts → ℕ
authority_total a = width 1 a.userinfo + length a.host + width 1 a.port

abbrev pub total : Parts → ℕ
total p = width 1 p.scheme + width 2 p.authority + length p.path + width 1 p.query + width 1 p.fragment
