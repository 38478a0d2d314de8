-- A whole text with the parts of its authority changed (RFC 3986 section 3.2).
use Rattle.std.specs.Prelude.{ℕ, List, Option, Some, None}
use Rattle.iri_grammar.specs.Authority.{AuthorityParts, authority_parts, recompose_authority}
use Rattle.iri_grammar.specs.Parts.{Parts, recompose}
use Rattle.iri_grammar.specs.Split.{split_of}

-- an authority, where one stands, with its parts changed by f
abbrev pub edited_authority : (AuthorityParts → AuthorityParts) → Option (List ℕ) → Option (List ℕ)
edited_authority f None = None
edited_authority f (Some a) = Some (recompose_authority (f (authority_parts a)))

-- the five parts, with those of the authority changed by f
abbrev pub edited_parts : (AuthorityParts → AuthorityParts) → Parts → Parts
edited_parts f p = record {
  scheme = p.scheme;
  authority = edited_authority f p.authority;
  path = p.path;
  query = p.query;
  fragment = p.fragment;
}

-- the text with the parts of its authority changed by f; a text without authority stays
unfoldable pub edited : (AuthorityParts → AuthorityParts) → List ℕ → List ℕ
edited f t = recompose (edited_parts f (split_of t))
