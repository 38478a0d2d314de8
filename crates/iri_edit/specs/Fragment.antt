-- A whole text with another fragment, or none (RFC 3986 section 3.5).
use Rattle.std.specs.Prelude.{ℕ, List, Option}
use Rattle.iri_grammar.specs.Parts.{Parts, recompose}
use Rattle.iri_grammar.specs.Split.{split_of}

-- the five parts, with this fragment or none
abbrev pub fragment_replaced : Option (List ℕ) → Parts → Parts
fragment_replaced f p = record { scheme = p.scheme; authority = p.authority; path = p.path; query = p.query; fragment = f }

-- the text with this fragment, or with none
unfoldable pub with_fragment : List ℕ → Option (List ℕ) → List ℕ
with_fragment t f = recompose (fragment_replaced f (split_of t))
