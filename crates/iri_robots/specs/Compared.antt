-- The form in which patterns and subjects are compared (RFC 9309 section 2.2.2). A text is the list of its bytes.
use Rattle.std.specs.Prelude.{ℕ, List, [], ◌∷◌, ◌++◌, Option, Some, None}
use Rattle.iri_grammar.specs.Characters.{slash, question_mark}
use Rattle.iri_grammar.specs.Classes.{uri_tests}
use Rattle.iri_grammar.specs.Parts.{Parts}
use Rattle.iri_percent.specs.Mapping.{mapped}
use Rattle.iri_percent.specs.Triplets.{pct}

-- a text mapped to URIs (RFC 3987 section 3.1), in triplet normal form (RFC 3986 section 6.2.2); a stray `%` stays
unfoldable pub compared : List ℕ → List ℕ
compared t = pct uri_tests (mapped t)

-- the path, or `/` where it is empty
abbrev pub path_text : List ℕ → List ℕ
path_text [] = slash ∷ []
path_text (c ∷ p) = c ∷ p

-- the query after its question mark
abbrev pub query_text : Option (List ℕ) → List ℕ
query_text None = []
query_text (Some q) = question_mark ∷ q

-- what of a reference of these parts is matched: its path, and its query where it has one
abbrev pub subject : Parts → List ℕ
subject t = compared (path_text t.path ++ query_text t.query)
