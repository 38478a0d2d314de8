-- The split of a text, by its first delimiters (RFC 3986 section 3 and appendix B).
use Rattle.std.specs.Prelude.{ℕ, cond, ◌&&◌, List, [], ◌∷◌, Option, Some, None, is_some}
use Rattle.iri_grammar.specs.Components.{is_scheme}
use Rattle.iri_grammar.specs.Authority.{or_all}
use Rattle.iri_grammar.specs.Cut.{before, from, after}
use Rattle.iri_grammar.specs.Parts.{Parts, starts_with_slashes}
use Rattle.iri_grammar.specs.Characters.{colon, number_sign, question_mark, slash}

-- what stands before the first `:`, where it is a scheme
abbrev pub scheme_of : List ℕ → Option (List ℕ)
scheme_of t = cond (is_scheme (before colon t) && is_some (after colon t)) (Some (before colon t)) None

-- what follows the scheme and its colon, or all
abbrev pub after_scheme : List ℕ → List ℕ
after_scheme t = cond (is_scheme (before colon t)) (or_all t (after colon t)) t

abbrev pub after_slashes : List ℕ → List ℕ
after_slashes [] = []
after_slashes (x ∷ []) = []
after_slashes (x ∷ y ∷ xs) = xs

-- the authority stands after `//` up to the next `/`; the rest is the path
abbrev pub authority_of : List ℕ → Option (List ℕ)
authority_of h = cond (starts_with_slashes h) (Some (before slash (after_slashes h))) None

abbrev pub path_of : List ℕ → List ℕ
path_of h = cond (starts_with_slashes h) (from slash (after_slashes h)) h

-- what stands before the first `?` or `#`: `hier-part` or `relative-part`
abbrev pub hier_of : List ℕ → List ℕ
hier_of t = before question_mark (before number_sign t)

-- a scheme, and the parts of what follows it
abbrev pub parts_of : Option (List ℕ) → List ℕ → Parts
parts_of sch r = record {
  scheme = sch;
  authority = authority_of (hier_of r);
  path = path_of (hier_of r);
  query = after question_mark (before number_sign r);
  fragment = after number_sign r;
}

-- the parts of a text read as a reference
unfoldable pub split_of : List ℕ → Parts
split_of t = parts_of (scheme_of t) (after_scheme t)

-- the parts of a text read as a relative reference
unfoldable pub relative_split_of : List ℕ → Parts
relative_split_of t = parts_of None t
