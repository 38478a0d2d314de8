-- The five parts of a reference (RFC 3986 section 3, RFC 3987 section 2.2). A text is the list of its bytes.
use Rattle.std.specs.Prelude.{◌≡◌, ℕ, Bool, true, false, not, ◌&&◌, ◌||◌, ◌==◌, List, [], ◌∷◌, ◌++◌, Option, Some, None, IsSome, IsNone}
use Rattle.iri_grammar.specs.Classes.{Tests}
use Rattle.iri_grammar.specs.Components.{if_there, is_scheme, is_path, is_query, is_fragment}
use Rattle.iri_grammar.specs.Authority.{is_authority}
use Rattle.iri_grammar.specs.Cut.{before, lacks, delimited}
use Rattle.iri_grammar.specs.Characters.{colon, number_sign, question_mark, slash}

-- scheme, authority, path, query and fragment; all but the path may be undefined
pub record Parts : Type 0 where
  pub scheme : Option (List ℕ)
  pub authority : Option (List ℕ)
  pub path : List ℕ
  pub query : Option (List ℕ)
  pub fragment : Option (List ℕ)

-- `scheme:`
abbrev pub scheme_text : Option (List ℕ) → List ℕ
scheme_text None = []
scheme_text (Some x) = x ++ colon ∷ []

-- `//authority`
abbrev pub authority_text : Option (List ℕ) → List ℕ
authority_text None = []
authority_text (Some x) = slash ∷ slash ∷ x

-- recomposition (RFC 3986 section 5.3): [scheme `:`] [`//` authority] path [`?` query] [`#` fragment]
unfoldable pub recompose : Parts → List ℕ
recompose p = scheme_text p.scheme ++ (authority_text p.authority
    ++ (p.path ++ (delimited question_mark p.query ++ delimited number_sign p.fragment)))

abbrev pub is_empty : List ℕ → Bool
is_empty [] = true
is_empty (x ∷ xs) = false

abbrev pub starts_with_slash : List ℕ → Bool
starts_with_slash [] = false
starts_with_slash (x ∷ xs) = x == slash

abbrev pub starts_with_slashes : List ℕ → Bool
starts_with_slashes [] = false
starts_with_slashes (x ∷ xs) = x == slash && starts_with_slash xs

-- the three rules of a path (RFC 3986 section 3.3), given scheme and authority: beside an authority it is
-- `path-abempty`; without one it doesn't begin with `//`; without a scheme too, its first segment has no `:`
abbrev pub path_rules : Option (List ℕ) → Option (List ℕ) → List ℕ → Bool
path_rules sch (Some a) p = is_empty p || starts_with_slash p
path_rules (Some sch) None p = not (starts_with_slashes p)
path_rules None None p = not (starts_with_slashes p) && lacks colon (before slash p)

-- each part is in its production, and the path keeps the rules
pub record Fits (s : Tests) (p : Parts) : Type 0 where
  pub scheme : if_there is_scheme p.scheme ≡ true
  pub authority : if_there (is_authority s) p.authority ≡ true
  pub path : is_path s p.path ≡ true
  pub query : if_there (is_query s) p.query ≡ true
  pub fragment : if_there (is_fragment s) p.fragment ≡ true
  pub rules : path_rules p.scheme p.authority p.path ≡ true

-- the parts are a split of the text t
pub record Splits (s : Tests) (t : List ℕ) (p : Parts) : Type 0 where
  pub fits : Fits s p
  pub text : recompose p ≡ t

-- `URI-reference` (RFC 3986 section 4.1): a text with a split
abbrev pub IsReference : Tests → List ℕ → Type 0
IsReference s t = (p : Parts) × Splits s t p

-- `URI` (section 3): a text with a split that has a scheme
abbrev pub IsIri : Tests → List ℕ → Type 0
IsIri s t = (p : Parts) × Splits s t p × IsSome p.scheme

-- `absolute-URI` (section 4.3): a text with a split that has a scheme and no fragment
abbrev pub IsAbsolute : Tests → List ℕ → Type 0
IsAbsolute s t = (p : Parts) × Splits s t p × IsSome p.scheme × IsNone p.fragment

-- `relative-ref` (section 4.2): a text with a split that has no scheme
abbrev pub IsRelative : Tests → List ℕ → Type 0
IsRelative s t = (p : Parts) × Splits s t p × IsNone p.scheme
