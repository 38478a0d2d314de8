-- What is known of a site.
use Rattle.std.specs.Prelude.{◌≡◌, ℕ, Bool, true, ◌&&◌, codes, List, ◌++◌, Option, None, Some}
use Rattle.iri_grammar.specs.Components.{if_there, is_scheme}
use Rattle.iri_grammar.specs.Cut.{lacks}
use Rattle.iri_grammar.specs.Characters.{number_sign, question_mark, slash}
use Rattle.iri_grammar.specs.Parts.{Parts}
use Rattle.iri_cli.specs.robots.Answers.{same_part}

-- the scheme and the authority of these parts
pub record IsSiteOf (scheme authority : Option (List ℕ)) (p : Parts) : Type 0 where
  pub scheme_is : scheme ≡ p.scheme
  pub authority_is : authority ≡ p.authority

-- a scheme, and an authority that ends before each of these delimiters
pub record AreSiteParts (scheme authority : Option (List ℕ)) : Type 0 where
  pub scheme_is : if_there is_scheme scheme ≡ true
  pub lacks_hash : if_there (lacks number_sign) authority ≡ true
  pub lacks_mark : if_there (lacks question_mark) authority ≡ true
  pub lacks_slash : if_there (lacks slash) authority ≡ true

-- what a target with both begins with
abbrev pub site_prefix : Option (List ℕ) → Option (List ℕ) → Option (List ℕ)
site_prefix None None = None
site_prefix None (Some b) = None
site_prefix (Some a) None = None
site_prefix (Some a) (Some b) = Some ((a ++ codes "://") ++ b)

-- whether a target is of the site of a scheme and an authority
unfoldable pub is_of_site : Option (List ℕ) → Option (List ℕ) → Parts → Bool
is_of_site scheme authority target = same_part scheme target.scheme && same_part authority target.authority
