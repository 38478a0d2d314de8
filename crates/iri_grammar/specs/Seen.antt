-- What a scan notes of a reference. A note that is absent promises; one that is there promises nothing.
use Rattle.std.specs.Prelude.{◌≡◌, ℕ, Bool, true, false, not, ◌&&◌, ◌||◌, ◌==◌, List, [], ◌∷◌, Option, Some, None, is_some}
use Rattle.std.specs.Char.{is_ascii_uppercase}
use Rattle.std.specs.List.{list_all}
use Rattle.iri_grammar.specs.Authority.{authority_parts}
use Rattle.iri_grammar.specs.Characters.{dot, percent_sign, slash}
use Rattle.iri_grammar.specs.ClassTests.{ascii_test}
use Rattle.iri_grammar.specs.Components.{if_there}
use Rattle.iri_grammar.specs.Cut.{lacks}
use Rattle.iri_grammar.specs.Parts.{Parts}
use Rattle.iri_grammar.specs.declared.class.Class.TheVariants.{RegName}
use Rattle.iri_grammar.specs.declared.seen.Seen.{Seen}

abbrev pub is_small : ℕ → Bool
is_small x = not (is_ascii_uppercase x)

-- ---- dot segments (RFC 3986 section 5.2.4)
-- what follows a percent sign where both are a triplet of a dot
abbrev pub goes_on_as_dot : List ℕ → Bool
goes_on_as_dot (y ∷ z ∷ xs) = y == 50 && (z == 69 || z == 101)
goes_on_as_dot xs = false

-- a dot stands at the start, in any spelling
abbrev pub begins_dot : List ℕ → Bool
begins_dot [] = false
begins_dot (x ∷ xs) = x == dot || x == percent_sign && goes_on_as_dot xs

-- the same after a slash at the start
abbrev pub slash_and_dot : List ℕ → Bool
slash_and_dot [] = false
slash_and_dot (x ∷ xs) = x == slash && begins_dot xs

-- the same after any slash
abbrev pub has_slash_and_dot : List ℕ → Bool
has_slash_and_dot [] = false
has_slash_and_dot (x ∷ xs) = slash_and_dot (x ∷ xs) || has_slash_and_dot xs

-- a segment begins so, and may be a dot segment
abbrev pub may_have_dots : List ℕ → Bool
may_have_dots path = begins_dot path || has_slash_and_dot path

-- ---- authorities (RFC 3986 section 3.2)
abbrev pub is_kept_port : Option (List ℕ) → Bool
is_kept_port None = true
is_kept_port (Some []) = false
is_kept_port (Some (x ∷ xs)) = true

-- no userinfo, a registered name in ASCII without triplets, and no port or one that isn't empty
unfoldable pub is_plain_authority : List ℕ → Bool
is_plain_authority a = not (is_some (authority_parts a).userinfo)
    && (list_all (ascii_test RegName) (authority_parts a).host && is_kept_port (authority_parts a).port)

-- ---- what the notes promise of the parts
abbrev pub Promises : Seen → Parts → Type 0
Promises n p =
    (n.path_triplets ≡ false → lacks percent_sign p.path ≡ true)
    × (n.query_triplets ≡ false → if_there (lacks percent_sign) p.query ≡ true)
    × (n.fragment_triplets ≡ false → if_there (lacks percent_sign) p.fragment ≡ true)
    × (n.dots ≡ false → may_have_dots p.path ≡ false)
    × (n.capitals ≡ false → (if_there (list_all is_small) p.scheme ≡ true) × (if_there (list_all is_small) p.authority ≡ true))
    × (n.other_authority ≡ false → if_there is_plain_authority p.authority ≡ true)
