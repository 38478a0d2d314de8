-- The target of a reference against a base (RFC 3986 sections 5.2.2 and 5.2.3). No dot is removed.
use Rattle.std.specs.Prelude.{ℕ, Bool, true, cond, ◌&&◌, ◌||◌, not, ◌==◌, List, [], ◌∷◌, ◌++◌, Option, Some, None, is_some}
use Rattle.iri_grammar.specs.Cut.{lacks}
use Rattle.iri_grammar.specs.Parts.{Parts, is_empty, starts_with_slash}
use Rattle.iri_grammar.specs.Characters.{slash}

-- a path up to and with its last `/`, or nothing where it has none
abbrev pub to_last_slash : List ℕ → List ℕ
to_last_slash [] = []
to_last_slash (x ∷ xs) = cond (lacks slash (x ∷ xs)) [] (x ∷ to_last_slash xs)

-- what stands after it, or the whole path where it has none
abbrev pub last_segment : List ℕ → List ℕ
last_segment [] = []
last_segment (x ∷ xs) = cond (lacks slash (x ∷ xs)) (x ∷ xs) (last_segment xs)

-- nothing, or a text that ends with a `/`
abbrev pub ends_at_slash : List ℕ → Bool
ends_at_slash [] = true
ends_at_slash (x ∷ xs) = cond (is_empty xs) (x == slash) (ends_at_slash xs)

-- the prefix that a relative path is put after (section 5.2.3): `/` beside an authority with an empty path, otherwise
-- the base's path up to its last `/`
abbrev pub merge_prefix : Parts → List ℕ
merge_prefix base = cond (is_some base.authority && is_empty base.path) (slash ∷ []) (to_last_slash base.path)

-- of a path that isn't empty: itself where it begins with `/`, otherwise merged with the base's
abbrev pub merged : Parts → List ℕ → List ℕ
merged base path = cond (starts_with_slash path) path (merge_prefix base ++ path)

abbrev pub or_base : Option (List ℕ) → Option (List ℕ) → Option (List ℕ)
or_base None base = base
or_base (Some x) base = Some x

-- a reference with neither scheme nor authority: the base's path and query where its own are not there
abbrev pub target_path : Parts → List ℕ → List ℕ
target_path base [] = base.path
target_path base (x ∷ xs) = merged base (x ∷ xs)

abbrev pub target_query : Parts → Parts → Option (List ℕ)
target_query base reference = cond (is_empty reference.path) (or_base reference.query base.query) reference.query

-- the four cases of section 5.2.2; the fragment is always the reference's
abbrev pub target_under : Parts → Parts → Option (List ℕ) → Option (List ℕ) → Parts
target_under base r (Some scheme) authority = r
target_under base r None (Some authority) = record {
  scheme = base.scheme;
  authority = Some authority;
  path = r.path;
  query = r.query;
  fragment = r.fragment;
}
target_under base r None None =
    record {
      scheme = base.scheme;
      authority = base.authority;
      path = target_path base r.path;
      query = target_query base r;
      fragment = r.fragment;
    }

unfoldable pub target : Parts → Parts → Parts
target base reference = target_under base reference reference.scheme reference.authority

-- the third of them: a reference with neither scheme nor authority and with an empty path takes the base's path whole
abbrev pub takes_base_path : Parts → Bool
takes_base_path r = not (is_some r.scheme || is_some r.authority) && is_empty r.path
