-- Forms of parts, the normal ones among them, and canonical texts (RFC 3986 sections 5.2, 6.2.2 and 6.2.3, RFC 3987 section 5.3.2).
use Rattle.std.specs.Prelude.{ℕ, Bool, false, cond, not, ◌&&◌, ◌||◌, List, [], ◌∷◌, Option, Some, None, is_some, option_map, ◌≡◌, map}
use Rattle.std.specs.Char.{to_ascii_lowercase}
use Rattle.iri_grammar.specs.Classes.{Tests}
use Rattle.iri_grammar.specs.Characters.{slash}
use Rattle.iri_grammar.specs.Parts.{Parts, is_empty, recompose, starts_with_slash, starts_with_slashes}
use Rattle.iri_grammar.specs.Split.{split_of}
use Rattle.iri_percent.specs.Triplets.{pct}
use Rattle.iri_percent.specs.NormalHost.{normal_authority_in}
use Rattle.iri_percent.specs.declared.canon_mode.CanonMode.{CanonMode}
use Rattle.iri_percent.specs.declared.canon_mode.CanonMode.TheVariants.{Default, Scheme}
use Rattle.iri_normal.specs.Target.{target}
use Rattle.iri_normal.specs.DotRemoval.{dots, guard}
use Rattle.iri_normal.specs.Modes.{dropped_in, is_normalizing}
use Rattle.iri_normal.specs.declared.mode.Mode.{Mode}
use Rattle.iri_normal.specs.declared.mode.Mode.TheVariants.{Plain, Normal, Preserving, ByScheme}

-- the path in normal form: its dot segments removed, its triplets in normal form, and `/.` before it where it would be read as an authority
unfoldable pub normal_path : Tests → Option (List ℕ) → List ℕ → List ℕ
normal_path s authority path = guard (pct s (dots path)) (is_some authority)

-- the same, but a path without authority that doesn't begin with a slash keeps its dot segments
abbrev pub preserved_path : Tests → Option (List ℕ) → List ℕ → List ℕ
preserved_path s authority path = cond (is_some authority || starts_with_slash path) (normal_path s authority path) (pct s path)

-- the path without its dot segments, guarded, as it stands otherwise; a base's path that is taken whole stays all as it stands
abbrev pub plain_path : Bool → Option (List ℕ) → List ℕ → List ℕ
plain_path whole authority path = cond whole path (guard (dots path) (is_some authority))

-- the path in each mode
abbrev pub path_in : Tests → Mode → Bool → Option (List ℕ) → List ℕ → List ℕ
path_in s Normal whole authority path = normal_path s authority path
path_in s Preserving whole authority path = preserved_path s authority path
path_in s Plain whole authority path = plain_path whole authority path
path_in s ByScheme whole authority path = normal_path s authority path

-- the path is empty beside an authority, and the rules of the mode know a default port of the scheme
abbrev pub becomes_slash : Option (List ℕ) → Option (List ℕ) → List ℕ → Bool
becomes_slash None authority path = false
becomes_slash (Some dropped) authority path = is_some authority && is_empty path

-- such a path becomes `/`; another one is as it is written in the mode
abbrev pub slash_or : Bool → List ℕ → List ℕ
slash_or slashed path = cond slashed (slash ∷ []) path

-- another part, where it stands: with f done to it, or as it is
abbrev pub part_in : Bool → (List ℕ → List ℕ) → Option (List ℕ) → Option (List ℕ)
part_in normal f part = cond normal (option_map f part) part

-- ASCII letters in lower case
abbrev pub lowered : List ℕ → List ℕ
lowered xs = map to_ascii_lowercase xs

-- parts with this path, and the others in normal form or as they stand: the scheme in lower case, the authority in normal form without the
-- port that is dropped, query and fragment with their triplets in normal form. Where the rules know a port to drop, an empty path beside an
-- authority becomes `/`
abbrev pub parts_with : Tests → Bool → Option (List ℕ) → List ℕ → Parts → Parts
parts_with s normal dropped path t = record {
  scheme = part_in normal lowered t.scheme;
  authority = part_in normal (normal_authority_in s dropped) t.authority;
  path = slash_or (becomes_slash dropped t.authority t.path) path;
  query = part_in normal (pct s) t.query;
  fragment = part_in normal (pct s) t.fragment;
}

-- parts in a mode. `whole` says that the path is the base's, taken whole
unfoldable pub form : Tests → Mode → Bool → Parts → Parts
form s mode whole t = parts_with s (is_normalizing mode) (dropped_in mode t.scheme) (path_in s mode whole t.authority t.path) t

-- the normal form, by the rules of every scheme
unfoldable pub normal_form : Tests → Parts → Parts
normal_form s t = form s Normal false t

-- the same, or by scheme rules too
abbrev pub normal_form_in : Tests → CanonMode → Parts → Parts
normal_form_in s Default t = normal_form s t
normal_form_in s Scheme t = form s ByScheme false t

-- no authority stands, and without its dot segments the path would be read as one. A base's path taken whole isn't validated
abbrev pub is_unresolvable : Bool → Parts → Bool
is_unresolvable whole t = not whole && (not (is_some t.authority) && starts_with_slashes (dots t.path))

-- the canonical text of a reference against a base: the normal form of the target, recomposed
unfoldable pub canonical : Tests → List ℕ → List ℕ → List ℕ
canonical s base reference = recompose (normal_form s (target (split_of base) (split_of reference)))

-- the parts of the canonical text in either normal form, and the text
abbrev pub canonical_parts_in : Tests → CanonMode → List ℕ → List ℕ → Parts
canonical_parts_in s mode base reference = normal_form_in s mode (target (split_of base) (split_of reference))

abbrev pub canonical_in : Tests → CanonMode → List ℕ → List ℕ → List ℕ
canonical_in s Default base reference = canonical s base reference
canonical_in s Scheme base reference = recompose (canonical_parts_in s Scheme base reference)

-- the text is its own form in the mode: its parts, in the mode, recompose to it
abbrev pub IsInMode : Tests → Mode → List ℕ → Type 0
IsInMode s mode t = recompose (form s mode false (split_of t)) ≡ t
