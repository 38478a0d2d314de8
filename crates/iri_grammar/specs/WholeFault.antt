-- The first fault of a whole text, in the order of its parts from left to right.
use Rattle.std.specs.Prelude.{ℕ, Bool, cond, ◌&&◌, ◌||◌, List, Option, Some, is_some}
use Rattle.iri_grammar.specs.Classes.{Tests}
use Rattle.iri_grammar.specs.Components.{is_path}
use Rattle.iri_grammar.specs.Cut.{before, lacks}
use Rattle.iri_grammar.specs.Parts.{Parts}
use Rattle.iri_grammar.specs.Split.{split_of, relative_split_of}
use Rattle.iri_grammar.specs.Fault.{first, unless, part_fault, scheme_fault, authority_fault, query_fault, fragment_fault}
use Rattle.iri_grammar.specs.declared.error.ErrorKind.{ErrorKind}
use Rattle.iri_grammar.specs.declared.error.ErrorKind.TheVariants.{InvalidPath, UnexpectedFragment, UnexpectedRelative}
use Rattle.iri_grammar.specs.Characters.{colon, slash}

-- in a relative reference without authority no `:` stands before the first `/` (RFC 3986 section 4.2)
abbrev pub colon_allowed : Parts → Bool
colon_allowed p = is_some p.scheme || is_some p.authority || lacks colon (before slash p.path)

-- the fault of authority, path and query
unfoldable pub fault_before_fragment : Tests → Parts → Option ErrorKind
fault_before_fragment s p =
    first (part_fault (authority_fault s) p.authority)
    (first (unless (is_path s p.path && colon_allowed p) InvalidPath)
    (part_fault (query_fault s) p.query))

-- the same, and then of the fragment what is said of it
unfoldable pub parts_fault : Tests → (List ℕ → Option ErrorKind) → Parts → Option ErrorKind
parts_fault s of_fragment p = first (fault_before_fragment s p) (part_fault of_fragment p.fragment)

-- where a scheme must stand: no `:` at all, or what stands before the first is no scheme
abbrev pub missing_scheme_fault : List ℕ → Option ErrorKind
missing_scheme_fault t = cond (lacks colon t) (Some UnexpectedRelative) (scheme_fault (before colon t))

-- `URI-reference` (section 4.1): where what stands before the first `:` is a scheme the rest follows that colon;
-- otherwise the whole text is read as relative
abbrev pub reference_fault : Tests → List ℕ → Option ErrorKind
reference_fault s t = parts_fault s (fragment_fault s) (split_of t)

-- `URI` (section 3)
abbrev pub iri_fault : Tests → List ℕ → Option ErrorKind
iri_fault s t = first (missing_scheme_fault t) (parts_fault s (fragment_fault s) (split_of t))

-- `absolute-URI` (section 4.3): as `URI`, and no fragment may stand
abbrev pub absolute_fault : Tests → List ℕ → Option ErrorKind
absolute_fault s t = first (missing_scheme_fault t) (parts_fault s (λ _. Some UnexpectedFragment) (split_of t))

-- `relative-ref` (section 4.2): the whole text is read as relative
abbrev pub relative_fault : Tests → List ℕ → Option ErrorKind
relative_fault s t = parts_fault s (fragment_fault s) (relative_split_of t)
