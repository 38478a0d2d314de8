-- A base that is prepared once for all of its references.
use Rattle.std.specs.Prelude.{◌≡◌, ℕ, Bool, List, ◌++◌, is_some}
use Rattle.iri_grammar.specs.Classes.{Tests}
use Rattle.iri_grammar.specs.Parts.{Parts, recompose}
use Rattle.iri_grammar.specs.Split.{split_of}
use Rattle.iri_normal.specs.DotRemoval.{dots}
use Rattle.iri_normal.specs.DotRemoval.{guard}
use Rattle.iri_normal.specs.NormalForm.{normal_form}
use Rattle.iri_normal.specs.Target.{to_last_slash, last_segment}
use Rattle.iri_cli.specs.run.Ending.{Rules}

-- the dot segments before the last segment are removed (RFC 3986 section 5.2.4); the last segment stays, since a relative path takes
-- its place
abbrev pub prepared_path : Bool → List ℕ → List ℕ
prepared_path authority_stands path = guard (dots (to_last_slash path)) authority_stands ++ last_segment path

-- scheme and authority in normal form (RFC 3986 section 6.2.2), the path without those dot segments; query and fragment as they stand
abbrev pub prepared_parts : Tests → Parts → Parts
prepared_parts s t = record {
  scheme = (normal_form s t).scheme;
  authority = (normal_form s t).authority;
  path = prepared_path (is_some t.authority) t.path;
  query = t.query;
  fragment = t.fragment;
}

-- the base with these parts
unfoldable pub prepared : Tests → List ℕ → List ℕ
prepared s base = recompose (prepared_parts s (split_of base))

-- The rules of a command answer alike after two bases.
pub record IsAlike (rules : Rules) (text base : List ℕ) : Type 0 where
  pub answer : (between : List (List ℕ)) (line : List ℕ) → rules.answer text between line ≡ rules.answer base between line
  pub closing : (between : List (List ℕ)) → rules.closing text between ≡ rules.closing base between
  pub wants_memory : (between : List (List ℕ)) (line : List ℕ)
      → rules.wants_memory text between line ≡ rules.wants_memory base between line
