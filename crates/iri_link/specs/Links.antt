-- The link-values of a field value (RFC 8288 section 3).
use Rattle.std.specs.Prelude.{◌≡◌, ℕ, List, None}
use Rattle.std.specs.List.{All}
use Rattle.std.specs.Str.{IsUtf8}
use Rattle.iri_grammar.specs.Classes.{Tests}
use Rattle.iri_grammar.specs.WholeFault.{reference_fault}
use Rattle.iri_link.specs.Field.{LinkValue, IsField}

-- the target is a `URI-Reference`
abbrev pub HasReference : Tests → LinkValue → Type 0
HasReference s l = reference_fault s l.target ≡ None

-- bytes are the UTF-8 of a field value with these link-values, and each target is a `URI-Reference`
pub record HasLinks (s : Tests) (x : List ℕ) (ls : List LinkValue) : Type 0 where
  pub utf8 : IsUtf8 x
  pub field : IsField x ls
  pub valid : All (HasReference s) ls
