-- What `canonicalize` answers.
use Rattle.std.specs.Prelude.{◌≡◌, ℕ, List, Option, Some, None}
use Rattle.iri_grammar.specs.Classes.{Tests}
use Rattle.iri_grammar.specs.Parts.{IsIri, IsAbsolute}
use Rattle.iri_grammar.specs.Split.{split_of}
use Rattle.iri_grammar.specs.declared.error.ErrorKind.{ErrorKind}
use Rattle.iri_percent.specs.declared.canon_mode.CanonMode.{CanonMode}
use Rattle.iri_normal.specs.NormalForm.{canonical_in, canonical_parts_in}
use Rattle.iri_normal.specs.declared.canonical.CanonError.{CanonError}
use Rattle.iri_normal.specs.declared.canonical.CanonError.TheVariants.{BadBase, BadReference, Memory}

-- The text is the canonical text of the reference against the base, in a mode. It is a URI of the spec, splits into exactly the normal
-- form of the target, and is its own canonical text against every base.
pub record IsCanonicalTextIn (s : Tests) (mode : CanonMode) (base reference text : List ℕ) : Type 0 where
  pub canonical_is : text ≡ canonical_in s mode base reference
  pub valid : IsIri s text
  pub splits : split_of text ≡ canonical_parts_in s mode base reference
  pub own : (other : List ℕ) → IsAbsolute s other → canonical_in s mode other text ≡ text

-- The cause of a refusal, by the first faults of base and reference: the base is validated first, and memory is taken only where
-- both are valid.
abbrev pub CausedBy : CanonError → Option ErrorKind → Option ErrorKind → Type 0
CausedBy (BadBase e) base reference = base ≡ Some e.kind
CausedBy (BadReference e) base reference = (base ≡ None) × (reference ≡ Some e.kind)
CausedBy Memory base reference = (base ≡ None) × (reference ≡ None)
