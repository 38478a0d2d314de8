-- What is kept of a field value: its link-values with canonical targets (RFC 8288 section 3.1, RFC 3986 sections 5 and 6.2.2).
use Rattle.std.specs.Prelude.{◌≡◌, ℕ, List, map}
use Rattle.iri_grammar.specs.Classes.{Tests}
use Rattle.iri_percent.specs.declared.canon_mode.CanonMode.{CanonMode}
use Rattle.iri_percent.specs.declared.canon_mode.CanonMode.TheVariants.{Default}
use Rattle.iri_normal.specs.NormalForm.{canonical, canonical_in}
use Rattle.iri_link.specs.Field.{LinkValue}
use Rattle.iri_link.specs.Links.{HasLinks}

-- the link-value with its target's canonical text against a base
abbrev pub resolved : Tests → List ℕ → LinkValue → LinkValue
resolved s base l = record { target = canonical s base l.target; params = l.params }

-- the same, by the rules of a mode (RFC 3986 section 6.2.3)
abbrev pub resolved_in : Tests → CanonMode → List ℕ → LinkValue → LinkValue
resolved_in s mode base l = record { target = canonical_in s mode base l.target; params = l.params }

-- what is kept are the link-values of the bytes, each with its target's canonical text against the base, by the rules of a mode
pub record IsReadIn (s : Tests) (mode : CanonMode) (base x : List ℕ) (kept : List LinkValue) : Type 0 where
  pub links : List LinkValue
  pub has : HasLinks s x links
  pub resolves : kept ≡ map (resolved_in s mode base) links

-- the same by the rules of every scheme
abbrev pub IsRead : Tests → List ℕ → List ℕ → List LinkValue → Type 0
IsRead s base x kept = IsReadIn s Default base x kept
