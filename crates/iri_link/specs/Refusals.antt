-- Why a field value is refused.
use Rattle.std.specs.Prelude.{◌≡◌, ℕ, List, ◌∷◌, Some}
use Rattle.iri_grammar.specs.Classes.{Tests}
use Rattle.iri_link.specs.Fault.{field_fault}
use Rattle.iri_link.specs.Field.{LinkValue}
use Rattle.iri_link.specs.Links.{HasLinks}
use Rattle.iri_link.specs.declared.error.LinkError.{LinkError}
use Rattle.iri_link.specs.declared.error.LinkError.TheVariants.{Fault, Memory}

-- The first fault and its place, and no list of link-values is the field's. Allocation may fail only where the bytes have a link-value.
abbrev pub RefusedBy : Tests → List ℕ → LinkError → Type 0
RefusedBy s x (Fault k p) = (field_fault s x ≡ Some (record { kind = k; place = p })) × ((ls : List LinkValue) → HasLinks s x ls → ⊥)
RefusedBy s x Memory = (l : LinkValue) × (ls : List LinkValue) × HasLinks s x (l ∷ ls)
