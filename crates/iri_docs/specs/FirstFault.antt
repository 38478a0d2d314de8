-- The first variable that has a fault.
use Rattle.std.specs.Prelude.{◌≡◌, ◌⊎◌, ℕ, List, Ok, Err}
use Rattle.serde_json.specs.Data.{Members, no_members, member}
use Rattle.iri_template.specs.ShownValues.{ShownValue}
use Rattle.iri_docs.specs.Documents.{variable}
use Rattle.iri_docs.specs.declared.doc_error.DocError.{DocError}

-- the fault is that of this member; or this one has none, and it is the first of the rest
abbrev pub HasFirstFault : Members → DocError → Type 0
HasFirstFault no_members e = ⊥
HasFirstFault (member k d ms) e = (variable k d ≡ Err e) ⊎ ((v : List ℕ × ShownValue) × (variable k d ≡ Ok v) × HasFirstFault ms e)
