-- Contexts that stay as they are, and tell values to each purpose of a visit.
use Rattle.std.specs.Prelude.{ℕ, List}
use Rattle.iri_template.specs.ShownValues.{ShownValue, undefined}
use Rattle.iri_template.specs.Tells.{Telling}
use Rattle.iri_template.specs.declared.visitor.VisitPurpose.{VisitPurpose}
use Rattle.iri_template.specs.declared.visitor.VisitPurpose.TheVariants.{Typecheck, Expand}

abbrev pub for_purpose : (List ℕ → ShownValue) → (List ℕ → ShownValue) → List ℕ → VisitPurpose → ShownValue
for_purpose looked written name Typecheck = looked name
for_purpose looked written name Expand = written name

-- the first values where types are looked at, the second ones where values are written
abbrev pub by_purpose : (List ℕ → ShownValue) → (List ℕ → ShownValue) → Telling
by_purpose looked written k name purpose = for_purpose looked written name purpose

-- no value for any name
abbrev pub untold : List ℕ → ShownValue
untold name = undefined
