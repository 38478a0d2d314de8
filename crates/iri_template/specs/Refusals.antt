-- Why no owned template was made.
use Rattle.std.specs.Prelude.{◌≡◌, Option, Some, None}
use Rattle.iri_template.specs.declared.error.Error.{Error}
use Rattle.iri_template.specs.declared.creation.CreateTemplateError.{CreateTemplateError}
use Rattle.iri_template.specs.declared.creation.CreateTemplateError.TheVariants.{Invalid, Memory}

-- a fault is answered, and allocation failure comes only without one
abbrev pub RefusedFor : CreateTemplateError → Option Error → Type 0
RefusedFor (Invalid e) fault = fault ≡ Some e
RefusedFor (Memory e) fault = fault ≡ None
