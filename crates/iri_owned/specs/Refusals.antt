-- Why no owned text was made.
use Rattle.std.specs.Prelude.{◌≡◌, Option, Some, None}
use Rattle.iri_grammar.specs.declared.error.ErrorKind.{ErrorKind}
use Rattle.iri_owned.specs.declared.error.CreateError.{CreateError}
use Rattle.iri_owned.specs.declared.error.CreateError.TheVariants.{Invalid, Memory}

-- a fault is answered, and allocation failure comes only without one
abbrev pub RefusedFor : CreateError → Option ErrorKind → Type 0
RefusedFor (Invalid e) fault = fault ≡ Some e.kind
RefusedFor (Memory e) fault = fault ≡ None
