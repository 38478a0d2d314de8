-- The words of the faults, as they are displayed.
use Rattle.std.specs.Prelude.{ℕ, List, ◌++◌, codes, decimal}
use Rattle.iri_grammar.specs.ErrorTexts as grammar
use Rattle.iri_template.specs.ErrorTexts as template
use Rattle.iri_docs.specs.declared.doc_error.DocError.{DocError}
use Rattle.iri_docs.specs.declared.doc_error.DocError.TheVariants.{Json, Shape, Name, Truth, Float, Nested, Memory}
use Rattle.iri_docs.specs.declared.expand_error.DocExpandError.{DocExpandError}
use Rattle.iri_docs.specs.declared.expand_error.DocExpandError.TheVariants.{Template, TooLong, Invalid, Memory as ExpandMemory}

abbrev pub description : DocError → List ℕ
description Json = codes "bad json"
description Shape = codes "bad document"
description Name = codes "bad variable name"
description Truth = codes "bad variable truth value"
description Float = codes "bad variable float"
description Nested = codes "bad variable nested"
description Memory = codes "out of memory"

-- a template's fault with its place in bytes; a reference's fault
abbrev pub expand_description : DocExpandError → List ℕ
expand_description (Template e) = codes "template " ++ (template.description e.kind ++ (codes " at " ++ decimal e.location))
expand_description TooLong = codes "bad expansion too long"
expand_description (Invalid e) = codes "bad " ++ grammar.description e.kind
expand_description ExpandMemory = codes "out of memory"
