-- The kinds of faults in words, and what is told of a refused field value.
use Rattle.std.specs.Prelude.{ℕ, List, ◌++◌, codes, decimal}
use Rattle.iri_grammar.specs.ErrorTexts.{description}
use Rattle.iri_link.specs.declared.error.LinkError.{LinkError}
use Rattle.iri_link.specs.declared.error.LinkError.TheVariants.{Fault, Memory}
use Rattle.iri_link.specs.declared.error.LinkKind.{LinkKind}
use Rattle.iri_link.specs.declared.error.LinkKind.TheVariants.{NotUtf8, NoTarget, OpenTarget, BadTarget, NoParam, NoValue, OpenString}

abbrev pub words : LinkKind → List ℕ
words NotUtf8 = codes "invalid utf-8 bytes"
words NoTarget = codes "expected target"
words OpenTarget = codes "unclosed target"
words (BadTarget error) = codes "target " ++ description error.kind
words NoParam = codes "expected parameter"
words NoValue = codes "parameter value"
words OpenString = codes "unclosed string"

-- kind and place
abbrev pub displayed : LinkError → List ℕ
displayed (Fault kind place) = words kind ++ (codes " at " ++ decimal place)
displayed Memory = codes "out of memory"
