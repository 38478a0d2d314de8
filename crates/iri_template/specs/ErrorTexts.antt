-- The words of the kinds, as they are displayed.
use Rattle.std.specs.Prelude.{ℕ, List, ◌++◌, codes, decimal}
use Rattle.iri_template.specs.declared.error.Error.{Error}
use Rattle.iri_template.specs.declared.error.ErrorKind.{ErrorKind}
use Rattle.iri_template.specs.declared.error.ErrorKind.TheVariants.{WriteFailed, ExpressionNotClosed, InvalidCharacter, InvalidExpression}
use Rattle.iri_template.specs.declared.error.ErrorKind.TheVariants.{InvalidPercentEncoding, InvalidUtf8, UnexpectedValueType}
use Rattle.iri_template.specs.declared.error.ErrorKind.TheVariants.{UnsupportedOperator, Memory}

abbrev pub description : ErrorKind → List ℕ
description WriteFailed = codes "failed to write to the backend writer"
description ExpressionNotClosed = codes "expression not closed"
description InvalidCharacter = codes "invalid character"
description InvalidExpression = codes "invalid expression"
description InvalidPercentEncoding = codes "invalid percent-encoded triplets"
description InvalidUtf8 = codes "invalid utf-8 byte sequence"
description UnexpectedValueType = codes "unexpected value type for the variable"
description UnsupportedOperator = codes "unsupported operator"
description Memory = codes "out of memory"

-- kind and place
abbrev pub displayed : Error → List ℕ
displayed e = codes "invalid URI template: " ++ (description e.kind ++ (codes " (at " ++ (decimal e.location ++ codes "-th byte)")))
