-- The kinds of faults, in words.
use Rattle.std.specs.Prelude.{List, ℕ, codes}
use Rattle.iri_grammar.specs.declared.error.ErrorKind.{ErrorKind}
use Rattle.iri_grammar.specs.declared.error.ErrorKind.TheVariants.{InvalidScheme, InvalidUserInfo, InvalidHost, InvalidRegName}
use Rattle.iri_grammar.specs.declared.error.ErrorKind.TheVariants.{InvalidPort, InvalidPath, InvalidQuery, InvalidFragment}
use Rattle.iri_grammar.specs.declared.error.ErrorKind.TheVariants.{UnexpectedFragment, UnexpectedRelative, InvalidUtf8}

abbrev pub description : ErrorKind → List ℕ
description InvalidScheme = codes "invalid scheme"
description InvalidUserInfo = codes "invalid userinfo"
description InvalidHost = codes "invalid host"
description InvalidRegName = codes "invalid reg-name"
description InvalidPort = codes "invalid port"
description InvalidPath = codes "invalid path"
description InvalidQuery = codes "invalid query"
description InvalidFragment = codes "invalid fragment"
description UnexpectedFragment = codes "unexpected fragment"
description UnexpectedRelative = codes "expected an absolute IRI but got a relative IRI"
description InvalidUtf8 = codes "invalid utf-8 bytes"
