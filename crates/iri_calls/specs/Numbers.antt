-- What the numbers stand for that cross to C.
use Rattle.std.specs.Prelude.{ℕ, cond, nat_eq, List, [], ◌∷◌, Option, Some, None}
use Rattle.std.specs.List.{find}
use Rattle.iri_grammar.specs.Classes.{Tests, uri_tests, iri_tests}
use Rattle.iri_percent.specs.declared.canon_mode.CanonMode.{CanonMode}
use Rattle.iri_percent.specs.declared.canon_mode.CanonMode.TheVariants.{Default, Scheme}
use Rattle.iri_normal.specs.declared.mode.Mode.{Mode}
use Rattle.iri_normal.specs.declared.mode.Mode.TheVariants.{Normal, ByScheme, Preserving}
use Rattle.iri_grammar.specs.declared.error.ErrorKind.{ErrorKind}
use Rattle.iri_grammar.specs.declared.error.ErrorKind.TheVariants.{InvalidScheme, InvalidUserInfo, InvalidHost, InvalidRegName}
use Rattle.iri_grammar.specs.declared.error.ErrorKind.TheVariants.{InvalidPort, InvalidPath, InvalidQuery, InvalidFragment}
use Rattle.iri_grammar.specs.declared.error.ErrorKind.TheVariants.{UnexpectedFragment, UnexpectedRelative, InvalidUtf8}
use Rattle.iri_calls.specs.declared.fault.TheConstants.{INVALID_SCHEME, INVALID_USERINFO, INVALID_HOST, INVALID_REG_NAME, INVALID_PORT, INVALID_PATH}
use Rattle.iri_calls.specs.declared.fault.TheConstants.{INVALID_QUERY, INVALID_FRAGMENT, UNEXPECTED_FRAGMENT, UNEXPECTED_RELATIVE, INVALID_UTF8}
use Rattle.iri_calls.specs.declared.grammar.TheConstants.{URI, IRI, NORMAL, BY_SCHEME, PRESERVING}

-- the grammars: URIs and IRIs
abbrev pub grammar_of : ℕ → Option Tests
grammar_of n = cond (nat_eq n URI) (Some uri_tests) (cond (nat_eq n IRI) (Some iri_tests) None)

-- the modes: the normal form by the rules of every scheme, and by scheme rules too
abbrev pub mode_numbered : ℕ → Option CanonMode
mode_numbered n = cond (nat_eq n NORMAL) (Some Default) (cond (nat_eq n BY_SCHEME) (Some Scheme) None)

-- the normal forms of one text: those of the modes, and the one that preserves relative paths
abbrev pub form_numbered : ℕ → Option Mode
form_numbered n =
    cond (nat_eq n NORMAL) (Some Normal) (cond (nat_eq n BY_SCHEME) (Some ByScheme) (cond (nat_eq n PRESERVING) (Some Preserving) None))

-- the kinds of faults
abbrev pub kinds : List ErrorKind
kinds =
    InvalidScheme ∷ InvalidUserInfo ∷ InvalidHost ∷ InvalidRegName ∷ InvalidPort ∷ InvalidPath ∷ InvalidQuery
    ∷ InvalidFragment ∷ UnexpectedFragment ∷ UnexpectedRelative ∷ InvalidUtf8 ∷ []

abbrev pub fault_number : ErrorKind → ℕ
fault_number InvalidScheme = INVALID_SCHEME
fault_number InvalidUserInfo = INVALID_USERINFO
fault_number InvalidHost = INVALID_HOST
fault_number InvalidRegName = INVALID_REG_NAME
fault_number InvalidPort = INVALID_PORT
fault_number InvalidPath = INVALID_PATH
fault_number InvalidQuery = INVALID_QUERY
fault_number InvalidFragment = INVALID_FRAGMENT
fault_number UnexpectedFragment = UNEXPECTED_FRAGMENT
fault_number UnexpectedRelative = UNEXPECTED_RELATIVE
fault_number InvalidUtf8 = INVALID_UTF8

-- the kind of fault that has this number
abbrev pub fault_numbered : ℕ → Option ErrorKind
fault_numbered n = find (λ kind. nat_eq n (fault_number kind)) kinds
