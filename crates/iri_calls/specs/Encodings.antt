-- What an encoding comes to.
use Rattle.std.specs.Prelude.{ℕ, nat_eq, List, [], ◌∷◌, Option, None}
use Rattle.std.specs.List.{find}
use Rattle.iri_grammar.specs.Classes.{Tests}
use Rattle.iri_grammar.specs.Fault.{bytes_fault}
use Rattle.iri_grammar.specs.declared.error.ErrorKind.{ErrorKind}
use Rattle.iri_percent.specs.Encoding.{keeps, encoded}
use Rattle.iri_percent.specs.declared.context.Context.{Context}
use Rattle.iri_percent.specs.declared.context.Context.TheVariants.{RegName, UserOrPassword, PathSegment, Path, Query, Fragment}
use Rattle.iri_percent.specs.declared.context.Context.TheVariants.{Unreserved, Any}
use Rattle.iri_calls.specs.declared.status.TheConstants.{BAD_TEXT}
use Rattle.iri_calls.specs.Outcome.{Outcome}
use Rattle.iri_calls.specs.Outcome.Outcome.{text}
use Rattle.iri_calls.specs.Outcomes.{where_known, unless_fault, in_grammar}
use Rattle.iri_calls.specs.declared.encoding.TheConstants.{REG_NAME, USER, SEGMENT, PATH, QUERY, FRAGMENT, UNRESERVED, WHOLE}

-- the places of a reference
abbrev pub places : List Context
places = RegName ∷ UserOrPassword ∷ PathSegment ∷ Path ∷ Query ∷ Fragment ∷ Unreserved ∷ Any ∷ []

abbrev pub place_number : Context → ℕ
place_number RegName = REG_NAME
place_number UserOrPassword = USER
place_number PathSegment = SEGMENT
place_number Path = PATH
place_number Query = QUERY
place_number Fragment = FRAGMENT
place_number Unreserved = UNRESERVED
place_number Any = WHOLE

-- the place that has this number
abbrev pub place_numbered : ℕ → Option Context
place_numbered n = find (λ place. nat_eq n (place_number place)) places

abbrev pub encoded_as : ℕ → List ℕ → Tests → Outcome
encoded_as place t s = where_known (place_numbered place) (λ p. text (encoded (keeps s p) t))

-- no text in UTF-8 has a fault
abbrev pub no_fault : List ℕ → Option ErrorKind
no_fault t = None

-- a text that isn't UTF-8 is refused before all else
abbrev pub encoded_outcome : ℕ → ℕ → List ℕ → Outcome
encoded_outcome grammar place t = unless_fault BAD_TEXT (bytes_fault no_fault t) (in_grammar grammar (encoded_as place t))
