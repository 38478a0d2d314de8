-- What each call comes to.
use Rattle.std.specs.Prelude.{◌≡◌, ◌⊎◌, ℕ, cond, nat_eq, List, Option, Some, None, MatchOption}
use Rattle.iri_grammar.specs.Classes.{Tests, iri_tests}
use Rattle.iri_grammar.specs.ErrorTexts.{description}
use Rattle.iri_grammar.specs.Fault.{bytes_fault}
use Rattle.iri_grammar.specs.WholeFault.{reference_fault, iri_fault, absolute_fault, relative_fault}
use Rattle.iri_grammar.specs.declared.error.ErrorKind.{ErrorKind}
use Rattle.iri_percent.specs.Mapping.{mapped}
use Rattle.iri_percent.specs.declared.canon_mode.CanonMode.{CanonMode}
use Rattle.iri_normal.specs.NormalForm.{IsInMode}
use Rattle.iri_normal.specs.NormalForm.{canonical_in}
use Rattle.iri_normal.specs.declared.mode.Mode.{Mode}
use Rattle.iri_calls.specs.Numbers.{grammar_of, fault_numbered, form_numbered, mode_numbered}
use Rattle.iri_calls.specs.declared.status.TheConstants.{OK, NOT_NORMAL, BAD_TEXT, BAD_BASE, BAD_REFERENCE, UNKNOWN}
use Rattle.iri_calls.specs.Outcome.{Outcome, Returned}
use Rattle.iri_calls.specs.Outcome.Outcome.{text, fault, plain}
use Rattle.iri_calls.specs.declared.validation.TheConstants.{REFERENCE, WITH_SCHEME, ABSOLUTE, RELATIVE}

-- the fault where there is one, otherwise what follows
abbrev pub unless_fault : ℕ → Option ErrorKind → Outcome → Outcome
unless_fault whose None next = next
unless_fault whose (Some kind) next = fault whose kind

-- what follows from what a number stands for, where it stands for something
abbrev pub where_known : {A : Type 0} → Option A → (A → Outcome) → Outcome
where_known None f = plain UNKNOWN
where_known (Some x) f = f x

-- in the grammar of this number
abbrev pub in_grammar : ℕ → (Tests → Outcome) → Outcome
in_grammar grammar f = where_known (grammar_of grammar) f

-- what follows where a text is a reference, and where it is a `URI`
abbrev pub of_reference : List ℕ → Tests → Outcome → Outcome
of_reference t s next = unless_fault BAD_TEXT (bytes_fault (reference_fault s) t) next

abbrev pub of_uri : List ℕ → Tests → Outcome → Outcome
of_uri t s next = unless_fault BAD_TEXT (bytes_fault (iri_fault s) t) next

-- what follows where a reference stands against a base: the base is judged first
abbrev pub against_base : List ℕ → List ℕ → Tests → Outcome → Outcome
against_base base reference s next =
    unless_fault BAD_BASE (bytes_fault (absolute_fault s) base)
    (unless_fault BAD_REFERENCE (bytes_fault (reference_fault s) reference) next)

-- the canonical text of a reference against a base
abbrev pub canonical_as : CanonMode → List ℕ → List ℕ → Tests → Outcome
canonical_as mode base reference s = against_base base reference s (text (canonical_in s mode base reference))

abbrev pub canonical_outcome : ℕ → ℕ → List ℕ → List ℕ → Outcome
canonical_outcome grammar mode base reference =
    where_known (mode_numbered mode) (λ m. in_grammar grammar (canonical_as m base reference))

-- the same of IRIs, mapped to a URI (RFC 3987 section 3.1)
abbrev pub uri_as : CanonMode → List ℕ → List ℕ → Outcome
uri_as mode base reference = against_base base reference iri_tests (text (mapped (canonical_in iri_tests mode base reference)))

abbrev pub uri_outcome : ℕ → List ℕ → List ℕ → Outcome
uri_outcome mode base reference = where_known (mode_numbered mode) (λ m. uri_as m base reference)

-- a reference of IRIs, mapped to one of URIs
abbrev pub mapped_outcome : List ℕ → Outcome
mapped_outcome t = of_reference t iri_tests (text (mapped t))

-- whether there is no fault
abbrev pub validated : Option ErrorKind → Outcome
validated judged = unless_fault BAD_TEXT judged (plain OK)

-- whether a text is a `URI-reference`, a `URI`, an `absolute-URI` or a `relative-ref`, by the numbers of the kinds
abbrev pub validated_in : ℕ → List ℕ → Tests → Outcome
validated_in kind t s =
    cond (nat_eq kind REFERENCE) (validated (bytes_fault (reference_fault s) t))
    (cond (nat_eq kind WITH_SCHEME) (validated (bytes_fault (iri_fault s) t))
    (cond (nat_eq kind ABSOLUTE) (validated (bytes_fault (absolute_fault s) t))
    (cond (nat_eq kind RELATIVE) (validated (bytes_fault (relative_fault s) t)) (plain UNKNOWN))))

-- the words for the kind of fault of this number
abbrev pub fault_words : ℕ → Outcome
fault_words number = where_known (fault_numbered number) (λ kind. text (description kind))

-- whether a `URI` is its own normal form, by the number of that form
abbrev pub NormalJudgedIn : Tests → Mode → List ℕ → ℕ → ℕ → Type 0
NormalJudgedIn s form t detail status =
    MatchOption (bytes_fault (iri_fault s) t)
    ((detail ≡ 0) × (((status ≡ OK) × IsInMode s form t) ⊎ ((status ≡ NOT_NORMAL) × ¬ IsInMode s form t)))
    (λ kind. Returned (fault BAD_TEXT kind) detail status)

abbrev pub NormalJudged : ℕ → ℕ → List ℕ → ℕ → ℕ → Type 0
NormalJudged grammar form t detail status =
    let none : Type 0 = Returned (plain UNKNOWN) detail status in
    MatchOption (grammar_of grammar) none (λ s. MatchOption (form_numbered form) none (λ m. NormalJudgedIn s m t detail status))
