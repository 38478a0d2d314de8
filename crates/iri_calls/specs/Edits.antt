-- What edits come to.
use Rattle.std.specs.Prelude.{ℕ, Bool, true, false, List, Some, None}
use Rattle.iri_edit.specs.Fragment.{with_fragment}
use Rattle.iri_edit.specs.Host.{host_of_text, is_replaced, with_host}
use Rattle.iri_edit.specs.Password.{masked, with_password, without_password}
use Rattle.iri_grammar.specs.Classes.{Tests}
use Rattle.iri_grammar.specs.Fault.{bytes_fault, fragment_fault, host_fault}
use Rattle.iri_calls.specs.Encodings.{no_fault}
use Rattle.iri_calls.specs.declared.status.TheConstants.{BAD_PART, NO_HOST}
use Rattle.iri_calls.specs.Outcome.{Outcome}
use Rattle.iri_calls.specs.Outcome.Outcome.{text, plain}
use Rattle.iri_calls.specs.Outcomes.{of_reference, unless_fault}

-- a reference without its password
abbrev pub masked_in : List ℕ → Tests → Outcome
masked_in t s = of_reference t s (text (masked t))

-- a reference without its password and the colon before it
abbrev pub removed_in : List ℕ → Tests → Outcome
removed_in t s = of_reference t s (text (without_password t))

-- a reference with another text, in UTF-8, in place of its password: the reference is judged first
abbrev pub password_in : List ℕ → List ℕ → Tests → Outcome
password_in t w s = of_reference t s (unless_fault BAD_PART (bytes_fault no_fault w) (text (with_password t w)))

-- a reference without its fragment
abbrev pub cut_in : List ℕ → Tests → Outcome
cut_in t s = of_reference t s (text (with_fragment t None))

-- a reference with another fragment: the reference is judged first
abbrev pub fragment_in : List ℕ → List ℕ → Tests → Outcome
fragment_in t f s =
    of_reference t s (unless_fault BAD_PART (bytes_fault (fragment_fault s) f) (text (with_fragment t (Some f))))

-- the text with another host, where it is replaced
abbrev pub where_replaced : Bool → List ℕ → Outcome
where_replaced true t = text t
where_replaced false t = plain NO_HOST

-- a reference with another host, of names alone or of any host: the reference is judged first, then the new host, then whether
-- there is a host to replace
abbrev pub host_in : Bool → List ℕ → List ℕ → Tests → Outcome
host_in names_only t h s =
    of_reference t s (unless_fault BAD_PART (bytes_fault (host_fault s) h)
    (where_replaced (is_replaced s names_only h (host_of_text t)) (with_host t h)))
