-- What a text built from parts comes to (RFC 3986 section 5.3).
use Rattle.std.specs.Prelude.{ℕ, Bool, cond, nat_eq, nat_le, ◌==◌, ◌&&◌, List, [], ◌∷◌, Option, Some}
use Rattle.std.specs.List.{list_all}
use Rattle.std.specs.Str.{is_utf8}
use Rattle.iri_edit.specs.Built.{Given, absolute_refusal, built_fault, given_parts, iri_refusal, nothing_given, reference_refusal}
use Rattle.iri_edit.specs.Built.{relative_refusal}
use Rattle.iri_grammar.specs.Classes.{Tests}
use Rattle.iri_grammar.specs.Fault.{unless}
use Rattle.iri_grammar.specs.Parts.{recompose}
use Rattle.iri_grammar.specs.declared.error.ErrorKind.{ErrorKind}
use Rattle.iri_grammar.specs.declared.error.ErrorKind.TheVariants.{InvalidUtf8}
use Rattle.iri_calls.specs.declared.status.TheConstants.{BAD_PART, UNKNOWN}
use Rattle.iri_calls.specs.Outcome.{Outcome}
use Rattle.iri_calls.specs.Outcome.Outcome.{text, plain}
use Rattle.iri_calls.specs.Outcomes.{unless_fault, in_grammar}
use Rattle.iri_calls.specs.Variables.{shown}
use Rattle.iri_calls.specs.declared.building.TheConstants.{SCHEME, USERINFO, HOST, PORT, PATH, QUERY, FRAGMENT}
use Rattle.iri_calls.specs.declared.building.Part.{Part}
use Rattle.iri_calls.specs.declared.validation.TheConstants.{REFERENCE, WITH_SCHEME, ABSOLUTE, RELATIVE}

-- the numbers of the parts
abbrev pub is_part : Part → Bool
is_part p = nat_le SCHEME p.part && nat_le p.part FRAGMENT

abbrev pub is_text : Part → Bool
is_text p = is_utf8 p.text.bytes.now

-- what is given with a part more; of two of one number the later counts
unfoldable pub set : Given → Part → Given
set g p =
    cond (p.part == SCHEME) (record g { scheme = Some (shown p.text) })
    (cond (p.part == USERINFO) (record g { userinfo = Some (shown p.text) })
    (cond (p.part == HOST) (record g { host = Some (shown p.text) })
    (cond (p.part == PORT) (record g { port = Some (shown p.text) })
    (cond (p.part == PATH) (record g { path = shown p.text })
    (cond (p.part == QUERY) (record g { query = Some (shown p.text) })
    (cond (p.part == FRAGMENT) (record g { fragment = Some (shown p.text) }) g))))))

unfoldable pub given_from : Given → List Part → Given
given_from g [] = g
given_from g (p ∷ ps) = given_from (set g p) ps

-- what is given with these parts; without one of them its part is absent, and the path empty
abbrev pub given_by : List Part → Given
given_by ps = given_from nothing_given ps

-- the recomposition of what is given, or its first fault, by what the kind refuses
abbrev pub built_by : Tests → (Bool → Bool → Option ErrorKind) → Given → Outcome
built_by s refusal g = unless_fault BAD_PART (built_fault s refusal g) (text (recompose (given_parts g)))

-- by the numbers of the kinds: a `URI-reference`, a `URI`, an `absolute-URI` or a `relative-ref`
abbrev pub built_in : ℕ → Given → Tests → Outcome
built_in kind g s =
    cond (nat_eq kind REFERENCE) (built_by s reference_refusal g)
    (cond (nat_eq kind WITH_SCHEME) (built_by s iri_refusal g)
    (cond (nat_eq kind ABSOLUTE) (built_by s absolute_refusal g)
    (cond (nat_eq kind RELATIVE) (built_by s relative_refusal g) (plain UNKNOWN))))

-- a number that stands for no part comes before all else, then a text that isn't UTF-8
abbrev pub built_outcome : ℕ → ℕ → List Part → Outcome
built_outcome grammar kind ps =
    cond (list_all is_part ps) (unless_fault BAD_PART (unless (list_all is_text ps) InvalidUtf8) (in_grammar grammar (built_in kind (given_by ps))))
    (plain UNKNOWN)
