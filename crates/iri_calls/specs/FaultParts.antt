-- Where the part of a text stands that has its first fault, in bytes.
use Rattle.std.specs.Prelude.{◌≡◌, ◌≤◌, ◌+◌, ◌-◌, ◌||◌, ◌&&◌, ℕ, Bool, false, cond, nat_eq, List, length, Option, Some, None, MatchOption}
use Rattle.std.specs.Str.{is_utf8}
use Rattle.std.specs.Str.Lossy.{utf8_valid_len}
use Rattle.iri_grammar.specs.Characters.{colon}
use Rattle.iri_grammar.specs.Cut.{before, lacks}
use Rattle.iri_grammar.specs.Classes.{Tests}
use Rattle.iri_grammar.specs.Components.{is_scheme, is_userinfo, is_port, is_path, is_query, is_fragment}
use Rattle.iri_grammar.specs.Host.{is_host, is_reg_name}
use Rattle.iri_grammar.specs.Parts.{Parts, path_rules}
use Rattle.iri_grammar.specs.Split.{split_of, relative_split_of}
use Rattle.iri_grammar.specs.declared.error.ErrorKind.{ErrorKind}
use Rattle.iri_grammar.specs.declared.error.ErrorKind.TheVariants.{InvalidScheme, InvalidUserInfo, InvalidHost, InvalidRegName}
use Rattle.iri_grammar.specs.declared.error.ErrorKind.TheVariants.{InvalidPort, InvalidPath, InvalidQuery, InvalidFragment}
use Rattle.iri_grammar.specs.declared.error.ErrorKind.TheVariants.{UnexpectedFragment, UnexpectedRelative, InvalidUtf8}
use Rattle.iri_calls.specs.Numbers.{fault_numbered}
use Rattle.iri_calls.specs.declared.status.TheConstants.{OK, UNKNOWN}
use Rattle.iri_calls.specs.Outcome.{Returned}
use Rattle.iri_calls.specs.Outcome.Outcome.{plain}
use Rattle.iri_calls.specs.Slots.{bytes_at, nowhere, place, slots_of}
use Rattle.iri_calls.specs.declared.parts.Slot.{Slot}
use Rattle.iri_calls.specs.declared.parts.Slots.{Slots}
use Rattle.iri_calls.specs.declared.validation.TheConstants.{REFERENCE, WITH_SCHEME, ABSOLUTE, RELATIVE}

-- what stands before the first `:`, where there is one
abbrev pub before_colon : List ℕ → Option (List ℕ)
before_colon t = cond (lacks colon t) None (Some (before colon t))

-- the part that a kind of fault names, of the text t whose parts stand so. Where a scheme must stand it is what comes before the
-- first `:`, or the start of a text without one
abbrev pub named_slot : ErrorKind → List ℕ → Slots → Slot
named_slot InvalidScheme t s = place 0 0 (before_colon t)
named_slot InvalidUserInfo t s = s.within.userinfo
named_slot InvalidHost t s = s.within.host
named_slot InvalidRegName t s = s.within.host
named_slot InvalidPort t s = s.within.port
named_slot InvalidPath t s = s.path
named_slot InvalidQuery t s = s.query
named_slot InvalidFragment t s = s.fragment
named_slot UnexpectedFragment t s = s.fragment
named_slot UnexpectedRelative t s = record { offset = 0; len = 0 }
named_slot InvalidUtf8 t s = nowhere

-- that part of bytes: where they aren't UTF-8 it is what follows the longest front that is
abbrev pub faulty_slot : ErrorKind → List ℕ → Parts → Slot
faulty_slot kind t p =
    cond (is_utf8 t) (named_slot kind t (slots_of p)) (record { offset = utf8_valid_len t; len = length t - utf8_valid_len t })

-- the split of a text of the kind of this number: a `relative-ref` has no scheme (RFC 3986 sections 4.1 to 4.3)
abbrev pub split_numbered : ℕ → Option (List ℕ → Parts)
split_numbered kind =
    cond (nat_eq kind REFERENCE || nat_eq kind WITH_SCHEME || nat_eq kind ABSOLUTE) (Some split_of)
    (cond (nat_eq kind RELATIVE) (Some relative_split_of) None)

-- the part is written, or no fault or no kind has the number, and the slot stays
abbrev pub PartFound : ℕ → ℕ → List ℕ → Slot → Slot → ℕ → ℕ → Type 0
PartFound kind fault t old new detail status =
    let none : Type 0 = (new ≡ old) × Returned (plain UNKNOWN) detail status in
    MatchOption (fault_numbered fault) none (λ f. MatchOption (split_numbered kind) none
    (λ split. (new ≡ faulty_slot f t (split t)) × Returned (plain OK) detail status))

-- whether bytes are what a kind of fault asks where they are its part among these parts; no fragment is where none may stand
abbrev pub is_in_production : Tests → ErrorKind → Parts → List ℕ → Bool
is_in_production s InvalidScheme p x = is_scheme x
is_in_production s InvalidUserInfo p x = is_userinfo s x
is_in_production s InvalidHost p x = is_host s x
is_in_production s InvalidRegName p x = is_reg_name s x
is_in_production s InvalidPort p x = is_port x
is_in_production s InvalidPath p x = is_path s x && path_rules p.scheme p.authority x
is_in_production s InvalidQuery p x = is_query s x
is_in_production s InvalidFragment p x = is_fragment s x
is_in_production s UnexpectedFragment p x = false
is_in_production s UnexpectedRelative p x = is_scheme x
is_in_production s InvalidUtf8 p x = is_utf8 x

-- a slot stands within a text, and what stands in it isn't what the kind of fault asks
pub record IsFaulty (s : Tests) (kind : ErrorKind) (t : List ℕ) (p : Parts) (slot : Slot) : Type 0 where
  pub within : slot.offset + slot.len ≤ length t
  pub faulty : is_in_production s kind p (bytes_at t slot) ≡ false
