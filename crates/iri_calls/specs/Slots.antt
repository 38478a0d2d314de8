-- Where the parts of a text stand, in bytes.
use Rattle.std.specs.Prelude.{◌≡◌, ◌+◌, ◌^◌, ◌-◌, ℕ, List, length, take, drop, Option, Some, None, MatchOption}
use Rattle.iri_grammar.specs.Authority.{AuthorityParts, authority_parts}
use Rattle.iri_grammar.specs.Classes.{Tests}
use Rattle.iri_grammar.specs.Fault.{bytes_fault}
use Rattle.iri_grammar.specs.Parts.{Parts}
use Rattle.iri_grammar.specs.Split.{split_of}
use Rattle.iri_grammar.specs.WholeFault.{reference_fault}
use Rattle.iri_calls.specs.Numbers.{grammar_of}
use Rattle.iri_calls.specs.declared.status.TheConstants.{OK, BAD_TEXT, UNKNOWN}
use Rattle.iri_calls.specs.Outcome.{Returned}
use Rattle.iri_calls.specs.Outcome.Outcome.{fault, plain}
use Rattle.iri_calls.specs.declared.parts.AuthoritySlots.{AuthoritySlots}
use Rattle.iri_calls.specs.declared.parts.Slot.{Slot}
use Rattle.iri_calls.specs.declared.parts.Slots.{Slots}

-- how many bytes a part has together with its delimiters, of which there are so many
abbrev pub width : ℕ → Option (List ℕ) → ℕ
width delimiters None = 0
width delimiters (Some x) = length x + delimiters

-- no part stands
abbrev pub nowhere : Slot
nowhere = record { offset = 2 ^ 64 - 1; len = 0 }

-- what stands in a slot of a text
abbrev pub bytes_at : List ℕ → Slot → List ℕ
bytes_at t s = take s.len (drop s.offset t)

-- a part that begins so many delimiters after an offset
abbrev pub place : ℕ → ℕ → Option (List ℕ) → Slot
place offset delimiters None = nowhere
place offset delimiters (Some x) = record { offset = offset + delimiters; len = length x }

-- the parts of an authority that begins at an offset: [userinfo `@`] host [`:` port]
abbrev pub authority_slots : ℕ → AuthorityParts → AuthoritySlots
authority_slots offset a =
    let host_at = offset + width 1 a.userinfo in
    record {
      userinfo = place offset 0 a.userinfo;
      host = place host_at 0 (Some a.host);
      port = place (host_at + length a.host) 1 a.port;
    }

-- those of an authority whose slashes begin at an offset
abbrev pub within_authority : ℕ → Option (List ℕ) → AuthoritySlots
within_authority offset None = record { userinfo = nowhere; host = nowhere; port = nowhere }
within_authority offset (Some x) = authority_slots (offset + 2) (authority_parts x)

-- the five parts: [scheme `:`] [`//` authority] path [`?` query] [`#` fragment]
abbrev pub slots_in : Parts → AuthoritySlots → Slots
slots_in p within =
    let scheme_end = width 1 p.scheme in
    let path_at = scheme_end + width 2 p.authority in
    let path_end = path_at + length p.path in
    record {
      scheme = place 0 0 p.scheme;
      authority = place scheme_end 2 p.authority;
      path = place path_at 0 (Some p.path);
      query = place path_end 1 p.query;
      fragment = place (path_end + width 1 p.query) 1 p.fragment;
      within = within;
    }

-- the parts of a reference and those of its authority
abbrev pub slots_of : Parts → Slots
slots_of p = slots_in p (within_authority (width 1 p.scheme) p.authority)

-- the slots are those of the text's split; or the text is refused, and they stay
abbrev pub SplitWrittenIn : List ℕ → Slots → Slots → ℕ → ℕ → Tests → Type 0
SplitWrittenIn t old new detail status s =
    MatchOption (bytes_fault (reference_fault s) t) ((new ≡ slots_of (split_of t)) × Returned (plain OK) detail status)
    (λ kind. (new ≡ old) × Returned (fault BAD_TEXT kind) detail status)

abbrev pub SplitWritten : ℕ → List ℕ → Slots → Slots → ℕ → ℕ → Type 0
SplitWritten grammar t old new detail status =
    MatchOption (grammar_of grammar) ((new ≡ old) × Returned (plain UNKNOWN) detail status) (SplitWrittenIn t old new detail status)
