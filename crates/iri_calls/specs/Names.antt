-- Where the variables of a template stand, in bytes.
use Rattle.std.specs.Prelude.{◌≡◌, ℕ, cond, nat_lt, List, length, map, MatchOption}
use Rattle.iri_template.specs.Fault.{template_fault}
use Rattle.iri_template.specs.Places.{placed_names}
use Rattle.iri_template.specs.Reading.{pieces_of}
use Rattle.iri_template.specs.Template.{names_of}
use Rattle.iri_calls.specs.Buffers.{over}
use Rattle.iri_calls.specs.declared.status.TheConstants.{OK, SHORT}
use Rattle.iri_calls.specs.Slots.{bytes_at}
use Rattle.iri_calls.specs.Templates.{Refused}
use Rattle.iri_calls.specs.declared.parts.Slot.{Slot}

-- a name at its place
abbrev pub slot_of : ℕ × List ℕ → Slot
slot_of p = record { offset = p.0; len = length p.1 }

-- those of a template, from left to right, each as often as it stands there
abbrev pub name_slots : List ℕ → List Slot
name_slots t = map slot_of (placed_names 0 (pieces_of t))

-- The slots of the names stand over the start of the caller's, as far as there is room; or the template is refused, and they stay.
abbrev pub NamesWritten : List ℕ → List Slot → List Slot → ℕ → ℕ → ℕ → Type 0
NamesWritten t old new detail place status =
    MatchOption (template_fault t)
    ((new ≡ over (name_slots t) old) × (detail ≡ length (name_slots t)) × (place ≡ 0)
    × (status ≡ cond (nat_lt (length old) (length (name_slots t))) SHORT OK))
    (λ e. (new ≡ old) × Refused e detail place status)

-- in the slots of a template its names stand
abbrev pub HoldsNames : List ℕ → Type 0
HoldsNames t = map (bytes_at t) (name_slots t) ≡ names_of (pieces_of t)
