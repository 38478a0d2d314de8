use Rattle.iri_register.proofs.Common.{sym, ◌∙◌, place, string_bytes}
use Rattle.iri_register.proofs.SlotLemmas.{place_is, placed_as_moved}
use Rattle.iri_register.proofs.entries.find.Goals as goal

pub slot_of-requires : goal.slot_of-requires
slot_of-requires c = (c.entries.inside.hasher, c.entries.invariant.hashed, c.take_hash.ensures.hash)

pub place_of-requires : goal.place_of-requires
place_of-requires c = placed_as_moved c.entries.invariant c.in-Some.slot c.in-Some.ensures.within c.slot_of.ensures.small

pub returns-in-Some : goal.returns-in-Some
returns-in-Some c =
    sym (place_is c.entries.invariant _ c.in-Some.slot _ c.in-Some.ensures.here c.in-Some.ensures.live c.in-Some.ensures.within c.place_of.ensures)
    ∙ (λ j. place (c.entries.view_is j) (string_bytes (c.take_hash.ensures.text j)))
