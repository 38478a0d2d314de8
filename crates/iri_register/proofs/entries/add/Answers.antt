use Rattle.iri_register.proofs.Common.{sym, ◌∙◌, place, string_bytes}
use Rattle.iri_register.proofs.SlotLemmas.{place_is, placed_as_moved}
use Rattle.iri_register.proofs.entries.add.Goals as goal

pub slot_of-requires : goal.slot_of-requires
slot_of-requires c = (c.entries.inside.hasher, c.entries.invariant.hashed, c.take_hash.ensures.hash)

pub invariant_of-entries : goal.invariant_of-entries
invariant_of-entries c = c.add_line.ensures.kept _ _ _ c.entries.invariant

pub invariant_of-entries-in-Some : goal.invariant_of-entries-in-Some
invariant_of-entries-in-Some c = c.add_line.ensures.kept _ _ _ c.entries.invariant

pub place_of-requires : goal.place_of-requires
place_of-requires c = placed_as_moved c.entries.invariant c.in-Some.slot c.in-Some.ensures.within c.slot_of.ensures.small

pub returns-in_ok-add_line-in-Some-clause-answer : goal.returns-in_ok-add_line-in-Some-clause-answer
returns-in_ok-add_line-in-Some-clause-answer c =
    (λ j. place (sym c.entries.view_is j) (string_bytes (sym c.take_hash.ensures.text j)))
    ∙ place_is c.entries.invariant _ c.in-Some.slot _ c.in-Some.ensures.here c.in-Some.ensures.live c.in-Some.ensures.within c.place_of.ensures
