use Rattle.iri_calls.proofs.Common.{◌∙◌, relative_split_of}
use Rattle.iri_calls.proofs.FaultPartLemmas.{relative_slots, in_text, past_text}
use Rattle.iri_calls.proofs.fault_part.slot_in_relative.Goals as goal

pub returns-in-Ok : goal.returns-in-Ok
returns-in-Ok c =
    let t = c.args.text.now in
    let same = c.in-Ok.ensures.cases.0 in
    in_text c.args.kind t c.in-Ok.text.now (relative_split_of t) c.slots_after.result c.named_slot.result same c.in-Ok.ensures.cases.1
    (relative_slots t c.in-Ok.text.now c.slots_after.result same c.slots_after.ensures) c.named_slot.ensures

pub returns-in-Err : goal.returns-in-Err
returns-in-Err c =
    let t = c.args.text.now in
    past_text c.args.kind t (relative_split_of t) c.valid_up_to.result c.slot_from.result c.in-Err.ensures.cases.0
    (c.valid_up_to.ensures ∙ c.in-Err.ensures.valid_len) c.slot_from.ensures
