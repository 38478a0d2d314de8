use Rattle.iri_calls.proofs.Common.{◌∙◌, split_of}
use Rattle.iri_calls.proofs.FaultPartLemmas.{slots_of_reference, in_text, past_text}
use Rattle.iri_calls.proofs.fault_part.slot_in_reference.Goals as goal

pub returns-in-Ok : goal.returns-in-Ok
returns-in-Ok c =
    let t = c.args.text.now in
    let same = c.in-Ok.ensures.cases.0 in
    let slots = slots_of_reference t c.in-Ok.text.now _ _ c.slots_after.result same c.cut_scheme.ensures.scheme c.cut_scheme.ensures.rest
    c.slots_after.ensures in
    in_text c.args.kind t c.in-Ok.text.now (split_of t) c.slots_after.result c.named_slot.result same c.in-Ok.ensures.cases.1 slots
    c.named_slot.ensures

pub returns-in-Err : goal.returns-in-Err
returns-in-Err c =
    let t = c.args.text.now in
    past_text c.args.kind t (split_of t) c.valid_up_to.result c.slot_from.result c.in-Err.ensures.cases.0
    (c.valid_up_to.ensures ∙ c.in-Err.ensures.valid_len) c.slot_from.ensures
