use Rattle.iri_calls.proofs.Common.{ℕ, List, length, set, ◌∙◌, ap, Slot}
use Rattle.iri_template.specs.Variables.{places_left}
use Rattle.iri_calls.proofs.NameLemmas.{walk_begins, walk_goes_on}
use Rattle.iri_calls.proofs.names.write_names.Goals as goal

pub names-init : goal.names-init
names-init c = record { walked = walk_begins (places_left c.args.variables) c.args.slots.now }

pub names-preserved : goal.names-preserved
names-preserved c =
    let slot : List ℕ → Slot = λ x. record { offset = c.in-Some.offset; len = length x } in
    record {
      walked = walk_goes_on (places_left c.args.variables) (places_left c.names.left) (places_left c.next_with_place.new.self)
          (c.in-Some.offset, c.in-Some.name.text.now) c.names.count c.args.slots.now c.names.slots c.put_slot.new.slots
          c.in-Some.ensures (c.put_slot.ensures ∙ ap (λ x. set c.names.slots c.names.count (slot x)) c.as_str-len.ensures.text)
          c.names.invariant.walked;
    }
