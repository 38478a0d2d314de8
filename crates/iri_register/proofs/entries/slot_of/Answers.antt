use Rattle.std.proofs.Common.{sym, ap, ◌∙◌, is_some, cond, string_bytes}
use Rattle.iri_register.proofs.HashLemmas.{lookup_as, position_as}
use Rattle.std.proofs.lemmas.Option.{slice_get_within}
use Rattle.iri_register.proofs.SlotLemmas.{at_position, flag_entry, place_dead, place_absent, lookup_absent}
use Rattle.iri_register.proofs.entries.slot_of.Goals as goal

pub returns-else-stays-clause-none : goal.returns-else-stays-clause-none
returns-else-stays-clause-none c =
    let es = c.args.map.now.entries in
    let q = c.args.target.now in
    let r = c.requires in
    let at = at_position (string_bytes q.text) es c.in-Some.slot (sym (position_as r.0 q es r.2 r.1) ∙ sym c.in-Some.ensures.index) in
    let f = flag_entry es c.in-Some.slot _ _ c.in-Some.ensures.entry ∙ ap (λ b. cond b 1 0) (sym c.stays.ensures ∙ c.if-stays.false) in
    place_dead r.0 (string_bytes q.text) es c.in-Some.slot r.1 c.len-len.ensures.unique at f

pub returns-then-stays-clause-here : goal.returns-then-stays-clause-here
returns-then-stays-clause-here c =
    let es = c.args.map.now.entries in
    let q = c.args.target.now in
    let r = c.requires in
    at_position (string_bytes q.text) es c.in-Some.slot (sym (position_as r.0 q es r.2 r.1) ∙ sym c.in-Some.ensures.index)

pub returns-then-stays-clause-live : goal.returns-then-stays-clause-live
returns-then-stays-clause-live c =
    flag_entry c.args.map.now.entries c.in-Some.slot _ _ c.in-Some.ensures.entry ∙ ap (λ b. cond b 1 0) (sym c.stays.ensures ∙ c.if-stays.true)

pub returns-then-stays-clause-within : goal.returns-then-stays-clause-within
returns-then-stays-clause-within c = slice_get_within c.args.map.now.entries c.in-Some.slot _ c.in-Some.ensures.entry

pub returns-in-None-clause-none : goal.returns-in-None-clause-none
returns-in-None-clause-none c =
    let es = c.args.map.now.entries in
    let q = c.args.target.now in
    let r = c.requires in
    let none = ap is_some (sym (lookup_as r.0 q es r.2 r.1) ∙ sym c.in-None.ensures.value) in
    place_absent (string_bytes q.text) es (lookup_absent (string_bytes q.text) es none)
