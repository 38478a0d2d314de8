use Rattle.iri_register.proofs.Common.{ℕ, List, length, sym, ap, ◌∙◌, Some, arith, line_count, removed, string_bytes}
use Rattle.iri_register.specs.Listed.{has_lines, entries_of}
use Rattle.iri_register.proofs.SlotLemmas.{gaps_most, some_live, kept_less, removed_live, count_live, count_none, removed_none}
use Rattle.iri_register.specs.declared.lines.Lines.TheVariants.{More}
use Rattle.iri_register.proofs.entries.remove.Goals as goal

pub slot_of-requires : goal.slot_of-requires
slot_of-requires c = (c.entries.inside.hasher, c.entries.invariant.hashed, c.take_hash.ensures.hash)

pub close-requires : goal.close-requires
close-requires c =
    let es = c.entries.inside.map.entries in
    let k = c.entries.invariant in
    record {
      blocked = k.blocked;
      within = omega (arith, c.in-Some.ensures.within, k.within);
      small = λ j b. let m = k.moves j b in let g = gaps_most es j in omega (arith, m, g, c.slot_of.ensures.small);
    }

pub overflow_sub-entries : goal.overflow_sub-entries
overflow_sub-entries c =
    let es = c.entries.inside.map.entries in
    let s = some_live es c.in-Some.slot (More c.new.result) c.in-Some.ensures.within c.in-Some.ensures.live (ap has_lines c.new.ensures.items) in
    omega (arith, s, c.entries.invariant.living)

pub invariant_of-entries : goal.invariant_of-entries
invariant_of-entries c =
    let es = c.entries.inside.map.entries in
    let e = c.close.ensures in
    kept_less c.entries.invariant c.in-Some.slot (More c.new.result) c.close.new.moves c.in-Some.ensures.within c.in-Some.ensures.live (ap has_lines c.new.ensures.items)
    e.blocked e.same e.before e.after

pub returns-in-Some-clause-count : goal.returns-in-Some-clause-count
returns-in-Some-clause-count c =
    let es = c.entries.inside.map.entries in
    let n = count_live (string_bytes c.take_hash.new.key.text) es c.in-Some.slot c.index.result.now c.in-Some.ensures.here c.in-Some.ensures.live c.index.ensures in
    ap (λ (l : List ℕ). Some (length l)) c.as_slice-count.ensures ∙ sym n ∙ (λ j. line_count (c.entries.view_is j) (string_bytes (c.take_hash.ensures.text j)))

pub returns-in-Some-clause-entries : goal.returns-in-Some-clause-entries
returns-in-Some-clause-entries c =
    let es = c.entries.inside.map.entries in
    removed_live (string_bytes c.take_hash.new.key.text) es c.in-Some.slot (More c.new.result) c.in-Some.ensures.here c.in-Some.ensures.live (ap has_lines c.new.ensures.items)
    ∙ (λ j. removed (c.entries.view_is j) (string_bytes (c.take_hash.ensures.text j)))

pub returns-in-None-clause-count : goal.returns-in-None-clause-count
returns-in-None-clause-count c =
    sym (count_none (entries_of c.entries.inside.map.entries) (string_bytes c.take_hash.new.key.text) c.in-None.ensures.none) ∙ (λ j. line_count (c.entries.view_is j) (string_bytes (c.take_hash.ensures.text j)))

pub returns-in-None-clause-entries : goal.returns-in-None-clause-entries
returns-in-None-clause-entries c =
    sym c.entries.view_is ∙ sym (removed_none (entries_of c.entries.inside.map.entries) (string_bytes c.take_hash.new.key.text) c.in-None.ensures.none)
    ∙ (λ j. removed (c.entries.view_is j) (string_bytes (c.take_hash.ensures.text j)))
