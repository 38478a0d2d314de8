use Rattle.iri_register.proofs.Common.{ap, sym, ◌∙◌, Some, option_map, Entry, entry_at, entry_of}
use Rattle.iri_register.proofs.entries.lines_at.Goals as goal

pub returns-in-Some-get_index : goal.returns-in-Some-get_index
returns-in-Some-get_index c =
    let e = ap (option_map (λ (e : Entry). e.lines)) (c.in-Some.ensures.some ∙ ap (option_map entry_of) (sym c.in-Some-get_index.ensures.entry)) in
    ap Some c.as_slice.ensures ∙ sym e ∙ ap (λ es. option_map (λ (e : Entry). e.lines) (entry_at es c.args.place)) c.entries.view_is

pub returns-in-None-get_index : goal.returns-in-None-get_index
returns-in-None-get_index c =
    let e = ap (option_map (λ (e : Entry). e.lines)) (c.in-Some.ensures.some ∙ ap (option_map entry_of) (sym c.in-None-get_index.ensures.entry)) in
    sym e ∙ ap (λ es. option_map (λ (e : Entry). e.lines) (entry_at es c.args.place)) c.entries.view_is

pub returns-in-None : goal.returns-in-None
returns-in-None c =
    sym (ap (option_map (λ (e : Entry). e.lines)) c.in-None.ensures.none) ∙ ap (λ es. option_map (λ (e : Entry). e.lines) (entry_at es c.args.place)) c.entries.view_is
