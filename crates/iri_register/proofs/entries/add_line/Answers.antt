use Rattle.iri_register.proofs.Common.{ap, ◌∙◌, string_bytes, has_lines, numbers_in}
use Rattle.iri_register.proofs.SlotLemmas.{added_live, same_live, value_live, has_last, kept_same}
use Rattle.iri_register.proofs.entries.add_line.Goals as goal

pub returns-in-Ok-clause-lines : goal.returns-in-Ok-clause-lines
returns-in-Ok-clause-lines c =
    added_live (string_bytes c.args.target.now.text) c.args.line c.args.map.now.entries c.args.slot c.index_mut-lines.result.now c.push.new.lines c.requires.there
    c.requires.live c.index_mut-lines.ensures.value c.in-Ok.ensures.pushed
    (ap has_lines c.in-Ok.ensures.pushed ∙ has_last (numbers_in c.index_mut-lines.result.now) c.args.line)

pub returns-in-Err-clause-lines : goal.returns-in-Err-clause-lines
returns-in-Err-clause-lines c =
    same_live c.args.map.now.entries c.args.slot c.index_mut-lines.result.now c.push.new.lines c.index_mut-lines.ensures.value c.in-Err.ensures.unchanged

pub returns-in-Ok-clause-kept : goal.returns-in-Ok-clause-kept
returns-in-Ok-clause-kept c h moves live k =
    kept_same k c.args.slot c.push.new.lines c.requires.live
    (ap has_lines c.in-Ok.ensures.pushed ∙ has_last (numbers_in c.index_mut-lines.result.now) c.args.line)

pub returns-in-Err-clause-kept : goal.returns-in-Err-clause-kept
returns-in-Err-clause-kept c h moves live k =
    kept_same k c.args.slot c.push.new.lines c.requires.live
    (ap has_lines c.in-Err.ensures.unchanged
    ∙ value_live c.args.map.now.entries c.args.slot c.index_mut-lines.result.now c.requires.live c.index_mut-lines.ensures.value)
