use Rattle.std.proofs.Common.{sym, ◌∙◌}
use Rattle.iri_robots.proofs.Lines.{blank_at_end, text_at_end}
use Rattle.iri_robots.proofs.line.trim_end.Goals as goal

pub returns-then-not-is_space_or_tab : goal.returns-then-not-is_space_or_tab
returns-then-not-is_space_or_tab c = sym (c.loop-last.invariant
    ∙ text_at_end c.loop-last.text.now c.in-Some.prefix.now c.in-Some.last.now c.in-Some.ensures.cases.0 (sym c.is_space_or_tab.ensures
    ∙ c.if-not-is_space_or_tab.true))

pub loop-last-preserved : goal.loop-last-preserved
loop-last-preserved c = c.loop-last.invariant ∙ blank_at_end c.loop-last.text.now c.in-Some.prefix.now c.in-Some.last.now
    c.in-Some.ensures.cases.0 (sym c.is_space_or_tab.ensures ∙ c.if-not-is_space_or_tab.false)
