use Rattle.std.proofs.Common.{◌∷◌, ap, ◌∙◌}
use Rattle.iri_robots.proofs.FileCuts.{line_cut, lines_after, none_after}
use Rattle.iri_robots.proofs.line.cut_line.Goals as goal

pub returns-in-Some-clause-lines : goal.returns-in-Some-clause-lines
returns-in-Some-clause-lines c =
    line_cut c.args.file.now c.split_at.result.0.now c.split_at.result.1.now c.line_len.result c.line_len.ensures.value
    c.split_at.ensures.front c.split_at.ensures.back ∙ ap (λ l. c.split_at.result.0.now ∷ lines_after l) c.in-Some.ensures.cases.0

pub returns-in-None-clause-lines : goal.returns-in-None-clause-lines
returns-in-None-clause-lines c =
    line_cut c.args.file.now c.split_at.result.0.now c.split_at.result.1.now c.line_len.result c.line_len.ensures.value
    c.split_at.ensures.front c.split_at.ensures.back ∙ ap (λ l. c.split_at.result.0.now ∷ l)
    (none_after c.split_at.result.1.now c.in-None.ensures.cases)
