use Rattle.iri_robots.proofs.Common.{◌++◌, sym, subst, FileRule, IsBestOf}
use Rattle.iri_robots.proofs.Verdicts.{kept}
use Rattle.iri_robots.proofs.rules_text.judge_line.Goals as goal

pub returns-then-is_apart : goal.returns-then-is_apart
returns-then-is_apart c rules h =
    let rule : FileRule = record { allows = c.in-Some.rule.allows; pattern = c.in-Some.rule.pattern.now } in
    subst (λ l. IsBestOf (rules ++ l) c.args.text.now c.args.best) (sym c.in-Some.ensures)
    (kept rules c.args.text.now rule c.args.best (c.is_apart.ensures c.if-is_apart.true c.args.text.now c.requires) h)

pub returns-else-is_apart : goal.returns-else-is_apart
returns-else-is_apart c rules h =
    subst (λ l. IsBestOf (rules ++ l) c.args.text.now c.judge.result) (sym c.in-Some.ensures) (c.judge.ensures rules h)
