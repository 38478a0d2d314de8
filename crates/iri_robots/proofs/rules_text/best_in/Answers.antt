use Rattle.iri_robots.proofs.Common.{[], Some, None, ap, arith, refl, sym, ◌∙◌, now_of, line_rules, rules_in}
use Rattle.iri_grammar.proofs.hosts.PiecesLaws.{after_shorter}
use Rattle.iri_robots.proofs.FileCuts.{rules_cut}
use Rattle.iri_robots.proofs.Runs.{judged_all, judged_more}
use Rattle.iri_robots.proofs.rules_text.best_in.Goals as goal

pub lines-smaller : goal.lines-smaller
lines-smaller c =
    omega (arith, after_shorter 10 c.lines.rest.now c.in-Some.after.now (sym c.cut.ensures.after ∙ ap now_of c.in-Some.is))

pub lines-preserved : goal.lines-preserved
lines-preserved c =
    judged_more (rules_in c.args.lines.now) c.args.text.now c.lines.best c.judge_line-best.result (rules_in c.lines.rest.now)
    (line_rules c.cut.result.0.now) (rules_in c.in-Some.after.now)
    (rules_cut c.lines.rest.now c.cut.result.0.now (Some c.in-Some.after.now) c.cut.ensures.before
    (sym c.cut.ensures.after ∙ ap now_of c.in-Some.is)) c.judge_line-best.ensures c.lines.invariant

pub returns-in-None : goal.returns-in-None
returns-in-None c =
    judged_all (rules_in c.args.lines.now) [] c.args.text.now c.judge_line-best.result refl
    (judged_more (rules_in c.args.lines.now) c.args.text.now c.lines.best c.judge_line-best.result (rules_in c.lines.rest.now)
    (line_rules c.cut.result.0.now) []
    (rules_cut c.lines.rest.now c.cut.result.0.now None c.cut.ensures.before (sym c.cut.ensures.after ∙ ap now_of c.in-None.is))
    c.judge_line-best.ensures c.lines.invariant)
