use Rattle.std.proofs.Common.{◌∙◌, ap}
use Rattle.iri_grammar.specs.Split.{split_of}
use Rattle.iri_robots.specs.Compared.{subject}
use Rattle.iri_robots.specs.RuleLines.{rules_in}
use Rattle.iri_robots_calls.proofs.RobotsLemmas.{judged}
use Rattle.iri_robots_calls.proofs.robots.allows_in.Goals as goal

pub returns-in-Ok-subject_of-clause-allows : goal.returns-in-Ok-subject_of-clause-allows
returns-in-Ok-subject_of-clause-allows g c =
    judged g.S.Spec.tests (rules_in c.args.rules.now) c.args.target.now c.as_str.result.now c.lines_verdict.result c.answer.new.detail
    c.answer.result c.status_of.result c.in-Ok.ensures.fault
    (c.as_str.ensures ∙ c.in-Ok-subject_of.ensures ∙ ap (λ t. subject (split_of t)) c.in-Ok.ensures.text) c.lines_verdict.ensures
    c.status_of.ensures c.answer.ensures.detail c.answer.ensures.status
