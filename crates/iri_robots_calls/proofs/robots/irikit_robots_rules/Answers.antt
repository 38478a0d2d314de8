use Rattle.std.proofs.Common.{cond, inl, refl, subst, sym}
use Rattle.iri_calls.specs.Outcome.Outcome.{plain, text}
use Rattle.iri_robots.specs.Files.{file_records}
use Rattle.iri_robots.specs.Records.{rules_for}
use Rattle.iri_robots.specs.RuleLines.{rule_lines}
use Rattle.iri_robots_calls.specs.Outcomes.{AnsweredOrMemory}
use Rattle.iri_robots_calls.specs.declared.status.TheConstants.{BAD_TOKEN}
use Rattle.iri_robots_calls.proofs.RobotsLemmas.{no_token}
use Rattle.iri_robots_calls.proofs.robots.irikit_robots_rules.Goals as goal

pub returns-in_default-clause-rules : goal.returns-in_default-clause-rules
returns-in_default-clause-rules c =
    subst (λ b. AnsweredOrMemory (cond b (text (rule_lines (rules_for c.args.token.now (file_records c.args.file.now)))) (plain BAD_TOKEN))
    c.args.out.now c.args.out.now c.answer.new.detail c.answer.result)
    (sym (no_token c.args.token.now c.in_default.ensures.cases.0)) (inl (refl, c.answer.ensures.detail, c.answer.ensures.status))
