use Rattle.iri_robots.proofs.Common.{◌++◌, ◌∙◌, ap, string_bytes, rules_in_groups}
use Rattle.iri_robots.specs.RuleLines.{rule_lines}
use Rattle.iri_robots.proofs.GroupLemmas.{lines_read}
use Rattle.iri_robots.proofs.robots.Robots.rule_lines.Goals as goal

pub returns : goal.returns
returns c =
    let self = c.args.self.now in
    let named = self.reading.named in
    c.from_string.ensures ∙ c.in_ok-push_rules.ensures
    ∙ ap (λ t. t ++ rule_lines (rules_in_groups named c.as_slice.result.now)) c.new-lines.ensures.bytes
    ∙ ap (λ rs. rule_lines (rules_in_groups named rs)) c.as_slice.ensures.value
    ∙ lines_read (string_bytes self.token) self.records.items self.reading self.read
