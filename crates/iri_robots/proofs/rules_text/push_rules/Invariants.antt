use Rattle.iri_robots.proofs.Common.{◌≡◌, ◌++◌, drop, string_bytes, rules_in_groups}
use Rattle.iri_robots.specs.RuleLines.{rule_lines}
use Rattle.iri_robots.proofs.rules_text.push_rules.Given as goal

-- what is written, and what is left
abbrev pub invariant-loop-record : goal.invariant-loop-record
invariant-loop-record l = string_bytes l.initial.lines ++ rule_lines (rules_in_groups l.own l.records)
    ≡ string_bytes l.lines ++ rule_lines (rules_in_groups l.own (drop l.record-index l.records))
