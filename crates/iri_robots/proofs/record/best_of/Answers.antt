use Rattle.iri_robots.proofs.Common.{◌+◌, ◌++◌, ◌∷◌, [], ap, sym, ◌∙◌, subst, drop, IsBestOf, rules_in_groups}
use Rattle.std.proofs.lemmas.List.{drop_more}
use Rattle.iri_robots.proofs.Runs.{IsJudged}
use Rattle.iri_robots.proofs.GroupLemmas.{judged_rule, passed_rule}
use Rattle.iri_robots.proofs.record.best_of.Goals.{in-Judged+then-counts, in-Judged+else-counts, in_default}
use Rattle.iri_robots.proofs.record.best_of.Goals as goal

pub loop-record-preserved : goal.loop-record-preserved
loop-record-preserved c =
    let own = c.args.own in
    let text = c.args.text.now in
    let all = rules_in_groups own c.args.records.now in
    let i = c.loop-record.record-index in
    let old = c.loop-record.best in
    let after = drop (i + 1) c.args.records.now in
    let here = drop_more c.args.records.now i c.record-item.result c.loop-record-test.true ∙ ap (λ x. x ∷ after) (sym c.record-item.is) in
    elim c.match-record.branch [
      | in-Judged+then-counts w ↦ let rule = w.in-Judged.rule in
          subst (λ b. IsJudged all text b (rules_in_groups own after)) (sym w.best-is)
          (judged_rule own all text old w.judge-best.result (drop i c.args.records.now) after rule (here ∙ ap (λ x. x ∷ after) w.in-Judged.is)
          (w.counts.ensures.counts w.if-counts.true)
          (λ rules k. subst (λ p. IsBestOf (rules ++ (record { allows = rule.allows; pattern = p }) ∷ []) text w.judge-best.result)
          w.as_bytes.ensures.value (w.judge-best.ensures rules k)) c.loop-record.invariant)
      | in-Judged+else-counts w ↦ subst (λ b. IsJudged all text b (rules_in_groups own after)) (sym w.best-is)
          (passed_rule own all text c.second_of-second.result old (drop i c.args.records.now) after w.in-Judged.rule
          (here ∙ ap (λ x. x ∷ after) w.in-Judged.is) c.second_of-second.ensures (w.counts.ensures.not w.if-counts.false)
          c.loop-record.invariant)
      | in_default w ↦ subst (λ b. IsJudged all text b (rules_in_groups own after)) (sym w.best-is)
          (subst (λ l. IsJudged all text old l) (ap (rules_in_groups own) (here ∙ ap (λ x. x ∷ after) w.in_default.is)) c.loop-record.invariant)
    ]
