use Rattle.iri_robots.proofs.Common.{◌∷◌, Some, ap, ◌∙◌, now_of, record_texts}
use Rattle.iri_robots.specs.Files.{more_lines}
use Rattle.iri_robots.proofs.FileCuts.{stored, stored_all}
use Rattle.iri_robots.proofs.robots.Robots.feed_file.Goals as goal

pub lines-preserved : goal.lines-preserved
lines-preserved c = record {
  token = c.in_ok-feed_line.ensures.token ∙ c.lines.invariant.token;
  records = stored (record_texts c.args.self.now.records.items) (record_texts c.lines.self.records.items)
      (record_texts c.feed_line.new.self.records.items) c.args.file.now c.lines.rest.now c.cut_line.result.0.now (Some c.in-Some.after.now)
      c.lines.invariant.records (c.cut_line.ensures.lines ∙ ap (λ o. c.cut_line.result.0.now ∷ more_lines (now_of o)) c.in-Some.is)
      c.in_ok-feed_line.ensures.records;
}

pub returns-in-None-clause-records : goal.returns-in-None-clause-records
returns-in-None-clause-records c =
    stored_all (record_texts c.args.self.now.records.items) (record_texts c.lines.self.records.items)
    (record_texts c.feed_line.new.self.records.items) c.args.file.now c.lines.rest.now c.cut_line.result.0.now c.lines.invariant.records
    (c.cut_line.ensures.lines ∙ ap (λ o. c.cut_line.result.0.now ∷ more_lines (now_of o)) c.in-None.is) c.in_ok-feed_line.ensures.records
