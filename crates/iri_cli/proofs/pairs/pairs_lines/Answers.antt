use Rattle.iri_cli.proofs.RunLemmas.{closed}
use Rattle.iri_cli.specs.inside.Paged.{paged_rules}
use Rattle.iri_cli.proofs.pairs.pairs_lines.Goals as goal

pub returns : goal.returns
returns g c = record {
  end = c.finish.ensures.closed;
  status_is = c.finish.ensures.status_is;
  ran = closed (paged_rules g.S.Spec.tests c.args.text) _ _ _ _ _ _ _ _ _ c.answer_pages-end.ensures c.finish.ensures.closes;
}
