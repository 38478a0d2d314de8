use Rattle.iri_link.proofs.Common.{◌==◌, ◌∙◌, ap, length, run_test}
use Rattle.iri_grammar.proofs.splits.PartEnds.{run_of_all}
use Rattle.iri_link.proofs.runs.is_all.Goals as goal

pub returns : goal.returns
returns c = let n = length c.args.bytes.now in ap (λ k. k == n) c.run_len.ensures ∙ run_of_all (run_test c.args.run) c.args.bytes.now
