use Rattle.iri_grammar.proofs.Common.{◌-◌, ◌∙◌, ap, run_of, row_test}
use Rattle.iri_grammar.proofs.units.RunBlocks.{class_run}
use Rattle.iri_grammar.proofs.run.run_len.Goals as goal

pub returns : goal.returns
returns c =
    let t = c.args.bytes.now in
    c.row_run_len.ensures ∙ ap (λ r. run_of (row_test r) t) (c.from.ensures ∙ ap (λ r. r - 48) c.rank.ensures)
    ∙ class_run c.args.class t c.type_inv.bytes
