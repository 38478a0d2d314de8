use Rattle.iri_grammar.proofs.Common.{sym, ap, subst, ◌∙◌, row_test, run_of}
use Rattle.std.proofs.Common.{w8}
use Rattle.std.proofs.lemmas.Simd.{chunk-fits, length-chunk}
use Rattle.iri_grammar.proofs.units.RunBlocks.{IsBlock, first-other, none-other}
use Rattle.iri_grammar.proofs.run.run_in_block.Goals as goal

pub returns-then-others-eq0 : goal.returns-then-others-eq0
returns-then-others-eq0 c =
    let e = c.block_at-block.ensures in
    let fits = subst IsBlock (sym e) (length-chunk c.args.i 16 c.args.bytes.now c.requires.within, chunk-fits w8 c.args.i 16 c.args.bytes.now c.type_inv.bytes) in
    none-other c.args.row _ _ _ fits c.by_low_half.ensures c.by_high_half.ensures c.if-others-eq0.true ∙ ap (run_of (row_test c.args.row)) e

pub returns-else-others-eq0 : goal.returns-else-others-eq0
returns-else-others-eq0 c =
    let e = c.block_at-block.ensures in
    let fits = subst IsBlock (sym e) (length-chunk c.args.i 16 c.args.bytes.now c.requires.within, chunk-fits w8 c.args.i 16 c.args.bytes.now c.type_inv.bytes) in
    first-other c.args.row _ _ _ fits c.by_low_half.ensures c.by_high_half.ensures c.if-others-eq0.false ∙ ap (run_of (row_test c.args.row)) e
