use Rattle.iri_grammar.proofs.Common.{arith, row_test}
use Rattle.iri_grammar.proofs.units.RunBlocks.{run_ends, run_of_last, run_passes}
use Rattle.iri_grammar.proofs.units.FirstUnits.{run_of_le}
use Rattle.iri_grammar.proofs.run.row_run_len.Goals as goal

pub returns-then-run-lt16 : goal.returns-then-run-lt16
returns-then-run-lt16 c =
    run_ends (row_test c.args.row) c.args.bytes.now c.passed.i c.run_in_block-run.result c.passed.invariant.passed c.run_in_block-run.ensures
    c.if-run-lt16.true

pub passed-preserved : goal.passed-preserved
passed-preserved c = record {
  last = c.passed.invariant.last;
  passed = run_passes (row_test c.args.row) c.args.bytes.now c.passed.i c.run_in_block-run.result c.passed.invariant.passed
      c.run_in_block-run.ensures (omega (arith, c.if-run-lt16.false));
}

pub returns : goal.returns
returns c =
    run_of_last (row_test c.args.row) c.args.bytes.now c.passed.i c.run_in_block.result c.requires.long (omega (arith, c.passed-test.false, c.passed.invariant.last))
    c.passed.invariant.passed c.run_in_block.ensures

pub overflow_add-result-2 : goal.overflow_add-result-2
overflow_add-result-2 c =
    let p = row_test c.args.row in
    let t = c.args.bytes.now in
    let all = run_of_last p t c.passed.i c.run_in_block.result c.requires.long (omega (arith, c.passed-test.false, c.passed.invariant.last))
    c.passed.invariant.passed c.run_in_block.ensures in
    omega (arith, all, run_of_le p t)
