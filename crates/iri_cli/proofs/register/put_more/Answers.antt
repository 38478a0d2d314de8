use Rattle.iri_cli.proofs.Common.{◌+◌, ◌++◌, drop, decimal, get_or, sym, puts-then, puts-exit, more_numbers}
use Rattle.iri_cli.proofs.PutLemmas.{puts_so}
use Rattle.iri_cli.proofs.RegisterLemmas.{number_more, numbers_whole}
use Rattle.iri_cli.proofs.register.put_more.Goals as goal

pub returns-in_err-put_all : goal.returns-in_err-put_all
returns-in_err-put_all g c =
    let ns = c.args.numbers.now in
    let i = c.loop-number.number-index in
    puts_so (numbers_whole ns i c.loop-number-test.true)
    (puts-then c.loop-number.invariant
    (puts-exit (decimal (get_or ns i 0) ++ more_numbers (drop (i + 1) ns)) c.from_residual.ensures.0 c.in_err-put_all.ensures))

pub returns-in_err-put_number : goal.returns-in_err-put_number
returns-in_err-put_number g c =
    let ns = c.args.numbers.now in
    let i = c.loop-number.number-index in
    puts_so (numbers_whole ns i c.loop-number-test.true)
    (puts-then c.loop-number.invariant (puts-then c.in_ok-put_all.ensures
    (puts-exit (more_numbers (drop (i + 1) ns)) c.from_residual-in_err-put_number.ensures.0 c.in_err-put_number.ensures)))

pub loop-number-preserved : goal.loop-number-preserved
loop-number-preserved g c =
    puts_so (sym (number_more c.args.numbers.now c.loop-number.number-index c.loop-number-test.true))
    (puts-then c.loop-number.invariant (puts-then c.in_ok-put_all.ensures c.in_ok-put_number.ensures))
