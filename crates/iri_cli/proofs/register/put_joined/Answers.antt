use Rattle.iri_cli.proofs.Common.{ap, sym, puts-then, puts-exit, joined, more_numbers}
use Rattle.iri_cli.proofs.PutLemmas.{puts_so}
use Rattle.iri_cli.proofs.register.put_joined.Goals as goal

pub returns-in_err-put_number : goal.returns-in_err-put_number
returns-in_err-put_number g c =
    puts_so (ap joined (sym c.in-Some.ensures.cases.0))
    (puts-exit (more_numbers c.in-Some.rest.now) c.from_residual.ensures.0 c.in_err-put_number.ensures)

pub returns : goal.returns
returns g c =
    puts_so (ap joined (sym c.in-Some.ensures.cases.0)) (puts-then c.in_ok-put_number.ensures c.put_more.ensures)
