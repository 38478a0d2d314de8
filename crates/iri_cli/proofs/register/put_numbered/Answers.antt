use Rattle.iri_cli.proofs.Common.{[], ◌∷◌, ◌++◌, decimal, puts-then, puts-exit}
use Rattle.iri_cli.proofs.register.put_numbered.Goals as goal

pub returns-in_err-put_all : goal.returns-in_err-put_all
returns-in_err-put_all g c =
    puts-exit (decimal c.args.number ++ 10 ∷ []) c.from_residual.ensures.0 (rw (← c.as_bytes.ensures.value) c.in_err-put_all.ensures)

pub returns-in_err-put_number : goal.returns-in_err-put_number
returns-in_err-put_number g c =
    puts-then (rw (← c.as_bytes.ensures.value) c.in_ok-put_all.ensures)
    (puts-exit (10 ∷ []) c.from_residual-in_err-put_number.ensures.0 c.in_err-put_number.ensures)

pub returns : goal.returns
returns g c =
    puts-then (rw (← c.as_bytes.ensures.value) c.in_ok-put_all.ensures) (puts-then c.in_ok-put_number.ensures c.put_all-2.ensures)
