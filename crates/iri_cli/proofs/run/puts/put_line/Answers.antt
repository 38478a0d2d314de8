use Rattle.iri_cli.proofs.Common.{[], ◌∷◌, ◌++◌, puts-then, puts-exit}
use Rattle.iri_cli.proofs.PutLemmas.{puts_so}
use Rattle.iri_cli.proofs.run.puts.put_line.Goals as goal

pub returns-in_err-put_all : goal.returns-in_err-put_all
returns-in_err-put_all g c =
    puts-exit (c.args.text.now ++ 10 ∷ []) c.from_residual.ensures.0 (puts_so c.as_bytes.ensures.value c.in_err-put_all.ensures)

pub returns-in_err-put_all-2 : goal.returns-in_err-put_all-2
returns-in_err-put_all-2 g c =
    puts-then (puts_so c.as_bytes.ensures.value c.in_ok-put_all.ensures)
    (puts-exit (10 ∷ []) c.from_residual-in_err-put_all-2.ensures.0 (puts_so c.as_bytes-2.ensures.value c.in_err-put_all-2.ensures))

pub returns : goal.returns
returns g c =
    puts-then (puts_so c.as_bytes.ensures.value c.in_ok-put_all.ensures)
    (puts-then (puts_so c.as_bytes-2.ensures.value c.in_ok-put_all-2.ensures) c.put_all-3.ensures)
