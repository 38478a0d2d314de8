use Rattle.iri_cli.proofs.Common.{◌++◌, codes, puts-then, puts-exit}
use Rattle.iri_cli.proofs.PutLemmas.{puts_so}
use Rattle.iri_cli.proofs.parts.put_bad_object.Goals as goal

pub returns-in_err-put_all : goal.returns-in_err-put_all
returns-in_err-put_all g c = puts-exit (c.args.words.now ++ codes "\"}\n") c.from_residual.ensures.0 c.in_err-put_all.ensures

pub returns-in_err-put_all-2 : goal.returns-in_err-put_all-2
returns-in_err-put_all-2 g c =
    puts-then c.in_ok-put_all.ensures
    (puts-exit (codes "\"}\n") c.from_residual-in_err-put_all-2.ensures.0 (puts_so c.as_bytes.ensures.value c.in_err-put_all-2.ensures))

pub returns : goal.returns
returns g c = puts-then c.in_ok-put_all.ensures (puts-then (puts_so c.as_bytes.ensures.value c.in_ok-put_all-2.ensures) c.put_all-3.ensures)
