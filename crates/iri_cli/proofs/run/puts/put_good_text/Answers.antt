use Rattle.iri_text.proofs.Puts.{puts-then, puts-exit}
use Rattle.iri_cli.proofs.PutLemmas.{puts_so}
use Rattle.iri_cli.proofs.run.puts.put_good_text.Goals as goal

pub returns-in_err-put_all : goal.returns-in_err-put_all
returns-in_err-put_all g c = puts-exit c.args.text.now c.from_residual.ensures.0 c.in_err-put_all.ensures

pub returns : goal.returns
returns g c = puts-then c.in_ok-put_all.ensures (puts_so c.as_bytes.ensures.value c.put_all-2.ensures)
