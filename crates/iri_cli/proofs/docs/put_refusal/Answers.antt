use Rattle.iri_cli.proofs.Common.{◌∙◌, [], ◌∷◌, puts-then, puts-exit}
use Rattle.iri_cli.proofs.PutLemmas.{puts_so}
use Rattle.iri_cli.proofs.docs.put_refusal.Goals as goal

pub returns-in_err-put_all : goal.returns-in_err-put_all
returns-in_err-put_all g c =
    puts-exit (10 ∷ []) c.from_residual.ensures.0 (puts_so (c.as_bytes.ensures.value ∙ c.description.ensures) c.in_err-put_all.ensures)

pub returns : goal.returns
returns g c = puts-then (puts_so (c.as_bytes.ensures.value ∙ c.description.ensures) c.in_ok-put_all.ensures) c.put_all-2.ensures
