use Rattle.iri_cli.proofs.Common.{[], ◌∷◌, ◌++◌, puts-then, puts-exit, base_text}
use Rattle.iri_link.specs.LaxReadings.{lax_links_in}
use Rattle.iri_cli.specs.links.Answers.{links_text}
use Rattle.iri_cli.proofs.links.put_links.Goals as goal

pub returns-in_err-put_all : goal.returns-in_err-put_all
returns-in_err-put_all g c =
    puts-exit (links_text g.S.Spec.tests c.args.mode (base_text c.args.resolver.now) (lax_links_in g.S.Spec.tests c.args.field.now) ++ 10 ∷ []) c.from_residual.ensures.0 c.in_err-put_all.ensures

pub returns-in_err-put_written : goal.returns-in_err-put_written
returns-in_err-put_written g c =
    puts-then c.in_ok-put_all.ensures (puts-exit (10 ∷ []) c.from_residual-in_err-put_written.ensures.0 c.in_err-put_written.ensures)

pub returns : goal.returns
returns g c = puts-then c.in_ok-put_all.ensures (puts-then c.in_ok-put_written.ensures c.put_all-2.ensures)
