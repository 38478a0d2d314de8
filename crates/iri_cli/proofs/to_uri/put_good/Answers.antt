use Rattle.iri_cli.proofs.Common.{[], ◌∷◌, ◌++◌, puts-then, puts-exit, base_text, canonical_in, split_text}
use Rattle.iri_percent.specs.Mapping.{mapped}
use Rattle.iri_cli.proofs.to_uri.put_good.Goals as goal

pub returns-in_err-put_all : goal.returns-in_err-put_all
returns-in_err-put_all g c =
    puts-exit (mapped (canonical_in g.S.Spec.tests c.args.mode (base_text c.args.resolver.now) (split_text c.args.reference.now)) ++ 10 ∷ [])
    c.from_residual.ensures.0 c.in_err-put_all.ensures

pub returns-in_err-put_mapped : goal.returns-in_err-put_mapped
returns-in_err-put_mapped g c =
    puts-then c.in_ok-put_all.ensures (puts-exit (10 ∷ []) c.from_residual-in_err-put_mapped.ensures.0 c.in_err-put_mapped.ensures)

pub returns : goal.returns
returns g c = puts-then c.in_ok-put_all.ensures (puts-then c.in_ok-put_mapped.ensures c.put_all-2.ensures)
