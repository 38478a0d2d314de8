use Rattle.iri_cli.proofs.Common.{◌∙◌, ◌++◌, ap, codes}
use Rattle.iri_cli.proofs.PutLemmas.{puts_so}
use Rattle.iri_cli.proofs.canon.put_good.Goals as goal

pub returns : goal.returns
returns g c = puts_so (ap (λ t. codes "ok " ++ t) (c.as_str.ensures ∙ c.fill.ensures)) c.put_good_text.ensures
