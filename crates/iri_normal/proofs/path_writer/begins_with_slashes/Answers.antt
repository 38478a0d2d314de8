use Rattle.iri_normal.proofs.Common.{◌∙◌, ap, dots, merged}
use Rattle.iri_normal.specs.inside.Beginning.{is_slashes}
use Rattle.iri_normal.proofs.normal_forms.PathBeginnings.{begins-slashes}
use Rattle.iri_normal.proofs.path_writer.begins_with_slashes.Goals as goal

pub returns-in-Ok : goal.returns-in-Ok
returns-in-Ok g c =
    c.is_slashes.ensures ∙ (ap is_slashes c.in-Ok.ensures.appends.begun ∙ begins-slashes (dots (merged c.args.path.now)))
