use Rattle.iri_normal.proofs.Common.{◌∙◌, ap}
use Rattle.iri_normal.specs.inside.Beginning.{begun_by}
use Rattle.iri_normal.proofs.normal_forms.PathBeginnings.{begun-two}
use Rattle.iri_normal.proofs.beginning.after_piece.Goals as goal

pub returns : goal.returns
returns c =
    c.after_text.ensures ∙ (ap (begun_by c.args.begun) c.first_two.ensures ∙ begun-two c.args.begun c.args.piece.now)
