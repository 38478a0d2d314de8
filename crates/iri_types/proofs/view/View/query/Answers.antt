use Rattle.std.proofs.Common.{sym, ◌∙◌, ap}
use Rattle.iri_grammar.specs.Parts.{Parts}
use Rattle.iri_grammar.specs.Split.{split_of}
use Rattle.iri_types.proofs.Lemmas.{query-there}
use Rattle.iri_types.proofs.view.View.query.Goals as goal

pub from_valid-requires : goal.from_valid-requires
from_valid-requires g c =
    query-there g.S.Spec.tests (split_of c.args.self.text.now).query c.in-Some.query.now c.parts.ensures.fits.query
    (ap (λ (p : Parts). p.query) (sym c.parts.ensures.split) ∙ sym c.in-Some.ensures)
