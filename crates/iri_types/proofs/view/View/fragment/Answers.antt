use Rattle.std.proofs.Common.{sym, ◌∙◌, ap}
use Rattle.iri_grammar.specs.Parts.{Parts}
use Rattle.iri_grammar.specs.Split.{split_of}
use Rattle.iri_types.proofs.Lemmas.{fragment-there}
use Rattle.iri_types.proofs.view.View.fragment.Goals as goal

pub from_valid-requires : goal.from_valid-requires
from_valid-requires g c =
    fragment-there g.S.Spec.tests (split_of c.args.self.text.now).fragment c.in-Some.fragment.now c.parts.ensures.fits.fragment
    (ap (λ (p : Parts). p.fragment) (sym c.parts.ensures.split) ∙ sym c.in-Some.ensures)
