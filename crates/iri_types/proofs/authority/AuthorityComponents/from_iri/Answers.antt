use Rattle.std.proofs.Common.{sym, ◌∙◌, ap}
use Rattle.iri_grammar.specs.Authority.{is_authority}
use Rattle.iri_grammar.specs.Parts.{Parts}
use Rattle.iri_grammar.specs.Split.{split_of}
use Rattle.iri_types.proofs.Lemmas.{there}
use Rattle.iri_types.proofs.authority.AuthorityComponents.from_iri.Goals as goal

pub of-requires : goal.of-requires
of-requires g c =
    there (is_authority g.S.Spec.tests) (split_of c.args.iri.text.now).authority c.in-Some.text.now c.parts.ensures.fits.authority
    (ap (λ (p : Parts). p.authority) (sym c.parts.ensures.split) ∙ sym c.in-Some.ensures)
