use Rattle.std.proofs.Common.{refl}
use Rattle.iri_grammar.proofs.authorities.AuthorityCuts.{after_authority}
use Rattle.iri_grammar.proofs.splits.PartEnds.{no_authority}
use Rattle.iri_grammar.proofs.splitter.cut_authority.Goals as goal

pub returns-in-Some : goal.returns-in-Some
returns-in-Some c = after_authority c.args.s.now c.in-Some.rest.now c.cut_before_end.result c.in-Some.ensures c.cut_before_end.ensures

pub returns-in-None : goal.returns-in-None
returns-in-None c =
    let no = no_authority c.args.s.now c.in-None.ensures in (no.0, no.1, (λ _. refl, λ _. refl), refl)
