use Rattle.iri_grammar.proofs.Common.{ap, first, sym, subst, Answers, now_of, unless, InvalidPath}
use Rattle.iri_grammar.proofs.authorities.PlainAuthorities.{plain-authorities}
use Rattle.iri_grammar.proofs.validate.whole.authority_and_colon.Goals as goal

pub returns-then-not-other : goal.returns-then-not-other
returns-then-not-other g c =
    subst (Answers c.colon_in_place.result)
    (ap (λ o. first o (unless c.args.colon_allowed InvalidPath))
    (sym (plain-authorities g.S.Spec.tests g.met.S.Spec.lawful (now_of c.args.name) (c.requires c.if-not-other.true))))
    c.colon_in_place.ensures
