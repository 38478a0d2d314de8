use Rattle.iri_percent.proofs.Common.{drop, ap, sym, ◌∙◌, ◌∷◌, take_rest, fragments, Octet, Percent, octets}
use Rattle.iri_percent.proofs.coding.Fragments.{octet-first, stray-first}
use Rattle.iri_percent.proofs.fragments.split_percent.Goals as goal

pub returns-in-Some-clause-first : goal.returns-in-Some-clause-first
returns-in-Some-clause-first c =
    let t = c.args.text.now in
    octet-first t c.in-Some.octet (octets (drop 3 t)) c.requires.0 c.requires.1 c.in-Some.ensures
    ∙ ap (λ z. Octet c.in-Some.octet ∷ fragments z) (sym (take_rest t 3))

pub returns-in-None-clause-first : goal.returns-in-None-clause-first
returns-in-None-clause-first c = let t = c.args.text.now in stray-first t c.requires.0 c.requires.1 c.in-None.ensures
    ∙ ap (λ z. Percent ∷ fragments z) (sym (take_rest t 1))
