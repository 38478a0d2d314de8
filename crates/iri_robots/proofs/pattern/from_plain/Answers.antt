use Rattle.std.proofs.lemmas.List.{take_rest}
use Rattle.iri_robots.proofs.Places.{found_stands, prefix_missing}
use Rattle.iri_robots.proofs.pattern.from_plain.Goals as goal

pub returns-in-Some : goal.returns-in-Some
returns-in-Some c =
    let q = c.args.pattern.now in
    let s = c.args.text.now in
    found_stands q s _ c.args.plain c.in-Some.place c.requires c.in-Some.ensures (take_rest s c.in-Some.place)

pub returns-in-None : goal.returns-in-None
returns-in-None c = λ a. prefix_missing a c.args.pattern.now c.args.text.now c.args.plain c.requires c.in-None.ensures
