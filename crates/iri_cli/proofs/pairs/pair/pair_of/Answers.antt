use Rattle.std.proofs.lemmas.Grind.{common_steps}
use Rattle.iri_cli.proofs.Common.{◌≡◌, ◌∙◌, ◌+◌, ◌-◌, Some, ap, arith, drop, length, sym, take}
use Rattle.iri_cli.proofs.pairs.pair.pair_of.Goals as goal

pub returns-in-Some : goal.returns-in-Some
returns-in-Some c =
    let t = c.args.line.now in
    let i = c.in-Some.i in
    let whole : take (length t - (i + 1)) (drop (i + 1) t) ≡ drop (i + 1) t = grind (arith, common_steps) in
    (c.in-Some.ensures.prefix, sym c.in-Some.ensures.tail ∙ ap Some (sym whole))

pub returns-in-None : goal.returns-in-None
returns-in-None c = sym c.in-None.ensures.tail
