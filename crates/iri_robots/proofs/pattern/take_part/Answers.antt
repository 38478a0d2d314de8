use Rattle.std.proofs.Common.{length, sym, ◌∙◌}
use Rattle.iri_robots.proofs.Parts.{some_left, takes_same}
use Rattle.iri_robots.proofs.pattern.take_part.Goals as goal

pub returns : goal.returns
returns c = takes_same c.args.pattern.now c.args.text.now c.in_default.ensures c.requires.1 c.requires.0 (some_left (length c.args.text.now)
    (sym c.is_empty.ensures ∙ c.if-is_empty.false)) c.if-text-pattern.false
