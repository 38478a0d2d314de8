use Rattle.iri_robots.specs.inside.Fits.{star_escape, dollar_escape}
use Rattle.iri_robots.proofs.Parts.{escape_here}
use Rattle.iri_robots.proofs.pattern.escaped_special.Goals as goal

pub returns-in-65 : goal.returns-in-65
returns-in-65 c = escape_here c.args.pattern.now 65 42 star_escape c.if-pattern-lt3.false c.if-pattern-ne37.false c.if-pattern-ne50.false
    c.in-65.is

pub returns-in-52 : goal.returns-in-52
returns-in-52 c = escape_here c.args.pattern.now 52 36 dollar_escape c.if-pattern-lt3.false c.if-pattern-ne37.false c.if-pattern-ne50.false
    c.in-52.is
