-- What the code reads of a line of `robots`, in the terms of the definitions.
use Rattle.iri_cli.specs.robots.Lines.{RobotsLine, feeds, asks, bad}
use Rattle.iri_cli.specs.declared.robots.line.Said.{Said}
use Rattle.iri_cli.specs.declared.robots.line.Said.TheVariants.{Feeds, Asks, Bad}

abbrev pub said : Said → RobotsLine
said (Feeds line) = feeds line.now
said (Asks reference) = asks reference.now
said Bad = bad
