-- What the code reads of a line, in the terms of the definitions.
use Rattle.std.specs.Prelude.{true, false}
use Rattle.iri_robots.specs.declared.line.Said.{Said}
use Rattle.iri_robots.specs.declared.line.Said.TheVariants.{UserAgent, Allow, Disallow, Nothing}
use Rattle.iri_robots.specs.FileLines.{FileLine, AgentLine, RuleLine, OtherLine}

abbrev pub said : Said → FileLine
said (UserAgent agent) = AgentLine agent.now
said (Allow pattern) = RuleLine true pattern.now
said (Disallow pattern) = RuleLine false pattern.now
said Nothing = OtherLine
