use Rattle.std.proofs.Common.{◌∙◌, ap, sym}
use Rattle.iri_robots.specs.inside.ReadLines.{said}
use Rattle.iri_robots.proofs.Agents.{agent_of_line}
use Rattle.iri_robots.proofs.record.line_record.Goals as goal

pub agent_record-requires : goal.agent_record-requires
agent_record-requires c = agent_of_line c.args.line.now c.in-UserAgent.agent.now (ap said (sym c.in-UserAgent.is) ∙ c.read_line.ensures)
