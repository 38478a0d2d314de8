use Rattle.std.proofs.lemmas.Str.{IsUtf8-from_ascii}
use Rattle.iri_robots.proofs.record.agent_record.Goals as goal

pub from_utf8_unchecked-agent-requires : goal.from_utf8_unchecked-agent-requires
from_utf8_unchecked-agent-requires c = IsUtf8-from_ascii c.args.agent.now c.requires
