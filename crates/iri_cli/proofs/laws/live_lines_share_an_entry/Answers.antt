use Rattle.iri_cli.proofs.ToolLaws.{live_lines_share_entries}
use Rattle.iri_cli.proofs.laws.live_lines_share_an_entry.Goals as goal

pub returns : goal.returns
returns g c = λ mode. live_lines_share_entries g.S.Spec.tests mode g.met.S.Spec.lawful
