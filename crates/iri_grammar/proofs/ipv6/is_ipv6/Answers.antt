use Rattle.iri_grammar.proofs.Common.{◌∙◌}
use Rattle.iri_grammar.proofs.hosts.Ipv6Groups.{none_at_start}
use Rattle.iri_grammar.proofs.ipv6.is_ipv6.Goals as goal

pub returns-in-None : goal.returns-in-None
returns-in-None c = c.completes-in-None.ensures ∙ none_at_start c.args.s.now c.in-None.ensures.cases
