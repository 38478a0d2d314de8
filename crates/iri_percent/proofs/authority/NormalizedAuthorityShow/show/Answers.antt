use Rattle.iri_percent.proofs.Common.{sym, subst, FitsAuthority, Shows}
use Rattle.iri_grammar.specs.OptionalSlices.{now_of}
use Rattle.iri_grammar.specs.Spans.{span_parts}
use Rattle.iri_grammar.proofs.authorities.AuthorityLaws.{reads}
use Rattle.iri_percent.proofs.hosts.Authorities.{authority_in}
use Rattle.iri_percent.proofs.authority.NormalizedAuthorityShow.show.Goals as goal

pub show_span-requires : goal.show_span-requires
show_span-requires g c = subst (FitsAuthority g.S.Spec.tests) (sym c.of-span.ensures)
    (reads g.S.Spec.tests c.args.self.now.authority.now c.args.self.now.valid).0

pub returns : goal.returns
returns g c =
    subst (λ t. Shows g.W.TextSink.puts g.W.TextSink.halts g.W.TextSink.stops c.args.sink.now t c.show_span.new.sink c.show_span.result)
    (authority_in g.S.Spec.tests (now_of c.args.self.now.dropped_port) c.args.self.now.authority.now (span_parts c.of-span.result) c.of-span.ensures)
    c.show_span.ensures
