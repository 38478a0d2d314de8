use Rattle.iri_percent.proofs.Common.{subst, Shows}
use Rattle.iri_text.proofs.Compose.{shows_exit, shows_then}
use Rattle.iri_percent.proofs.hosts.Authorities.{port_in}
use Rattle.iri_percent.proofs.authority.show_port.Goals as goal

pub returns-in_err-put : goal.returns-in_err-put
returns-in_err-put g c =
    subst (λ t. Shows g.W.TextSink.puts g.W.TextSink.halts g.W.TextSink.stops c.args.sink.now t c.put.new.self c.from_residual.result)
    (port_in c.args.port c.in-Some.port c.in-Some.is)
    (shows_exit g.met.W.TextSink.rules c.in-Some.port.now c.from_residual.ensures.0 c.in_err-put.ensures)

pub returns : goal.returns
returns g c =
    subst (λ t. Shows g.W.TextSink.puts g.W.TextSink.halts g.W.TextSink.stops c.args.sink.now t c.put-2.new.self c.put-2.result)
    (port_in c.args.port c.in-Some.port c.in-Some.is)
    (shows_then g.met.W.TextSink.rules c.in_ok-put.ensures c.put-2.ensures)
