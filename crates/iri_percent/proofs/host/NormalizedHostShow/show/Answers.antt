use Rattle.iri_percent.proofs.Common.{◌≡◌, ap, sym, ◌∙◌, subst, true, list_all, Shows, whole_triplets, normal, is_ascii_host, is_plain_byte}
use Rattle.iri_percent.proofs.Common.{case_of}
use Rattle.iri_percent.proofs.units.OfParts.{host-whole}
use Rattle.iri_percent.proofs.hosts.AsciiHosts.{plain_host, host_case}
use Rattle.iri_percent.proofs.host.NormalizedHostShow.show.Goals as goal

pub returns-then-is_plain : goal.returns-then-is_plain
returns-then-is_plain g c =
    let plain : list_all is_plain_byte c.args.self.now.host.now ≡ true =
    ap (list_all is_plain_byte) (sym c.as_bytes.ensures.value) ∙ sym c.if-is_plain.ensures in
    subst (λ t. Shows g.W.TextSink.puts g.W.TextSink.halts g.W.TextSink.stops c.args.sink.now t c.put.new.self c.put.result)
    (sym (plain_host g.S.Spec.tests c.args.self.now.host.now plain)) c.put.ensures

pub is_ascii_host-requires : goal.is_ascii_host-requires
is_ascii_host-requires g c = ap whole_triplets c.as_bytes-2.ensures.value
    ∙ host-whole g.S.Spec.tests c.args.self.now.host.now g.met.S.Spec.lawful c.args.self.now.valid

pub show_normal-requires : goal.show_normal-requires
show_normal-requires g c = host-whole g.S.Spec.tests c.args.self.now.host.now g.met.S.Spec.lawful c.args.self.now.valid

pub returns : goal.returns
returns g c =
    let case : case_of c.is_ascii_host.result ≡ case_of (is_ascii_host c.args.self.now.host.now) =
    ap case_of (c.is_ascii_host.ensures ∙ ap is_ascii_host c.as_bytes-2.ensures.value) in
    subst (λ t. Shows g.W.TextSink.puts g.W.TextSink.halts g.W.TextSink.stops c.args.sink.now t c.show_normal.new.sink c.show_normal.result)
    (ap (λ f. normal g.S.Spec.tests f c.args.self.now.host.now) case
    ∙ sym (host_case g.S.Spec.tests c.args.self.now.host.now)) c.show_normal.ensures
