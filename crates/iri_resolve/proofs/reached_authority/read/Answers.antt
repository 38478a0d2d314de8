use Rattle.iri_resolve.proofs.Common.{sym, ◌∙◌, ap, subst, FitsAuthority, is_ascii_host, whole_triplets, host-whole, reads}
use Rattle.iri_grammar.specs.Spans.{span_parts}
use Rattle.iri_resolve.proofs.ReachedLemmas.{authority-same}
use Rattle.iri_resolve.proofs.reached_authority.read.Goals as goal

pub is_ascii_host-in_ascii-requires : goal.is_ascii_host-in_ascii-requires
is_ascii_host-in_ascii-requires g c =
    let f = subst (λ p. FitsAuthority g.S.Spec.tests p) (sym c.of-span.ensures)
    (reads g.S.Spec.tests c.args.authority.now g.met.S.Spec.lawful c.requires) in
    ap whole_triplets (c.as_bytes.ensures.value ∙ c.host.ensures)
    ∙ host-whole g.S.Spec.tests (span_parts c.of-span.result).host g.met.S.Spec.lawful f.host

pub returns-clause-parts : goal.returns-clause-parts
returns-clause-parts g c = authority-same (record { userinfo = c.in_ok-userinfo.userinfo; host = c.in_ok-host.host; in_ascii = c.is_ascii_host-in_ascii.result; port = c.in_ok-port.port })
    (span_parts c.of-span.result) (c.in_ok-userinfo.ensures ∙ c.userinfo.ensures)
    (c.in_ok-host.ensures.ok ∙ c.host-2.ensures) (c.in_ok-port.ensures ∙ c.port.ensures) ∙ c.of-span.ensures

pub returns-clause-read : goal.returns-clause-read
returns-clause-read g c = record {
  fits = subst (λ p. FitsAuthority g.S.Spec.tests p) (sym (authority-same (record { userinfo = c.in_ok-userinfo.userinfo; host = c.in_ok-host.host; in_ascii = c.is_ascii_host-in_ascii.result; port = c.in_ok-port.port })
      (span_parts c.of-span.result) (c.in_ok-userinfo.ensures ∙ c.userinfo.ensures)
      (c.in_ok-host.ensures.ok ∙ c.host-2.ensures) (c.in_ok-port.ensures ∙ c.port.ensures) ∙ c.of-span.ensures))
      (reads g.S.Spec.tests c.args.authority.now g.met.S.Spec.lawful c.requires);
  in_ascii = c.is_ascii_host-in_ascii.ensures ∙ ap is_ascii_host (c.as_bytes.ensures.value ∙ c.host.ensures ∙ sym (c.in_ok-host.ensures.ok ∙ c.host-2.ensures));
}
