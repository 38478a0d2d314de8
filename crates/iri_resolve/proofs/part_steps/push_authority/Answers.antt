use Rattle.iri_resolve.proofs.Common.{◌++◌, length, refl, sym, ◌∙◌, ap, subst, FitsAuthority, is_authority, userinfo_text, if_there}
use Rattle.iri_resolve.proofs.Common.{is_userinfo, is_host, now_of, normal_userinfo, whole_triplets, part_whole, reads, userinfo-whole}
use Rattle.iri_resolve.proofs.Common.{shows_exit, shows_then}
use Rattle.iri_grammar.specs.Spans.{span_parts}
use Rattle.iri_resolve.specs.NormalSteps.{authority_steps, host_steps, port_steps, steps_there}
use Rattle.iri_resolve.proofs.NormalStepLemmas.{authority-pushed}
use Rattle.iri_normal.proofs.ShownTexts.{shows_same}
use Rattle.iri_resolve.proofs.part_steps.push_authority.Goals as goal

pub push_userinfo-requires : goal.push_userinfo-requires
push_userinfo-requires g c =
    let s = g.S.Spec.tests in
    let f = subst (λ p. FitsAuthority s p) (sym c.of-span.ensures) (reads s c.in-Some.authority.now g.met.S.Spec.lawful
    (ap (if_there (is_authority s)) (sym (ap now_of c.in-Some.is)) ∙ c.requires)) in
    ap (if_there whole_triplets) c.userinfo.ensures
    ∙ part_whole (is_userinfo s) (span_parts c.of-span.result).userinfo (λ x h. userinfo-whole s x g.met.S.Spec.lawful h) f.userinfo

pub push_host-requires-clause-host : goal.push_host-requires-clause-host
push_host-requires-clause-host g c =
    let s = g.S.Spec.tests in
    let f = subst (λ p. FitsAuthority s p) (sym c.of-span.ensures) (reads s c.in-Some.authority.now g.met.S.Spec.lawful
    (ap (if_there (is_authority s)) (sym (ap now_of c.in-Some.is)) ∙ c.requires)) in
    ap (is_host s) c.host.ensures ∙ f.host

pub returns-in_err-start : goal.returns-in_err-start
returns-in_err-start g c =
    let s = g.S.Spec.tests in
    let p = span_parts c.of-span.result in
    shows_same (authority-pushed s c.in-Some.authority.now p (length (userinfo_text (normal_userinfo s (now_of c.userinfo.result)))) (now_of c.userinfo.result) p.port p.host
    c.of-span.ensures c.userinfo.ensures refl refl refl ∙ sym (ap (λ o. steps_there (authority_steps s) (now_of o)) c.in-Some.is))
    (shows_exit g.met.T.StepSink.rules (host_steps s (length (userinfo_text (normal_userinfo s (now_of c.userinfo.result)))) p.host ++ port_steps p.port)
    c.from_residual.ensures.0 c.in_err-start.ensures.steps)

pub returns-in_err-push_host : goal.returns-in_err-push_host
returns-in_err-push_host g c =
    let s = g.S.Spec.tests in
    let p = span_parts c.of-span.result in
    shows_same (authority-pushed s c.in-Some.authority.now p c.in_ok-start.start (now_of c.userinfo.result) p.port c.host.result.now
    c.of-span.ensures c.userinfo.ensures c.host.ensures refl c.in_ok-start.ensures.place
    ∙ sym (ap (λ o. steps_there (authority_steps s) (now_of o)) c.in-Some.is))
    (shows_then g.met.T.StepSink.rules c.in_ok-start.ensures.steps
    (shows_exit g.met.T.StepSink.rules (port_steps p.port) c.from_residual-in_err-push_host.ensures.0 c.in_err-push_host.ensures))

pub returns : goal.returns
returns g c =
    let s = g.S.Spec.tests in
    let p = span_parts c.of-span.result in
    shows_same (authority-pushed s c.in-Some.authority.now p c.in_ok-start.start (now_of c.userinfo.result) (now_of c.port.result) c.host.result.now
    c.of-span.ensures c.userinfo.ensures c.host.ensures c.port.ensures c.in_ok-start.ensures.place
    ∙ sym (ap (λ o. steps_there (authority_steps s) (now_of o)) c.in-Some.is))
    (shows_then g.met.T.StepSink.rules c.in_ok-start.ensures.steps
    (shows_then g.met.T.StepSink.rules c.in_ok-push_host.ensures c.push_port.ensures))
