use Rattle.iri_calls.proofs.Common.{Some, ◌∙◌, ap, sym, text_fault, no_text_fault}
use Rattle.iri_grammar.specs.Fault.{host_fault}
use Rattle.iri_calls.proofs.hosts.read_host.Goals as goal

pub returns-in_default : goal.returns-in_default
returns-in_default g c = no_text_fault (host_fault g.S.Spec.tests) c.args.bytes.now c.in_default.ensures.cases.0

pub returns-in-Ok-host : goal.returns-in-Ok-host
returns-in-Ok-host g c =
    let f = host_fault g.S.Spec.tests in
    let whole = c.in-Ok.ensures.cases in
    (whole.0, text_fault f c.args.bytes.now whole.1 ∙ (sym (ap f whole.0) ∙ c.in-Ok-host.ensures))

pub returns-in-Err : goal.returns-in-Err
returns-in-Err g c =
    let f = host_fault g.S.Spec.tests in
    let whole = c.in-Ok.ensures.cases in
    text_fault f c.args.bytes.now whole.1 ∙ (sym (ap f whole.0) ∙ (c.in-Err.ensures ∙ ap Some (sym c.kind.ensures)))
