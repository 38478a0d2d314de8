use Rattle.iri_docs.proofs.Common.{◌≡◌, ◌∙◌, Ok, refl, sym, ap, value_in}
use Rattle.std.proofs.Common.{None}
use Rattle.iri_template.specs.TypeFaults.{expansion_fault}
use Rattle.iri_docs.proofs.FaultLemmas.{tells_err, tells_ok}
use Rattle.iri_docs.proofs.ExpandLemmas.{faulty, too_long, short, same_expansion}
use Rattle.iri_docs.proofs.expand.expand.Goals as goal

pub returns-in-Err : goal.returns-in-Err
returns-in-Err g c =
    let s = g.S.Spec.tests in
    let v = value_in c.args.context.now in
    let is = faulty s v _ c.in-Err.error (ap (expansion_fault v) (sym c.as_bytes.ensures.value) ∙ c.in-Err.ensures.fault) in
    record { answer = λ _. is; fault = tells_err _ _ is }

pub returns-in-Ok-None : goal.returns-in-Ok-None
returns-in-Ok-None g c =
    let s = g.S.Spec.tests in
    let v = value_in c.args.context.now in
    let text = c.as_bytes.ensures.value in
    let good : expansion_fault v c.args.template.now ≡ None = ap (expansion_fault v) (sym text) ∙ c.in-Ok.ensures.fault in
    let long = rw c.in-Ok-None.field-0-is at c.in-Ok-None.ensures in
    let same = same_expansion s _ _ _ _ c.in-Ok.ensures.expanded.1 (c.in-Ok.ensures.expanded.0 ∙ text) in
    let is = too_long s v c.args.template.now good (rw same at long) in
    record { answer = λ _. is; fault = tells_err _ _ is }

pub returns-in-Ok-Some : goal.returns-in-Ok-Some
returns-in-Ok-Some g c =
    let s = g.S.Spec.tests in
    let v = value_in c.args.context.now in
    let text = c.as_bytes.ensures.value in
    let good : expansion_fault v c.args.template.now ≡ None = ap (expansion_fault v) (sym text) ∙ c.in-Ok.ensures.fault in
    let within = rw c.in-Ok-Some.field-0-is at c.in-Ok-Some.ensures in
    let same = same_expansion s _ _ _ _ c.in-Ok.ensures.expanded.1 (c.in-Ok.ensures.expanded.0 ∙ text) in
    let is = short s v c.args.template.now good (rw same at within.1) in
    record { answer = is ∙ ap Ok (sym (within.0 ∙ same)); fault = tells_ok _ _ _ is }

pub returns-in-Err-try_into_text_within : goal.returns-in-Err-try_into_text_within
returns-in-Err-try_into_text_within g c =
    let s = g.S.Spec.tests in
    let v = value_in c.args.context.now in
    let text = c.as_bytes.ensures.value in
    let good : expansion_fault v c.args.template.now ≡ None = ap (expansion_fault v) (sym text) ∙ c.in-Ok.ensures.fault in
    let same = same_expansion s _ _ _ _ c.in-Ok.ensures.expanded.1 (c.in-Ok.ensures.expanded.0 ∙ text) in
    let is = short s v _ good (rw same at c.in-Err-try_into_text_within.ensures) in
    record { answer = λ not. absurd (not refl); fault = tells_ok _ _ _ is }
