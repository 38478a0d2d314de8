use Rattle.iri_grammar.proofs.Common.{◌∙◌, Some, ap, bytes_fault, eqb-true, first, now_of, parts_of, subst, sym, Answers}
use Rattle.std.proofs.lemmas.List.{nil_from_length}
use Rattle.iri_grammar.specs.inside.Scans.{judged_fault}
use Rattle.iri_grammar.proofs.faults.Scans.{judged, left-fault, scanned, whole-fault}
use Rattle.iri_grammar.proofs.splitter.Splitter.after.Goals as goal

pub authority_and_colon-judged-requires : goal.authority_and_colon-judged-requires
authority_and_colon-judged-requires g c = c.in-Some.ensures.2.1

pub returns-then-not-is_empty-clause-fault : goal.returns-then-not-is_empty-clause-fault
returns-then-not-is_empty-clause-fault g c =
    let s = g.S.Spec.tests in
    let sch = now_of c.args.start.scheme in
    let t = c.args.start.rest.now in
    let cut = c.in-Some.ensures in
    let scan = scanned s g.met.S.Spec.lawful sch t _ _ c.scan-tail.result cut.0 cut.1 cut.3 c.scan-tail.ensures.scan in
    let fault = judged_fault s (parts_of sch t) in
    let tells = subst (Answers c.authority_and_colon-judged.result) (judged s sch t _ _ cut.0 c.requires.1) c.authority_and_colon-judged.ensures in
    let rest = c.scan-tail.result.rest.now in
    left-fault s sch t _ rest scan (sym c.is_empty.ensures ∙ c.if-not-is_empty.true)
    ∙ (ap (λ k. bytes_fault (λ _. first fault (Some k)) rest) (sym c.part_left.ensures) ∙ sym (c.stopped.ensures fault tells))

pub returns-in-Ok-clause-fault : goal.returns-in-Ok-clause-fault
returns-in-Ok-clause-fault g c =
    let s = g.S.Spec.tests in
    let sch = now_of c.args.start.scheme in
    let t = c.args.start.rest.now in
    let cut = c.in-Some.ensures in
    let scan = scanned s g.met.S.Spec.lawful sch t _ _ c.scan-tail.result cut.0 cut.1 cut.3 c.scan-tail.ensures.scan in
    let fault = judged_fault s (parts_of sch t) in
    let tells = subst (Answers c.authority_and_colon-judged.result) (judged s sch t _ _ cut.0 c.requires.1) c.authority_and_colon-judged.ensures in
    whole-fault s sch t _ c.scan-tail.result.rest.now scan (sym c.is_empty.ensures ∙ c.if-not-is_empty.false)
    ∙ subst (λ r. Answers r fault) c.in-Ok.is tells

pub returns-in-Ok-clause-value : goal.returns-in-Ok-clause-value
returns-in-Ok-clause-value g c =
    let s = g.S.Spec.tests in
    let sch = now_of c.args.start.scheme in
    let t = c.args.start.rest.now in
    let cut = c.in-Some.ensures in
    let scan = scanned s g.met.S.Spec.lawful sch t _ _ c.scan-tail.result cut.0 cut.1 cut.3 c.scan-tail.ensures.scan in
    scan.whole (nil_from_length c.scan-tail.result.rest.now (eqb-true _ 0 (sym c.is_empty.ensures ∙ c.if-not-is_empty.false)))

pub returns-in-Err-clause-fault : goal.returns-in-Err-clause-fault
returns-in-Err-clause-fault g c =
    let s = g.S.Spec.tests in
    let sch = now_of c.args.start.scheme in
    let t = c.args.start.rest.now in
    let cut = c.in-Some.ensures in
    let scan = scanned s g.met.S.Spec.lawful sch t _ _ c.scan-tail.result cut.0 cut.1 cut.3 c.scan-tail.ensures.scan in
    let fault = judged_fault s (parts_of sch t) in
    let tells = subst (Answers c.authority_and_colon-judged.result) (judged s sch t _ _ cut.0 c.requires.1) c.authority_and_colon-judged.ensures in
    whole-fault s sch t _ c.scan-tail.result.rest.now scan (sym c.is_empty.ensures ∙ c.if-not-is_empty.false)
    ∙ subst (λ r. Answers r fault) c.in-Err.is tells
