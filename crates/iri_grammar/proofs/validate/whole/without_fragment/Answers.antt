use Rattle.iri_grammar.proofs.Common.{Answers, fragment_fault, part_fault, now_of, parts, parts_fault, UnexpectedFragment}
use Rattle.std.proofs.Common.{◌≡◌, ◌∙◌, IfOk, Some, ap, subst, sym}
use Rattle.iri_grammar.specs.inside.Scans.{absolute_kind}
use Rattle.iri_grammar.proofs.faults.FaultLaws.{absolute-beside, absolute-from}
use Rattle.iri_grammar.proofs.validate.whole.without_fragment.Goals as goal

pub returns-in-Some-clause-fault : goal.returns-in-Some-clause-fault
returns-in-Some-clause-fault c s p a v =
    let none = subst (λ r. Answers r (parts_fault s (fragment_fault s) p)) c.in-Ok.is a in
    let same = subst (λ r. IfOk r (λ q. parts q ≡ p)) c.in-Ok.is v in
    absolute-beside s p none
    ∙ (ap (part_fault (λ _. Some UnexpectedFragment)) (ap (λ q. q.fragment) (sym same) ∙ (sym c.fragment.ensures ∙ ap now_of c.in-Some.is))
    ∙ ap Some (sym c.new.ensures))

pub returns-in-None-clause-fault : goal.returns-in-None-clause-fault
returns-in-None-clause-fault c s p a v =
    let none = subst (λ r. Answers r (parts_fault s (fragment_fault s) p)) c.in-Ok.is a in
    let same = subst (λ r. IfOk r (λ q. parts q ≡ p)) c.in-Ok.is v in
    absolute-beside s p none ∙ ap (part_fault (λ _. Some UnexpectedFragment)) (ap (λ q. q.fragment) (sym same) ∙ (sym c.fragment.ensures ∙ ap now_of c.in-None.is))

pub returns-in-Err-clause-fault : goal.returns-in-Err-clause-fault
returns-in-Err-clause-fault c s p a v =
    let some = subst (λ r. Answers r (parts_fault s (fragment_fault s) p)) c.in-Err.is a in
    absolute-from s p c.in-Err.fault.kind some
    ∙ ap Some (ap absolute_kind (sym c.kind.ensures) ∙ (sym c.absolute_kind.ensures ∙ sym c.new-in-Err.ensures))
