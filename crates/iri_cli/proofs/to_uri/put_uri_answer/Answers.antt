use Rattle.iri_cli.proofs.Common.{◌++◌, ◌∷◌, [], ◌∙◌, Some, true, false, ap, refl, sym}
use Rattle.iri_cli.proofs.Common.{codes, base_text}
use Rattle.iri_cli.proofs.CanonLemmas.{said_line, said_room}
use Rattle.iri_cli.proofs.PutLemmas.{puts_so}
use Rattle.iri_cli.proofs.ToUriLemmas.{answer_of_reference, answer_of_fault}
use Rattle.iri_cli.proofs.to_uri.put_uri_answer.Goals as goal

pub returns-in-Ok-clause-puts : goal.returns-in-Ok-clause-puts
returns-in-Ok-clause-puts g c =
    let is = answer_of_reference g.S.Spec.tests c.args.mode (base_text c.args.resolver.now) _ _ c.in-Ok.ensures.fault c.in-Ok.ensures.text in
    said_line true _ _ _ _ c.say_good.ensures refl is c.put_good.ensures

pub returns-in-Ok-clause-room : goal.returns-in-Ok-clause-room
returns-in-Ok-clause-room g c =
    let is = answer_of_reference g.S.Spec.tests c.args.mode (base_text c.args.resolver.now) _ _ c.in-Ok.ensures.fault c.in-Ok.ensures.text in
    said_room true _ _ _ _ c.say_good.ensures is c.put_good.ensures

pub returns-in-Err-clause-puts : goal.returns-in-Err-clause-puts
returns-in-Err-clause-puts g c =
    let fault = c.in-Err.ensures.fault ∙ ap Some (sym c.kind.ensures) in
    let is = answer_of_fault g.S.Spec.tests c.args.mode (base_text c.args.resolver.now) _ c.kind.result fault in
    said_line false _ _ _ _ c.say_good-in-Err.ensures refl is (puts_so (ap (λ t. codes "bad " ++ (t ++ 10 ∷ [])) c.description.ensures) c.put_bad.ensures)

pub returns-in-Err-clause-room : goal.returns-in-Err-clause-room
returns-in-Err-clause-room g c =
    let fault = c.in-Err.ensures.fault ∙ ap Some (sym c.kind.ensures) in
    let is = answer_of_fault g.S.Spec.tests c.args.mode (base_text c.args.resolver.now) _ c.kind.result fault in
    said_room false _ _ _ _ c.say_good-in-Err.ensures is (puts_so (ap (λ t. codes "bad " ++ (t ++ 10 ∷ [])) c.description.ensures) c.put_bad.ensures)
