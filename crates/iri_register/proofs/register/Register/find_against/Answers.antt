use Rattle.iri_register.proofs.Common.{◌≡◌, ◌∙◌, [], rules, sym, Ok, base_text}
use Rattle.std.proofs.lemmas.List.{nil_from_length}
use Rattle.std.proofs.Math.Logic.{∥∥₁_elim}
use Rattle.std.proofs.Props.{props}
use Rattle.iri_register.proofs.ShareLemmas.{finds_joined}
use Rattle.iri_register.proofs.register.Register.find_against.Goals as goal

pub returns-in-Ok-clause-joined : goal.returns-in-Ok-clause-joined
returns-in-Ok-clause-joined g c =
    finds_joined g.S.Spec.tests c.args.self.now.mode g.met.S.Spec.lawful (base_text c.args.resolver.now)
    (∥∥₁_elim c.args.resolver.now.base.view.valid (hlevel props) (λ e. e)) c.args.reference.now c.args.self.now.entries (Ok c.find.result)
    c.in-Ok.ensures.causes (search rules)

pub returns-then-len-eq0-clause-joined : goal.returns-then-len-eq0-clause-joined
returns-then-len-eq0-clause-joined g c =
    let none : c.args.self.now.entries ≡ [] = nil_from_length c.args.self.now.entries (sym c.len.ensures.len ∙ c.if-len-eq0.true) in
    let told = finds_joined g.S.Spec.tests c.args.self.now.mode g.met.S.Spec.lawful (base_text c.args.resolver.now)
    (∥∥₁_elim c.args.resolver.now.base.view.valid (hlevel props) (λ e. e)) c.args.reference.now [] c.none_there.result
    c.none_there.ensures.causes c.none_there.ensures.answer in
    rw none told
