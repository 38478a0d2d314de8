use Rattle.iri_register.proofs.Common.{rules, Ok, base_text}
use Rattle.std.proofs.Math.Logic.{∥∥₁_elim}
use Rattle.std.proofs.Props.{props}
use Rattle.iri_register.proofs.ShareLemmas.{adds_joined}
use Rattle.iri_register.proofs.register.Links.add.Goals as goal

pub returns-in-Ok-add-clause-joined : goal.returns-in-Ok-add-clause-joined
returns-in-Ok-add-clause-joined g c =
    adds_joined g.S.Spec.tests c.args.self.now.mode g.met.S.Spec.lawful (base_text c.args.resolver.now)
    (∥∥₁_elim c.args.resolver.now.base.view.valid (hlevel props) (λ e. e)) c.args.reference.now c.args.self.now.entries c.add.new.entries
    c.args.line (Ok c.in-Ok-add.answer) c.in-Ok.ensures.causes (search rules) (search rules)
