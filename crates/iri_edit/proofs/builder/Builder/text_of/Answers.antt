use Rattle.iri_edit.proofs.Common.{◌≡◌, None, subst, sym, given}
use Rattle.iri_edit.proofs.BuiltLemmas.{built-fits, built-valid}
use Rattle.iri_edit.proofs.KindLemmas.{IsWhole}
use Rattle.iri_edit.proofs.builder.Builder.text_of.Goals as goal

pub normal_where_asked-requires-clause-fits : goal.normal_where_asked-requires-clause-fits
normal_where_asked-requires-clause-fits g c = built-fits g.S.Spec.tests g.met.S.Spec.lawful g.K.BuildKind.refusal
    (given c.args.self.now) c.requires

pub from_valid-requires : goal.from_valid-requires
from_valid-requires g c =
    let s = g.S.Spec.tests in
    let k = g.met.S.Spec.lawful in
    let kind : IsWhole s g.K.Kind.fault g.K.WholeKind.allows =
    record { whole = g.met.K.WholeKind.whole s k; made = g.met.K.WholeKind.made s k; allowed = g.met.K.WholeKind.allowed s k } in
    let valid = built-valid s k g.K.BuildKind.refusal
    (given c.args.self.now) c.requires g.K.Kind.fault g.K.WholeKind.allows kind g.met.K.BuildKind.unrefused in
    subst (λ z. g.K.Kind.fault s z ≡ None) (sym c.in_ok-text.ensures) valid
