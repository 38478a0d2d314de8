use Rattle.iri_percent.proofs.Common.{◌≡◌, None, ◌++◌, sym, ap, subst, ◌∙◌, uri_tests, mapped}
use Rattle.iri_percent.proofs.mapped.MappedToUriViewToDedicatedString.try_to_dedicated_string.Goals as goal

pub from_valid-requires : goal.from_valid-requires
from_valid-requires g c =
    let same = c.in_ok-try_append_to_string.ensures.whole
    ∙ (ap (λ z. z ++ mapped c.args.self.now.view.text.now) c.in_ok-text.ensures.bytes ∙ ap mapped (sym c.as_str.ensures.text)) in
    subst (λ z. g.K.Kind.fault uri_tests z ≡ None) (sym same)
    (c.mapped_is_valid.ensures g.S.Spec.tests g.met.S.Spec.lawful c.as_str.result.now c.as_str.ensures.valid)
