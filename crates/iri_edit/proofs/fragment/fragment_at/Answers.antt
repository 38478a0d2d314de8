use Rattle.iri_edit.proofs.Common.{length, subst, sym, IsFragmentAt}
use Rattle.iri_edit.proofs.FragmentLemmas.{fragment-place}
use Rattle.iri_edit.proofs.fragment.fragment_at.Goals as goal

pub returns : goal.returns
returns g c =
    let t = c.as_str-text.result.now in
    let at = subst (λ z. IsFragmentAt t (length z) (length t)) (sym c.cut_before.ensures.before) (fragment-place t) in
    subst (λ z. IsFragmentAt z (length c.cut_before.result.0.now) (length t)) c.as_str-text.ensures.text at
