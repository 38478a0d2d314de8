use Rattle.iri_edit.proofs.Common.{◌≡◌, ◌+◌, ◌++◌, ◌∙◌, true, length, ap, drop, subst, sym, take, ◌&&◌, ◌||◌, not, is_host, text}
use Rattle.iri_edit.proofs.Common.{is_replaced, with_host}
use Rattle.iri_types.specs.Components.{is_named}
use Rattle.iri_edit.proofs.SpliceLemmas.{host-spliced}
use Rattle.iri_edit.proofs.shown_host.with_other_host.Goals as goal

pub returns : goal.returns
returns g c =
    let s = g.S.Spec.tests in
    let new = c.args.new_host.now in
    let t = text c.args.reference in
    let old = c.in-Some.host.now in
    let start = c.in-Some.start in
    let yes : (is_host s new && (not c.args.names_only || is_named old)) ≡ true = sym c.may_replace.ensures ∙ c.if-not-may_replace.false in
    let same = c.as_str.ensures.text in
    let prefix : c.around.result.0.now ≡ take start t = c.around.ensures.prefix ∙ ap (take start) same in
    let back : c.around.result.1.now ≡ drop (start + length old) t = c.around.ensures.back ∙ ap (drop (start + length old)) same in
    let e : c.around.result.0.now ++ (new ++ c.around.result.1.now) ≡ with_host t new =
    ap (λ z. z ++ (new ++ c.around.result.1.now)) prefix
    ∙ (ap (λ z. take start t ++ (new ++ z)) back ∙ host-spliced s t old start c.in-Some.ensures new) in
    (subst (λ o. is_replaced s c.args.names_only new o ≡ true) (sym c.in-Some.ensures.stands) yes, e)
