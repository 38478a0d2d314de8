use Rattle.iri_edit.proofs.Common.{◌≡◌, ◌+◌, ◌++◌, ◌∙◌, true, length, None, ap, append_assoc, length-append, subst, sym, IsCharBoundary}
use Rattle.iri_edit.proofs.Common.{◌&&◌, ◌||◌, not, slice_range, both, is_host, is_replaced, IsHostAt}
use Rattle.std.proofs.lemmas.Str.{IsCharBoundary-at_seam, IsUtf8-append}
use Rattle.iri_types.specs.Components.{is_named}
use Rattle.iri_edit.proofs.KindLemmas.{IsWhole, host-valid}
use Rattle.iri_edit.proofs.SpliceLemmas.{host-spliced, slice-there}
use Rattle.iri_edit.proofs.host.put_host.Goals as goal

pub splice-requires-clause-valid : goal.splice-requires-clause-valid
splice-requires-clause-valid g c =
    let s = g.S.Spec.tests in
    let k = g.met.S.Spec.lawful in
    let new = c.args.new_host.now in
    let kind : IsWhole s g.K.Kind.fault g.K.WholeKind.allows =
    record { whole = g.met.K.WholeKind.whole s k; made = g.met.K.WholeKind.made s k; allowed = g.met.K.WholeKind.allowed s k } in
    let at = subst (λ z. IsHostAt s z c.in-Some.host.now c.in-Some.start) c.reference_of.ensures.text c.in-Some.ensures in
    let yes : (is_host s new && (not c.args.names_only || is_named c.in-Some.host.now)) ≡ true =
    sym c.may_replace.ensures ∙ c.if-not-may_replace.false in
    let host = (both (is_host s new) (not c.args.names_only || is_named c.in-Some.host.now) yes).0 in
    subst (λ z. g.K.Kind.fault s z ≡ None) (sym (host-spliced s _ c.in-Some.host.now c.in-Some.start at new))
    (host-valid s g.K.Kind.fault g.K.WholeKind.allows k kind new _ host c.reference_of.ensures.valid)

pub returns : goal.returns
returns g c =
    let s = g.S.Spec.tests in
    let new = c.args.new_host.now in
    let old = c.in-Some.host.now in
    let start = c.in-Some.start in
    let at = subst (λ z. IsHostAt s z old start) c.reference_of.ensures.text c.in-Some.ensures in
    let yes : (is_host s new && (not c.args.names_only || is_named old)) ≡ true = sym c.may_replace.ensures ∙ c.if-not-may_replace.false in
    let text = c.in_ok-splice.ensures.ok ∙ host-spliced s _ old start at new in
    let same = text ∙ at.edits new in
    let low = subst (IsCharBoundary c.splice.new.self.text) at.at
    (IsCharBoundary-at_seam c.splice.new.self.text at.prefix (new ++ at.back) same (IsUtf8-append new at.back c.utf8.new_host at.utf8)) in
    let length_both : length (at.prefix ++ new) ≡ start + length new = length-append at.prefix new ∙ ap (λ n. n + length new) at.at in
    let high = subst (IsCharBoundary c.splice.new.self.text) length_both
    (IsCharBoundary-at_seam c.splice.new.self.text (at.prefix ++ new) at.back
    (same ∙ sym (append_assoc at.prefix new at.back)) at.utf8) in (
      subst (λ o. is_replaced s c.args.names_only new o ≡ true) (sym at.stands) yes,
      text,
      ap (λ z. slice_range z start (start + length new)) same ∙ slice-there at.prefix new at.back start at.at,
      low,
      high,
      c.splice.ensures.capacity,
    )
