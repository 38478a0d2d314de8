use Rattle.iri_edit.proofs.Common.{◌≡◌, ◌∙◌, ◌++◌, ℕ, ◌+◌, ◌≤◌, true, List, [], ◌∷◌, length, None, Some, ap, arith, subst, sym, ◌-◌}
use Rattle.iri_edit.proofs.Common.{IsCharBoundary, is_fragment, before, reference_fault, spliced, text, with_fragment, IsFragmentAt}
use Rattle.std.proofs.Common.{◌<◌, Result, Ok, Err, ◌^◌, OnErr}
use Rattle.std.proofs.Math.Nat.{min-le_left}
use Rattle.std.proofs.lemmas.Str.{IsCharBoundary-end}
use Rattle.iri_grammar.proofs.faults.FaultLaws.{passed}
use Rattle.iri_grammar.specs.declared.error.ErrorKind.TheVariants.{InvalidFragment}
use Rattle.iri_owned.specs.OwnedText.{OwnedText}
use Rattle.iri_edit.proofs.FragmentLemmas.{fragment-put, put-after, put-length, empty_fragment}
use Rattle.iri_edit.proofs.KindLemmas.{IsWhole, fragment-valid}
use Rattle.iri_edit.proofs.fragment.put_fragment.Goals.{After-try_reserve}
use Rattle.iri_edit.proofs.fragment.put_fragment.Given as given
use Rattle.iri_edit.proofs.fragment.put_fragment.Goals as goal

-- where the fragment stands, and the text's kind
at : (g : given.Over) (c : After-try_reserve g)
    → IsFragmentAt c.try_reserve.new.self.text c.fragment_at-start.result.0 c.fragment_at-start.result.1
at g c = subst (λ z. IsFragmentAt z c.fragment_at-start.result.0 c.fragment_at-start.result.1)
    (c.reference_of.ensures.text ∙ sym c.try_reserve.ensures.text) c.fragment_at-start.ensures

valid : (g : given.Over) (c : After-try_reserve g) → g.K.Kind.fault g.S.Spec.tests c.try_reserve.new.self.text ≡ None
valid g c = subst (λ z. g.K.Kind.fault g.S.Spec.tests z ≡ None) (sym c.try_reserve.ensures.text) c.reference_of.ensures.valid

kind : (g : given.Over) → IsWhole g.S.Spec.tests g.K.Kind.fault g.K.WholeKind.allows
kind g = record {
  whole = g.met.K.WholeKind.whole g.S.Spec.tests g.met.S.Spec.lawful;
  made = g.met.K.WholeKind.made g.S.Spec.tests g.met.S.Spec.lawful;
  allowed =
      g.met.K.WholeKind.allowed g.S.Spec.tests g.met.S.Spec.lawful;
}

with-valid : (g : given.Over) (c : After-try_reserve g) (f : List ℕ) → is_fragment g.S.Spec.tests f ≡ true
    → g.K.Kind.fault g.S.Spec.tests (with_fragment c.try_reserve.new.self.text (Some f)) ≡ None
with-valid g c f v = fragment-valid g.S.Spec.tests g.K.Kind.fault g.K.WholeKind.allows g.met.S.Spec.lawful
    (kind g) g.met.K.FragmentKind.free_fragment (Some f) v c.try_reserve.new.self.text (valid g c)

whole : (g : given.Over) (c : After-try_reserve g) → reference_fault g.S.Spec.tests c.try_reserve.new.self.text ≡ None
whole g c = (kind g).whole c.try_reserve.new.self.text (valid g c)

signed : (g : given.Over) (c : After-try_reserve g)
    → spliced c.try_reserve.new.self.text c.fragment_at-start.result.0 c.fragment_at-start.result.1 (35 ∷ [])
    ≡ before 35 c.try_reserve.new.self.text ++ 35 ∷ []
signed g c = (at g c).replaces (35 ∷ [])

on_err : {T E P : Type 0} (r : Result T E) → P → OnErr r P
on_err (Ok x) p = tt
on_err (Err e) p = p

pub returns-in_err-try_reserve-clause-full : goal.returns-in_err-try_reserve-clause-full
returns-in_err-try_reserve-clause-full g c =
    let old = c.args.owned.now in
    let f = text c.args.fragment in
    let start = c.fragment_at-start.result.0 in
    let end = c.fragment_at-start.result.1 in
    let place = subst (λ z. IsFragmentAt z start end) c.reference_of.ensures.text c.fragment_at-start.ensures in
    let long = put-length g.S.Spec.tests g.met.S.Spec.lawful old.text ((kind g).whole old.text c.reference_of.ensures.valid) start end place f in
    let more : c.saturating_add.result ≤ c.len.result + 1 =
    subst (λ n. n ≤ c.len.result + 1) (sym c.saturating_add.ensures) (min-le_left (c.len.result + 1) (2 ^ 64 - 1)) in
    let held : length old.text ≤ old.capacity =
    subst (λ (t : OwnedText). length t.text ≤ t.capacity) c.in_err-try_reserve.ensures.err c.try_reserve.ensures.held in
    on_err c.from_residual.result (subst (λ n. old.capacity < n) (sym long)
    (omega (arith, more, held, place.ordered, place.at_end, c.len.ensures, c.saturating_sub.ensures, c.in_err-try_reserve.ensures.full)))

pub put_in_room-requires-clause-ordered : goal.put_in_room-requires-clause-ordered
put_in_room-requires-clause-ordered g c = (at g (goal.at.put_in_room-requires-clause-ordered g c).After-try_reserve).ordered

pub put_in_room-requires-clause-low : goal.put_in_room-requires-clause-low
put_in_room-requires-clause-low g c = (at g (goal.at.put_in_room-requires-clause-low g c).After-try_reserve).low

pub put_in_room-requires-clause-high : goal.put_in_room-requires-clause-high
put_in_room-requires-clause-high g c = (at g (goal.at.put_in_room-requires-clause-high g c).After-try_reserve).high

pub put_in_room-requires-clause-valid : goal.put_in_room-requires-clause-valid
put_in_room-requires-clause-valid g c =
    let r = (goal.at.put_in_room-requires-clause-valid g c).After-try_reserve in
    let e = signed g r ∙ sym (fragment-put g.S.Spec.tests g.met.S.Spec.lawful r.try_reserve.new.self.text (whole g r) []) in
    subst (λ z. g.K.Kind.fault g.S.Spec.tests z ≡ None) (sym e) (with-valid g r [] (empty_fragment g.S.Spec.tests))

pub put_in_room-requires-2-clause-low : goal.put_in_room-requires-2-clause-low
put_in_room-requires-2-clause-low g c = subst (λ z. IsCharBoundary c.put_in_room.new.owned.text (length z)) (sym c.as_str-end.ensures.text)
    (IsCharBoundary-end c.put_in_room.new.owned.text)

pub put_in_room-requires-2-clause-high : goal.put_in_room-requires-2-clause-high
put_in_room-requires-2-clause-high g c = subst (λ z. IsCharBoundary c.put_in_room.new.owned.text (length z)) (sym c.as_str-end.ensures.text)
    (IsCharBoundary-end c.put_in_room.new.owned.text)

pub put_in_room-requires-2-clause-valid : goal.put_in_room-requires-2-clause-valid
put_in_room-requires-2-clause-valid g c =
    let r = (goal.at.put_in_room-requires-2-clause-valid g c).After-try_reserve in
    let f = c.as_str.result.now in
    let e = put-after g.S.Spec.tests g.met.S.Spec.lawful r.try_reserve.new.self.text (whole g r) c.put_in_room.new.owned.text f
    (length c.as_str-end.result.now) (c.put_in_room.ensures.text ∙ signed g r) (ap length c.as_str-end.ensures.text) in
    subst (λ z. g.K.Kind.fault g.S.Spec.tests z ≡ None) (sym e)
    (with-valid g r f (passed (is_fragment g.S.Spec.tests f) InvalidFragment c.as_str.ensures.valid))

pub returns-clause-ok : goal.returns-clause-ok
returns-clause-ok g c =
    let r = (goal.at.returns-clause-ok g c).After-try_reserve in
    let f = c.as_str.result.now in
    let e = put-after g.S.Spec.tests g.met.S.Spec.lawful r.try_reserve.new.self.text (whole g r) c.put_in_room.new.owned.text f
    (length c.as_str-end.result.now) (c.put_in_room.ensures.text ∙ signed g r) (ap length c.as_str-end.ensures.text) in
    c.put_in_room-2.ensures.text ∙ (e ∙ (ap (λ z. with_fragment z (Some f)) c.try_reserve.ensures.text
    ∙ ap (λ z. with_fragment c.args.owned.now.text (Some z)) c.as_str.ensures.text))
