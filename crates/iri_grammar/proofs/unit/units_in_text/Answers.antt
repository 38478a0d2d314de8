use Rattle.iri_grammar.proofs.Common.{◌≡◌, true, subst, take, arith, and_parts, IsCharBoundary-from_take, class_test, AreUnits, HasNoUnit}
use Rattle.iri_grammar.proofs.Common.{lacks}
use Rattle.iri_grammar.proofs.units.UnitRuns.{lacks_onward, no_units, units_onward, units_text}
use Rattle.iri_grammar.proofs.unit.units_in_text.Goals as goal

pub units-init : goal.units-init
units-init g c = (no_units (class_test g.S.Spec.tests c.args.class) c.args.s.now, λ h. h)

pub range_from-requires : goal.range_from-requires
range_from-requires g c _ =
    let a = c.units.invariant.0 in
    IsCharBoundary-from_take c.args.s.now c.units.i c.utf8.s a.within (units_text (class_test g.S.Spec.tests c.args.class) c.args.s.now c.units.i a)

pub overflow_add-i : goal.overflow_add-i
overflow_add-i g c =
    let p = class_test g.S.Spec.tests c.args.class in
    let len = c.one_kind_in_text-next.result.len in
    let w = units_onward p c.args.s.now c.units.i len c.units.invariant.0
    (subst (λ x. AreUnits p x len) c.range_from.ensures.value c.one_kind_in_text-next.ensures.units) in
    omega (arith, w.within)

pub units-preserved : goal.units-preserved
units-preserved g c =
    let p = class_test g.S.Spec.tests c.args.class in
    let t = c.args.s.now in
    let len = c.one_kind_in_text-next.result.len in
    let here = c.range_from.ensures.value in (
      units_onward p t c.units.i len c.units.invariant.0 (subst (λ x. AreUnits p x len) here c.one_kind_in_text-next.ensures.units),
      λ h. let both = and_parts c.units.bare c.one_kind_in_text-next.result.bare h in
          lacks_onward t c.units.i len (c.units.invariant.1 both.0) (subst (λ x. lacks 37 (take len x) ≡ true) here (c.one_kind_in_text-next.ensures.bare both.1)),
    )

pub returns-then-next-eq0-clause-stops : goal.returns-then-next-eq0-clause-stops
returns-then-next-eq0-clause-stops g c =
    subst (HasNoUnit (class_test g.S.Spec.tests c.args.class)) c.range_from.ensures.value (c.one_kind_in_text-next.ensures.stops c.if-next-eq0.true)
