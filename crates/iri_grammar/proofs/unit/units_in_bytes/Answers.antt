use Rattle.iri_grammar.proofs.Common.{◌≡◌, ◌∙◌, true, ap, subst, sym, take, drop, drop-drop, arith, IsUtf8, and_parts, take_rest}
use Rattle.iri_grammar.proofs.Common.{class_test, AreUnits, HasNoUnit, lacks}
use Rattle.iri_grammar.proofs.units.UnitRuns.{lacks_onward, no_units, rest_text, units_onward}
use Rattle.iri_grammar.proofs.unit.units_in_bytes.Goals as goal

pub units-init : goal.units-init
units-init g c = (no_units (class_test g.S.Spec.tests c.args.class) c.args.bytes.now, λ h. h)

pub overflow_add-i : goal.overflow_add-i
overflow_add-i g c =
    let p = class_test g.S.Spec.tests c.args.class in
    let len = c.one_kind_in_bytes-next.result.len in
    let w = units_onward p c.args.bytes.now c.units.i len c.units.invariant.0
    (subst (λ x. AreUnits p x len) (take_rest c.args.bytes.now c.units.i) c.one_kind_in_bytes-next.ensures.units) in
    omega (arith, w.within)

pub units-preserved : goal.units-preserved
units-preserved g c =
    let p = class_test g.S.Spec.tests c.args.class in
    let t = c.args.bytes.now in
    let len = c.one_kind_in_bytes-next.result.len in
    let here = take_rest t c.units.i in (
      units_onward p t c.units.i len c.units.invariant.0 (subst (λ x. AreUnits p x len) here c.one_kind_in_bytes-next.ensures.units),
      λ h. let both = and_parts c.units.bare c.one_kind_in_bytes-next.result.bare h in
          lacks_onward t c.units.i len (c.units.invariant.1 both.0) (subst (λ x. lacks 37 (take len x) ≡ true) here (c.one_kind_in_bytes-next.ensures.bare both.1)),
    )

pub returns-then-next-eq0 : goal.returns-then-next-eq0
returns-then-next-eq0 g c =
    let p = class_test g.S.Spec.tests c.args.class in
    let t = c.args.bytes.now in
    let i = c.units.i in
    let rest = c.units_past_ascii-rest in
    let n = rest.result.len in
    let here = take_rest t i in
    record {
      units = units_onward p t i n c.units.invariant.0 (subst (λ x. AreUnits p x n) here rest.ensures.units);
      stops = λ u. subst (HasNoUnit p) (ap (drop n) here ∙ drop-drop n i t)
          (rest.ensures.stops (subst IsUtf8 (sym here) (rest_text p t i u c.units.invariant.0)));
      bare = λ h. let both = and_parts c.units.bare rest.result.bare h in
          lacks_onward t i n (c.units.invariant.1 both.0) (subst (λ x. lacks 37 (take n x) ≡ true) here (rest.ensures.bare both.1));
    }
