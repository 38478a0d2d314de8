use Rattle.iri_normal.proofs.Common.{◌≡◌, ◌++◌, [], ◌∷◌, ◌∙◌, true, subst, sym, ap, arith, path_char, before, now_of, after_shorter}
use Rattle.iri_normal.proofs.Common.{is_dot_segment, ends_at_slash, nothing_over}
use Rattle.iri_grammar.proofs.splits.CharBoundaries.{text_after}
use Rattle.iri_normal.proofs.segments.Slashes.{first_whole, rest-ends}
use Rattle.iri_normal.proofs.removal.LongPaths.{first-path, gone-all, gone-dots}
use Rattle.iri_normal.proofs.segments.DotKinds.{nothing-is_no_dot}
use Rattle.iri_normal.proofs.remove_dot_segments.segments.without_first_dots.Goals as goal

pub dots-smaller : goal.dots-smaller
dots-smaller g c = let e = sym c.cut.ensures.after ∙ ap now_of c.in-Some.is in
    omega (arith, after_shorter 47 c.dots.rest.now c.in-Some.next.now e)

pub dots-preserved : goal.dots-preserved
dots-preserved g c =
    let i = c.dots.invariant in
    let t = c.dots.rest.now in
    let r = c.in-Some.next.now in
    let e = sym c.cut.ensures.after ∙ ap now_of c.in-Some.is in
    let d = sym (ap is_dot_segment c.cut.ensures.before) ∙ (sym c.is_dot_segment.ensures ∙ c.if-not-is_dot_segment.false) in
    record {
      utf8 = text_after 47 t r (omega arith) i.utf8 e;
      ends = λ h. rest-ends (before 47 t ++ 47 ∷ []) r (subst (λ l. ends_at_slash l ≡ true) (first_whole t r e) (i.ends h));
      path = (first-path g.S.Spec.tests t r e i.path).1;
      room = omega (arith, i.room, after_shorter 47 t r e);
      same = sym (gone-dots t r e d) ∙ i.same;
    }

pub returns-then-not-is_dot_segment-clause-plain : goal.returns-then-not-is_dot_segment-clause-plain
returns-then-not-is_dot_segment-clause-plain g c =
    sym (ap is_dot_segment c.cut.ensures.before) ∙ (sym c.is_dot_segment.ensures ∙ c.if-not-is_dot_segment.true)

pub returns-in-None-clause-path : goal.returns-in-None-clause-path
returns-in-None-clause-path g c = nothing_over (path_char g.S.Spec.tests)

pub returns-in-None-clause-plain : goal.returns-in-None-clause-plain
returns-in-None-clause-plain g c = nothing-is_no_dot

pub returns-in-None-clause-same : goal.returns-in-None-clause-same
returns-in-None-clause-same g c =
    let e = sym c.cut.ensures.after ∙ ap now_of c.in-None.is in
    let d = sym (ap is_dot_segment c.cut.ensures.before) ∙ (sym c.is_dot_segment.ensures ∙ c.if-not-is_dot_segment.false) in
    sym (gone-all c.dots.rest.now e d) ∙ c.dots.invariant.same
