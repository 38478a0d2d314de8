use Rattle.iri_grammar.proofs.Common.{◌≡◌, ◌+◌, ◌<◌, sym, ◌∙◌, ap, refl, arith, List, ℕ, Some, length, [], ◌∷◌, now_of, is_group, is_whole, after}
use Rattle.iri_grammar.proofs.hosts.PiecesLaws.{after_shorter}
use Rattle.iri_grammar.proofs.splits.CharBoundaries.{text_after}
use Rattle.iri_grammar.proofs.hosts.Ipv6Groups.{at_last, at_other, at_double, at_end, at_back, at_group}
use Rattle.iri_grammar.proofs.ipv6.completes.Goals as goal

pub returns-in_default : goal.returns-in_default
returns-in_default c =
    let e = sym c.cut.ensures.after ∙ ap now_of c.in_default.is in
    c.is_last.ensures
    ∙ ap (λ p. is_whole c.groups.shortened c.groups.n (p ∷ [])) c.cut.ensures.before
    ∙ sym (at_last c.groups.shortened c.groups.n c.groups.rest.now e)
    ∙ c.groups.invariant.same

pub returns-then-not-is_group : goal.returns-then-not-is_group
returns-then-not-is_group c =
    let e = sym c.cut.ensures.after ∙ ap now_of c.in-Some.is in
    let g = sym (ap is_group c.cut.ensures.before) ∙ (sym c.is_group.ensures ∙ c.if-not-is_group.true) in
    sym (at_other c.groups.shortened c.groups.n c.groups.rest.now c.in-Some.next.now e g) ∙ c.groups.invariant.same

pub returns-then-shortened : goal.returns-then-shortened
returns-then-shortened c =
    let h = c.in-Some-strip_prefix.ensures.cases in
    let e = sym c.cut.ensures.after ∙ ap now_of c.in-Some.is ∙ ap Some (h.1.1 ∙ ap (λ ys. 58 ∷ ys) (sym h.2)) in
    let g = sym (ap is_group c.cut.ensures.before) ∙ (sym c.is_group.ensures ∙ c.if-not-is_group.false) in
    sym (at_double c.groups.shortened c.groups.n c.groups.rest.now c.in-Some-strip_prefix.back.now e g ∙ rw c.if-shortened.true refl)
    ∙ c.groups.invariant.same

pub returns-then-is_empty : goal.returns-then-is_empty
returns-then-is_empty c =
    let h = c.in-Some-strip_prefix.ensures.cases in
    let e = sym c.cut.ensures.after ∙ ap now_of c.in-Some.is ∙ ap Some (h.1.1 ∙ ap (λ ys. 58 ∷ ys) (sym h.2)) in
    let g = sym (ap is_group c.cut.ensures.before) ∙ (sym c.is_group.ensures ∙ c.if-not-is_group.false) in
    sym (at_end c.groups.shortened c.groups.n c.groups.rest.now c.in-Some-strip_prefix.back.now e g c.if-shortened.false
    (sym c.is_empty.ensures ∙ c.if-is_empty.true)) ∙ c.groups.invariant.same

shorter : (t r b : List ℕ) → after 58 t ≡ Some r → r ≡ 58 ∷ b → length b + 1 < length t
shorter t r b e s = omega (arith, after_shorter 58 t r e, ap length s)

pub groups-smaller : goal.groups-smaller
groups-smaller c =
    let h = c.in-Some-strip_prefix.ensures.cases in
    let e = sym c.cut.ensures.after ∙ ap now_of c.in-Some.is in
    let s = h.1.1 ∙ ap (λ ys. 58 ∷ ys) (sym h.2) in
    omega (arith, shorter c.groups.rest.now c.in-Some.next.now c.in-Some-strip_prefix.back.now e s)

pub groups-preserved : goal.groups-preserved
groups-preserved c =
    let h = c.in-Some-strip_prefix.ensures.cases in
    let s = h.1.1 ∙ ap (λ ys. 58 ∷ ys) (sym h.2) in
    let e = sym c.cut.ensures.after ∙ ap now_of c.in-Some.is in
    let g = sym (ap is_group c.cut.ensures.before) ∙ (sym c.is_group.ensures ∙ c.if-not-is_group.false) in
    record {
      utf8 = text_after 58 c.in-Some.next.now c.in-Some-strip_prefix.back.now (omega arith)
          (text_after 58 c.groups.rest.now c.in-Some.next.now (omega arith) c.groups.invariant.utf8 e) (ap (after 58) s);
      same =
          sym (at_back c.groups.shortened c.groups.n c.groups.rest.now c.in-Some-strip_prefix.back.now (e ∙ ap Some s) g
          c.if-shortened.false (sym c.is_empty.ensures ∙ c.if-is_empty.false))
          ∙ c.groups.invariant.same;
      small = omega (arith, shorter c.groups.rest.now c.in-Some.next.now c.in-Some-strip_prefix.back.now e s, c.groups.invariant.small);
    }

pub groups-smaller-in_default-strip_prefix : goal.groups-smaller-in_default-strip_prefix
groups-smaller-in_default-strip_prefix c = let e = sym c.cut.ensures.after ∙ ap now_of c.in-Some.is in
    omega (arith, after_shorter 58 c.groups.rest.now c.in-Some.next.now e)

pub groups-preserved-in_default-strip_prefix : goal.groups-preserved-in_default-strip_prefix
groups-preserved-in_default-strip_prefix c =
    let e = sym c.cut.ensures.after ∙ ap now_of c.in-Some.is in
    let g = sym (ap is_group c.cut.ensures.before) ∙ (sym c.is_group.ensures ∙ c.if-not-is_group.false) in
    record {
      utf8 = text_after 58 c.groups.rest.now c.in-Some.next.now (omega arith) c.groups.invariant.utf8 e;
      same =
          sym (at_group c.groups.shortened c.groups.n c.groups.rest.now c.in-Some.next.now e g c.in_default-strip_prefix.ensures.cases)
          ∙ c.groups.invariant.same;
      small = omega (arith, after_shorter 58 c.groups.rest.now c.in-Some.next.now e, c.groups.invariant.small);
    }
