use Rattle.iri_template.proofs.Common.{◌≤◌, ◌-◌, length, refl, sym, ◌∙◌, ap, subst, arith, rules}
use Rattle.iri_template.specs.inside.Parts.{IsFirst}
use Rattle.iri_template.specs.inside.PartEnds.{calls_of, begin_after}
use Rattle.iri_template.proofs.PartWalk.{ReachedUpTo, reached_none, reached_more, reached_refused, reached_end, names_in, names_left, none_in}
use Rattle.iri_template.proofs.PortionWalk.{BothTold, HasMoved, moved_none, moved_more, moved_all}
use Rattle.iri_template.proofs.expansion_writer.write_expansion.Goals as goal

pub parts-init : goal.parts-init
parts-init g c =
    let w = g.W.TextSink in
    let tells = g.C.DynamicContext.tells c.args.context.now in
    let whole = c.args.template.now in
    let same = sym c.of-left.ensures.rest in
    record {
      len = c.of-left.ensures.len;
      far = subst (λ t. BothTold tells tells (ReachedUpTo g.S.Spec.tests w.puts w.halts g.met.W.TextSink.rules whole c.args.sink.now 0 t c.args.sink.now)) same
          (reached_none g.S.Spec.tests w.puts w.halts g.met.W.TextSink.rules whole c.args.sink.now tells);
      moved = subst (λ t. HasMoved tells (names_in whole) tells (names_in t)) same (moved_none tells (names_in whole));
      starts = refl;
      ends = refl;
      later = omega arith;
    }

pub parts-smaller : goal.parts-smaller
parts-smaller g c = c.in-Some.ensures.part.part.past.shorter

pub parts-preserved : goal.parts-preserved
parts-preserved g c =
    let w = g.W.TextSink in
    let d = g.C.DynamicContext in
    let i = c.parts.invariant in
    let q = c.in-Ok.ensures in
    let t = c.parts.left.rest.now in
    let r = c.next.new.self.rest.now in
    let whole = c.args.template.now in
    let p = c.in-Some.part in
    let cut : IsFirst p (length whole - length t) t r = subst (λ n. IsFirst p (n - length t) t r) i.len c.in-Some.ensures.part in
    let there = c.begin_after-next.ensures ∙ ap (begin_after p c.parts.begin)
    (c.location.ensures ∙ ap (λ n. n - length r) (c.next.ensures.len ∙ i.len)) in
    record {
      len = c.next.ensures.len ∙ i.len;
      far =
          subst (λ n. BothTold (d.tells c.args.context.now) (d.tells c.write_part.new.context)
          (ReachedUpTo g.S.Spec.tests w.puts w.halts g.met.W.TextSink.rules whole c.args.sink.now n r c.write_part.new.sink)) (sym there)
          (reached_more g.S.Spec.tests w.puts w.halts g.met.W.TextSink.rules whole c.args.sink.now p t r c.parts.begin c.parts.sink
          c.write_part.new.sink tt cut (subst (λ n. length t ≤ n) i.len c.parts.left.fine.within)
          (d.tells c.args.context.now) (d.tells c.parts.context) (d.tells c.write_part.new.context) i.far q.moves q.written);
      moved =
          moved_more (d.tells c.args.context.now) (d.tells c.parts.context) (d.tells c.write_part.new.context) (names_in whole) (names_in t)
          (names_in r) (calls_of p) (names_left p (length whole - length t) t r cut.part) i.moved q.moves;
      starts = q.same_starts ∙ i.starts;
      ends = q.same_ends ∙ i.ends;
      later = omega (arith, i.later, q.later);
    }

pub returns-in-Err : goal.returns-in-Err
returns-in-Err g c =
    let w = g.W.TextSink in
    let d = g.C.DynamicContext in
    let i = c.parts.invariant in
    let q = c.in-Err.ensures in
    let t = c.parts.left.rest.now in
    let r = c.next.new.self.rest.now in
    let whole = c.args.template.now in
    let p = c.in-Some.part in
    let cut : IsFirst p (length whole - length t) t r = subst (λ n. IsFirst p (n - length t) t r) i.len c.in-Some.ensures.part in
    let ends = reached_refused g.S.Spec.tests w.puts w.halts g.met.W.TextSink.rules whole c.args.sink.now p t r
    c.parts.begin c.parts.sink c.write_part.new.sink c.in-Err.error cut
    (d.tells c.args.context.now) (d.tells c.parts.context) (d.tells c.write_part.new.context) i.far q.written q.refused in
    record {
      written = ends.0;
      cause = search rules;
      later = omega (arith, i.later, q.later);
      moves = tt;
      refused = ends.1;
      same_starts = q.same_starts ∙ i.starts;
      same_ends = q.same_ends ∙ i.ends;
    }

pub returns-clause-written : goal.returns-clause-written
returns-clause-written g c =
    let w = g.W.TextSink in
    let d = g.C.DynamicContext in
    reached_end g.S.Spec.tests w.puts w.halts g.met.W.TextSink.rules c.args.template.now c.args.sink.now c.parts.left.rest.now c.parts.begin
    c.parts.sink tt c.in_default.ensures.part.0 (d.tells c.args.context.now) (d.tells c.parts.context) c.parts.invariant.far

pub returns-clause-moves : goal.returns-clause-moves
returns-clause-moves g c =
    let t = g.C.DynamicContext.tells c.args.context.now in
    let u = g.C.DynamicContext.tells c.parts.context in
    let all = names_in c.args.template.now in
    moved_all t u all (subst (HasMoved t all u) (none_in c.parts.left.rest.now c.in_default.ensures.part.0) c.parts.invariant.moved)
