use Rattle.iri_template.proofs.Common.{length, ap, refl, ◌∙◌, subst, arith, rules}
use Rattle.iri_template.specs.VarSpecs.{placed_of}
use Rattle.iri_template.specs.Variables.{varspecs_left}
use Rattle.iri_template.proofs.PortionWalk.{BothTold, HasMoved, moved_none, moved_more, moved_all}
use Rattle.iri_template.proofs.VarSpecPortions.{WrittenUpTo, up_to_none, up_to_more, up_to_end, up_to_refused}
use Rattle.iri_template.proofs.expansion_writer.write_varspecs.Goals as goal

pub varspecs-init : goal.varspecs-init
varspecs-init g c =
    let w = g.W.TextSink in
    let tells = g.C.DynamicContext.tells c.args.context.now in
    let all = varspecs_left c.args.varspecs in
    record {
      far = up_to_none g.S.Spec.tests c.args.operator w.puts w.halts g.met.W.TextSink.rules all c.args.sink.now tells;
      moved = moved_none tells (length all);
      starts = refl;
      ends = refl;
      later = omega arith;
    }

pub varspecs-smaller : goal.varspecs-smaller
varspecs-smaller g c = omega (arith, ap length c.in-Some.ensures)

pub varspecs-preserved : goal.varspecs-preserved
varspecs-preserved g c =
    let w = g.W.TextSink in
    let d = g.C.DynamicContext in
    let i = c.varspecs.invariant in
    let q = c.in-Ok.ensures in
    let all = varspecs_left c.args.varspecs in
    let now = varspecs_left c.varspecs.left in
    let others = varspecs_left c.next.new.self in
    record {
      far =
          up_to_more g.S.Spec.tests c.args.operator w.puts w.halts g.met.W.TextSink.rules all c.args.sink.now c.varspecs.written now
          (placed_of c.in-Some.varspec) others c.in-Some.ensures c.varspecs.sink c.write_varspec.new.sink c.write_varspec.new.written tt
          (d.tells c.args.context.now) (d.tells c.varspecs.context) (d.tells c.write_varspec.new.context) i.far q.moves q.goes_on q.written;
      moved =
          moved_more (d.tells c.args.context.now) (d.tells c.varspecs.context) (d.tells c.write_varspec.new.context)
          (length all) (length now) (length others) 2 (omega (arith, ap length c.in-Some.ensures)) i.moved q.moves;
      starts = q.same_starts ∙ i.starts;
      ends = q.same_ends ∙ i.ends;
      later = omega (arith, i.later, q.later);
    }

pub returns-in-Err : goal.returns-in-Err
returns-in-Err g c =
    let w = g.W.TextSink in
    let d = g.C.DynamicContext in
    let i = c.varspecs.invariant in
    let q = c.in-Err.ensures in
    let ends = up_to_refused g.S.Spec.tests c.args.operator w.puts w.halts g.met.W.TextSink.rules (varspecs_left c.args.varspecs) c.args.sink.now
    c.varspecs.written (varspecs_left c.varspecs.left) (placed_of c.in-Some.varspec) (varspecs_left c.next.new.self) c.in-Some.ensures
    c.varspecs.sink c.write_varspec.new.sink c.in-Err.error q.place (d.tells c.args.context.now) (d.tells c.varspecs.context)
    (d.tells c.write_varspec.new.context) i.far q.written q.calls in
    record {
      written = ends.0;
      cause = search rules;
      later = omega (arith, i.later, q.later);
      moves = tt;
      refused = ends.1;
      same_starts = q.same_starts ∙ i.starts;
      same_ends = q.same_ends ∙ i.ends;
    }

pub returns-clause-written : goal.returns-clause-written
returns-clause-written g c =
    let w = g.W.TextSink in
    let d = g.C.DynamicContext in
    let tells = d.tells c.args.context.now in
    let now = d.tells c.varspecs.context in
    let far = subst (λ l. BothTold tells now (WrittenUpTo g.S.Spec.tests c.args.operator w.puts w.halts g.met.W.TextSink.rules
    (varspecs_left c.args.varspecs) c.args.sink.now c.varspecs.written l c.varspecs.sink)) c.in_default.ensures.0 c.varspecs.invariant.far in
    up_to_end g.S.Spec.tests c.args.operator w.puts w.halts g.met.W.TextSink.rules (varspecs_left c.args.varspecs) c.args.sink.now
    c.varspecs.written c.varspecs.sink tt tells now far

pub returns-clause-moves : goal.returns-clause-moves
returns-clause-moves g c =
    let d = g.C.DynamicContext in
    let t = d.tells c.args.context.now in
    let u = d.tells c.varspecs.context in
    let all = length (varspecs_left c.args.varspecs) in
    moved_all t u all (subst (HasMoved t all u) (ap length c.in_default.ensures.0) c.varspecs.invariant.moved)
