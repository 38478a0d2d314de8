use Rattle.iri_template.proofs.Common.{◌≡◌, ◌≤◌, length}
use Rattle.iri_template.proofs.PortionWalk.{BothTold, HasMoved}
use Rattle.iri_template.proofs.VarSpecPortions.{WrittenUpTo}
use Rattle.iri_template.specs.Variables.{varspecs_left}
use Rattle.iri_template.proofs.expansion_writer.write_varspecs.Given as goal

-- the varspecs before those that are left were written, with two calls for each
abbrev pub invariant-varspecs : goal.invariant-varspecs
invariant-varspecs g l =
    let w = g.W.TextSink in
    let d = g.C.DynamicContext in
    let all = varspecs_left l.fn.varspecs in
    record {
      far : BothTold (d.tells l.fn.context) (d.tells l.context) (WrittenUpTo g.S.Spec.tests l.operator w.puts w.halts g.met.W.TextSink.rules all
          l.fn.sink l.written (varspecs_left l.left) l.sink);
      moved : HasMoved (d.tells l.fn.context) (length all) (d.tells l.context) (length (varspecs_left l.left));
      starts : d.starts l.context ≡ d.starts l.fn.context;
      ends : d.ends l.context ≡ d.ends l.fn.context;
      later : w.stops l.fn.sink ≤ w.stops l.sink;
    }

abbrev pub decreases-varspecs : goal.decreases-varspecs
decreases-varspecs g l = length (varspecs_left l.left)
