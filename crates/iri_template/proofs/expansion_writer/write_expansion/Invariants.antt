use Rattle.iri_template.proofs.Common.{◌≡◌, ◌≤◌, length}
use Rattle.iri_template.proofs.PartWalk.{names_in, ReachedUpTo}
use Rattle.iri_template.proofs.PortionWalk.{BothTold, HasMoved}
use Rattle.iri_template.proofs.expansion_writer.write_expansion.Given as goal

-- the parts before those that are left were written, with two calls for each varspec
abbrev pub invariant-parts : goal.invariant-parts
invariant-parts g l =
    let w = g.W.TextSink in
    let d = g.C.DynamicContext in
    record {
      len : l.left.len ≡ length l.template;
      far : BothTold (d.tells l.fn.context) (d.tells l.context) (ReachedUpTo g.S.Spec.tests w.puts w.halts g.met.W.TextSink.rules l.template
          l.fn.sink l.begin l.left.rest.now l.sink);
      moved : HasMoved (d.tells l.fn.context) (names_in l.template) (d.tells l.context) (names_in l.left.rest.now);
      starts : d.starts l.context ≡ d.starts l.fn.context;
      ends : d.ends l.context ≡ d.ends l.fn.context;
      later : w.stops l.fn.sink ≤ w.stops l.sink;
    }

abbrev pub decreases-parts : goal.decreases-parts
decreases-parts g l = length l.left.rest.now
