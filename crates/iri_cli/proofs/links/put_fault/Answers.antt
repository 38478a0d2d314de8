use Rattle.iri_cli.proofs.Common.{◌++◌, ◌∷◌, [], arith, codes, refl, subst, PutsAll, sink_state}
use Rattle.iri_cli.proofs.LinksLemmas.{displayed_short}
use Rattle.iri_cli.proofs.links.put_fault.Goals as goal

pub returns : goal.returns
returns g c =
    let state = sink_state g.O.Sink.written g.O.Sink.faults g.O.Sink.room_left in
    subst (λ t. PutsAll (state c.args.sink.now) (state c.put_bad.new.sink) c.put_bad.result (codes "bad " ++ (t ++ 10 ∷ [])))
    c.in-Ok.ensures.text c.put_bad.ensures

pub unreachable-requires : goal.unreachable-requires
unreachable-requires g c =
    let long = (c.in-Err.ensures {u = tt}).exact.0 refl in
    omega (arith, long, displayed_short c.args.kind c.args.place (omega (arith, c.ranges.place)))
