use Rattle.iri_normal.proofs.Common.{◌≡◌, Ok, length, sym, subst, arith, nat_tests, shown_none, shows_all, Shows}
use Rattle.iri_normal.proofs.removal.WrittenPaths.{form-nothing}
use Rattle.iri_normal.proofs.remove_dot_segments.show_part.Goals as goal

pub returns-then-is_empty : goal.returns-then-is_empty
returns-then-is_empty g c =
    let z : length c.args.part.now ≡ 0 = grind (arith, nat_tests) in
    subst (λ x. Shows g.W.TextSink.puts g.W.TextSink.halts g.W.TextSink.stops c.args.sink.now x c.args.sink.now (Ok tt))
    (sym (form-nothing g.S.Spec.tests c.args.normal c.args.part.now z)) (shows_all (shown_none g.met.W.TextSink.rules c.args.sink.now))
