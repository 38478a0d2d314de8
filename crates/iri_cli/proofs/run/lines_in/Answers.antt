use Rattle.iri_cli.proofs.Common.{RunsLines, inl, outside_state, rules_of, subst, sym}
use Rattle.iri_cli.proofs.run.lines_in.Goals as goal

pub returns-in-Pairs : goal.returns-in-Pairs
returns-in-Pairs g c =
    let state = outside_state g.I.Source.left g.I.Source.faults g.O.Sink.written g.O.Sink.faults g.O.Sink.room_left in
    subst (λ x. RunsLines (rules_of x g.S.Spec.tests c.args.setup.mode) (state c.args.source.now c.args.sink.now)
    (state c.pairs_lines.new.source c.pairs_lines.new.sink) c.pairs_lines.result) (sym c.in-Pairs.is) (inl c.pairs_lines.ensures)

pub returns-in-PairsToUri : goal.returns-in-PairsToUri
returns-in-PairsToUri g c =
    let state = outside_state g.I.Source.left g.I.Source.faults g.O.Sink.written g.O.Sink.faults g.O.Sink.room_left in
    subst (λ x. RunsLines (rules_of x g.S.Spec.tests c.args.setup.mode) (state c.args.source.now c.args.sink.now)
    (state c.pairs_lines-in-PairsToUri.new.source c.pairs_lines-in-PairsToUri.new.sink) c.pairs_lines-in-PairsToUri.result) (sym c.in-PairsToUri.is)
    (inl c.pairs_lines-in-PairsToUri.ensures)
