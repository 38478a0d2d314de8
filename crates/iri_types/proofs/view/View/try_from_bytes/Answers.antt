use Rattle.std.proofs.Common.{Some, sym, ◌∙◌, ap}
use Rattle.iri_grammar.proofs.splits.TextParts.{no_text_fault, answers-of}
use Rattle.iri_types.proofs.view.View.try_from_bytes.Goals as goal

pub returns-in-Some-clause-fault : goal.returns-in-Some-clause-fault
returns-in-Some-clause-fault g c =
    let h = c.in-Some.ensures in
    answers-of c.new.result (g.K.Kind.fault g.S.Spec.tests) c.in-Some.s.now c.args.b.now h.0 h.1 c.new.ensures.fault

pub returns-in-None-clause-fault : goal.returns-in-None-clause-fault
returns-in-None-clause-fault g c = no_text_fault (g.K.Kind.fault g.S.Spec.tests) c.args.b.now c.in-None.ensures
    ∙ ap Some (sym c.new-in-None.ensures)
