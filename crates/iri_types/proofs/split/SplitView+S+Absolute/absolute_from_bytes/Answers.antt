use Rattle.std.proofs.Common.{Some, sym, ◌∙◌, ap}
use Rattle.iri_grammar.specs.WholeFault.{absolute_fault}
use Rattle.iri_types.proofs.Lemmas.{no_text_fault, answers-of}
use Rattle.iri_types.proofs.split.SplitView+S+Absolute.absolute_from_bytes.Goals as goal

pub returns-in-Some-clause-fault : goal.returns-in-Some-clause-fault
returns-in-Some-clause-fault g c =
    let h = c.in-Some.ensures in
    answers-of c.absolute.result (absolute_fault g.S.Spec.tests) c.in-Some.s.now c.args.b.now h.0 h.1 c.absolute.ensures.fault

pub returns-in-None-clause-fault : goal.returns-in-None-clause-fault
returns-in-None-clause-fault g c = no_text_fault (absolute_fault g.S.Spec.tests) c.args.b.now c.in-None.ensures
    ∙ ap Some (sym c.new.ensures)
