use Rattle.iri_template.proofs.Common.{subst, portions, pieces_of, always, text, EndsAs}
use Rattle.iri_template.proofs.FixedLemmas.{fixed_ends}
use Rattle.iri_template.proofs.laws.expanded_as_fixed.Goals as goal

pub returns-clause-same : goal.returns-clause-same
returns-clause-same g c =
    let w = g.W.TextSink in
    let s = g.S.Spec.tests in
    let value = g.C.Context.value_of in
    let ps = pieces_of (text c.args.template) in
    let call = c.expand_dynamic in
    fixed_ends s (value c.args.context.now) w.puts w.halts ps c.args.writer.now call.new.writer call.result
    (subst (λ x. EndsAs w.puts w.halts (portions s (always (value x)) ps) c.args.writer.now call.new.writer call.result) c.new-fixed.ensures
    call.ensures.written)
