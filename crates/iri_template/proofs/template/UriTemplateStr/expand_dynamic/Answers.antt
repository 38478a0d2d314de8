use Rattle.iri_template.proofs.Common.{portions, pieces_of, text, EndsAs}
use Rattle.iri_template.proofs.PortionWalk.{calls_between, told_later}
use Rattle.iri_template.proofs.template.UriTemplateStr.expand_dynamic.Goals as goal

pub returns-clause-written : goal.returns-clause-written
returns-clause-written g c =
    let w = g.W.TextSink in
    let written = c.write_expansion-result in
    told_later 1 (g.C.DynamicContext.tells c.args.context.now) (g.C.DynamicContext.tells c.on_expansion_start.new.self)
    (λ f. EndsAs w.puts w.halts (portions g.S.Spec.tests f (pieces_of (text c.args.self))) c.args.writer.now written.new.sink written.result)
    c.on_expansion_start.ensures.moves written.ensures.written

pub returns-clause-refused : goal.returns-clause-refused
returns-clause-refused g c =
    let d = g.C.DynamicContext in
    let written = c.write_expansion-result in
    calls_between (d.tells c.args.context.now) (d.tells c.on_expansion_start.new.self) (d.tells written.new.context)
    (d.tells c.on_expansion_end.new.self) (λ f. portions g.S.Spec.tests f (pieces_of (text c.args.self))) written.result
    c.on_expansion_start.ensures.moves c.on_expansion_end.ensures.moves written.ensures.refused
