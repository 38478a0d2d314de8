use Rattle.iri_template.proofs.Common.{◌∙◌, ap, subst, take, drop, cond, [], is_used_up, Shows}
use Rattle.iri_template.proofs.HeldUnits.{after_unit, unit_written}
use Rattle.iri_template.proofs.encoded_value.put_unit.Goals as goal

pub returns-clause-held : goal.returns-clause-held
returns-clause-held g c = c.release.ensures ∙ ap (λ n. drop n c.args.state.now.held) c.unit_len-len.ensures.len

pub returns-clause-begun : goal.returns-clause-begun
returns-clause-begun g c = (after_unit c.args.state.now.held c.release.new.self c.requires.begun c.requires.some (returns-clause-held g c)).0

pub returns-clause-shorter : goal.returns-clause-shorter
returns-clause-shorter g c = (after_unit c.args.state.now.held c.release.new.self c.requires.begun c.requires.some (returns-clause-held g c)).1

pub returns-clause-shows : goal.returns-clause-shows
returns-clause-shows g c =
    let w = g.W.TextSink in
    let r = c.args.state.now in
    subst (λ l. Shows w.puts w.halts w.stops c.args.sink.now l c.put_octets-result.new.sink c.put_octets-result.result)
    (ap (cond (is_used_up r.left) []) (c.start.ensures.text ∙ ap (λ n. take n r.held) c.unit_len-len.ensures.len)
    ∙ unit_written g.S.Spec.tests r.left r.held c.requires.begun c.requires.some) c.put_octets-result.ensures.shows
