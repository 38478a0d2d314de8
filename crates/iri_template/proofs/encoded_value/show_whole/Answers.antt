use Rattle.iri_template.proofs.Common.{[], ◌∙◌, ap, shows_all, shown_none}
use Rattle.iri_template.proofs.Reading.{whole_then, whole_exit, kept_end, chars_end}
use Rattle.iri_template.specs.inside.Reads.{value_rest}
use Rattle.iri_template.proofs.encoded_value.show_whole.Goals as goal

pub returns-in_err-show-clause-shows : goal.returns-in_err-show-clause-shows
returns-in_err-show-clause-shows g c = whole_exit g.S.Spec.tests g.met.W.TextSink.rules c.args.values.now c.show.new.sink
    (g.T.Show.text c.args.value.now) _ c.from_residual.ensures.0 c.requires c.in_err-show.ensures

pub returns-then-not-values-clause-shows : goal.returns-then-not-values-clause-shows
returns-then-not-values-clause-shows g c =
    let b = c.show.new.sink in
    whole_then g.S.Spec.tests g.met.W.TextSink.rules c.args.values.now b b.to.now (g.T.Show.text c.args.value.now) [] _ _ c.requires
    c.in_ok-show.ensures
    (ap (λ v. value_rest g.S.Spec.tests v b.state []) c.if-not-values.true ∙ chars_end g.S.Spec.tests b.state.left)
    (shows_all (shown_none g.met.W.TextSink.rules b.to.now))

pub returns-clause-shows : goal.returns-clause-shows
returns-clause-shows g c =
    let b = c.show.new.sink in
    whole_then g.S.Spec.tests g.met.W.TextSink.rules c.args.values.now b c.put_held.new.sink (g.T.Show.text c.args.value.now) _ _ c.put_held.result
    c.requires c.in_ok-show.ensures
    (ap (λ v. value_rest g.S.Spec.tests v b.state []) c.if-not-values.false ∙ kept_end g.S.Spec.tests b.state)
    c.put_held.ensures.shows
