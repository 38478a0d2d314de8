use Rattle.iri_link.proofs.Common.{◌∙◌, sym, subst}
use Rattle.iri_link.proofs.FaultLemmas.{name_after, none_after, param_after}
use Rattle.iri_link.specs.inside.Faults.{IsFault}
use Rattle.iri_link.proofs.fault.past_semicolon.Goals as goal

pub returns-then-not-begins_token : goal.returns-then-not-begins_token
returns-then-not-begins_token c = λ t.
    none_after t c.args.following.now c.cut_run.result.0.now c.cut_run.result.1.now c.cut_run.ensures (sym c.begins_token.ensures ∙ c.if-not-begins_token.true)

pub returns-in-Ok : goal.returns-in-Ok
returns-in-Ok c = λ t.
    param_after t c.args.following.now c.cut_run.result.0.now c.cut_run.result.1.now c.cut_run.ensures c.in-Ok.rest.now (sym c.begins_token.ensures ∙ c.if-not-begins_token.false) (c.in-Ok.ensures t)

pub returns-in-Err : goal.returns-in-Err
returns-in-Err c = λ t.
    subst (IsFault c.in-Err.fault) (sym (name_after t c.args.following.now c.cut_run.result.0.now c.cut_run.result.1.now c.cut_run.ensures (sym c.begins_token.ensures ∙ c.if-not-begins_token.false))) (c.in-Err.ensures t)
