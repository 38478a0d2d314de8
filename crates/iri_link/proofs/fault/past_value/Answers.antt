use Rattle.iri_link.proofs.Common.{◌∙◌, sym}
use Rattle.iri_link.proofs.FaultLemmas.{open_string, string_goes, token_goes}
use Rattle.iri_link.proofs.ParamLemmas.{no_value}
use Rattle.iri_link.proofs.fault.past_value.Goals as goal

pub returns-in-Some-past_quoted : goal.returns-in-Some-past_quoted
returns-in-Some-past_quoted c = λ t. string_goes t c.args.s.now c.in-Some.inner.now c.in-Some-past_quoted.rest.now c.in-Some.ensures c.in-Some-past_quoted.ensures

pub returns-in-None : goal.returns-in-None
returns-in-None c = λ t. open_string t c.args.s.now c.in-Some.inner.now c.in-Some.ensures c.in-None.ensures

pub returns-then-not-begins_token : goal.returns-then-not-begins_token
returns-then-not-begins_token c = λ t. no_value t c.args.s.now c.in_default.ensures c.requires (sym c.begins_token.ensures ∙ c.if-not-begins_token.true)

pub returns : goal.returns
returns c = λ t.
    token_goes t c.args.s.now c.cut_run.result.0.now c.cut_run.result.1.now c.cut_run.ensures (sym c.begins_token.ensures ∙ c.if-not-begins_token.false)
