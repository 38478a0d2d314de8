use Rattle.iri_grammar.proofs.Common.{◌∙◌, ap, sym, take_rest}
use Rattle.iri_grammar.specs.inside.Runs.{begins_with_more}
use Rattle.iri_grammar.proofs.units.WideChars.{three_bytes, two_bytes}
use Rattle.iri_grammar.proofs.unit.wide_len.Goals as goal

pub returns-then-leads_two : goal.returns-then-leads_two
returns-then-leads_two c _ =
    two_bytes c.args.bytes.now c.in-len2-up.len_at_least (sym c.leads_two.ensures ∙ c.if-leads_two.true) (sym c.goes_on.ensures ∙ c.if-not-goes_on.false)

pub returns-then-begins_with_more : goal.returns-then-begins_with_more
returns-then-begins_with_more c _ =
    three_bytes c.args.bytes.now c.in-len2-up.len_at_least (sym c.leads_three.ensures ∙ c.if-leads_three.true) (sym c.goes_on.ensures ∙ c.if-not-goes_on.false)
    (ap begins_with_more (sym (take_rest c.args.bytes.now 2)) ∙ (sym c.begins_with_more.ensures ∙ c.if-begins_with_more.true))
