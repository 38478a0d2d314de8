use Rattle.iri_link.proofs.Common.{sym, ap, ◌∙◌, list_all, is_pair_char}
use Rattle.iri_link.proofs.QuotedLemmas.{end_wanting, char_wanting, past_end, past_plain}
use Rattle.iri_link.proofs.quoted.past_quoted.Goals as goal

pub returns-then-raw-s : goal.returns-then-raw-s
returns-then-raw-s c = end_wanting c.args.s.now c.cut_open.result.0.now c.cut_open.result.1.now c.cut_open.ensures c.if-raw-s.true

pub returns-then-is_all : goal.returns-then-is_all
returns-then-is_all c =
    past_end c.args.s.now c.cut_open.result.0.now c.cut_open.result.1.now c.cut_open.ensures c.if-raw-s.false
    (ap (list_all is_pair_char) (sym c.as_bytes.ensures.value) ∙ (sym c.is_all.ensures ∙ c.if-is_all.true))

pub returns-else-is_all : goal.returns-else-is_all
returns-else-is_all c =
    char_wanting c.args.s.now c.cut_open.result.0.now c.cut_open.result.1.now c.cut_open.ensures
    (ap (list_all is_pair_char) (sym c.as_bytes.ensures.value) ∙ (sym c.is_all.ensures ∙ c.if-is_all.false))

pub returns-in-Some : goal.returns-in-Some
returns-in-Some c = past_plain c.args.s.now c.cut_run.result.0.now c.cut_run.result.1.now c.in-Some.after.now c.cut_run.ensures c.in-Some.ensures
