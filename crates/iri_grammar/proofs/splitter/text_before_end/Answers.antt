use Rattle.iri_grammar.proofs.Common.{◌∙◌, ap, sym, arith, is_utf8, take_rest, IsUtf8-from_is_utf8, IsUtf8-take, false_from_ne_true}
use Rattle.iri_grammar.proofs.splits.TextParts.{text-past}
use Rattle.iri_grammar.proofs.splitter.text_before_end.Goals as goal

pub returns-in-Ok : goal.returns-in-Ok
returns-in-Ok c =
    let t = c.args.s.now in
    let n = c.authority_len-end.result in
    let at = c.authority_len-end.ensures in
    let h = c.in-Ok.ensures.cases in (h.0 ∙ at.prefix, take_rest t n ∙ at.rest, text-past t n h.1 ∙ ap is_utf8 (sym (take_rest t n)))

pub returns-in-Err : goal.returns-in-Err
returns-in-Err c =
    let t = c.args.s.now in
    let at = c.authority_len-end.ensures in
    false_from_ne_true (is_utf8 t) (λ e. c.in-Err.ensures.cases.0
    (IsUtf8-take t c.authority_len-end.result (IsUtf8-from_is_utf8 t e) (at.within, λ l h. omega (arith, at.ascii l))))
