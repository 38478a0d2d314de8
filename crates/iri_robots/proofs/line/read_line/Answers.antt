use Rattle.iri_robots.proofs.Common.{◌∙◌, cond, ap, sym, before, OtherLine, line_of_text, without_byte_order_mark}
use Rattle.std.proofs.lemmas.Str.{is_utf8-from_IsUtf8}
use Rattle.iri_robots.proofs.Lines.{not_text}
use Rattle.iri_robots.proofs.line.read_line.Goals as goal

pub returns-in-Ok : goal.returns-in-Ok
returns-in-Ok c =
    let line = c.args.line.now in
    let text = line_of_text (before 35 (without_byte_order_mark line)) in
    c.say_parts.ensures ∙ ap line_of_text (c.strip_comment.ensures ∙ ap (before 35) c.strip_byte_order_mark.ensures)
    ∙ ap (λ b. cond b text OtherLine) (sym (is_utf8-from_IsUtf8 line c.in-Ok.ensures.cases.1))

pub returns-in-Err : goal.returns-in-Err
returns-in-Err c =
    let line = c.args.line.now in
    let text = line_of_text (before 35 (without_byte_order_mark line)) in
    ap (λ b. cond b text OtherLine) (sym (not_text line c.in-Err.ensures.cases.0))
