use Rattle.iri_grammar.proofs.Common.{◌≡◌, ◌∙◌, Some, true, ap, sym, before_any, from_any, ends_authority, ends_at_start}
use Rattle.iri_grammar.proofs.faults.PlainTails.{name-ends}
use Rattle.iri_grammar.proofs.splitter.cut_before_end.Goals as goal

pub returns-then-ends_at_start : goal.returns-then-ends_at_start
returns-then-ends_at_start c =
    let cut = c.cut_plain-plain in
    let r = cut.result.rest.now in
    let e : ends_at_start r ≡ true = sym c.ends_at_start.ensures ∙ c.if-ends_at_start.true in
    let n = name-ends cut.result.authority.now r cut.ensures.chars e in (
      ap Some (n.0 ∙ ap (before_any ends_authority) (sym cut.ensures.whole)),
      n.1 ∙ ap (from_any ends_authority) (sym cut.ensures.whole),
      (cut.ensures.capitals, λ _. cut.ensures.plain),
      cut.ensures.text,
    )
