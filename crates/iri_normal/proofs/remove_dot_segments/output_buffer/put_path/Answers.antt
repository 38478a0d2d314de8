use Rattle.iri_normal.proofs.Common.{◌≡◌, ◌||◌, ◌∙◌, true, ap, sym, subst, is_empty, ends_at_slash, written}
use Rattle.iri_normal.proofs.removal.Buffers.{parts-end, written-parts}
use Rattle.iri_normal.proofs.remove_dot_segments.output_buffer.put_path.Goals as goal

pub put-requires-clause-ends : goal.put-requires-clause-ends
put-requires-clause-ends c =
    subst (λ l. (is_empty c.args.reference.now || ends_at_slash l) ≡ true) (sym c.put_first-first.ensures.text)
    (parts-end c.args.base.now c.args.reference.now c.requires.cut)

pub returns-clause-text : goal.returns-clause-text
returns-clause-text c =
    c.put.ensures.text ∙ (ap (λ l. written l c.args.reference.now) c.put_first-first.ensures.text
    ∙ written-parts c.args.base.now c.args.reference.now c.requires.cut)
