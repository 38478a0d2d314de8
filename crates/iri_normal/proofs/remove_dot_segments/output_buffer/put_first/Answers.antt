use Rattle.iri_normal.proofs.Common.{[], ◌∙◌, sym}
use Rattle.iri_normal.proofs.removal.Buffers.{written-plain}
use Rattle.iri_normal.proofs.remove_dot_segments.output_buffer.put_first.Goals as goal

pub returns-then-plain-clause-text : goal.returns-then-plain-clause-text
returns-then-plain-clause-text c =
    c.append.ensures.text ∙ sym (written-plain [] c.args.path.now (c.requires.plain c.if-plain.true))
