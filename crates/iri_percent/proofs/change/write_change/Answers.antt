use Rattle.std.proofs.Common.{sym, ◌∙◌}
use Rattle.iri_percent.proofs.forms.Changes.{letter_delimiter, triplet_delimiter, writes_letter}
use Rattle.iri_percent.proofs.change.write_change.Goals as goal

pub returns-then-is_letter-clause-writes : goal.returns-then-is_letter-clause-writes
returns-then-is_letter-clause-writes g c =
    let n = letter_delimiter c.args.lower _ (sym c.is_letter.ensures ∙ c.if-is_letter.true) in
    let r = writes_letter g.S.Spec.tests c.args.lower c.args.text.now c.args.buf.now c.write_letter.new.buf c.args.at c.write_letter.result.written
    c.requires.0 c.requires.1 c.requires.2 n c.write_letter.ensures.text in
    rw c.write_letter.ensures.read r

pub write_triplet-requires : goal.write_triplet-requires
write_triplet-requires g c = (
  c.requires.0,
  c.requires.1,
  triplet_delimiter c.args.lower _ c.requires.2 (sym c.is_letter.ensures ∙ c.if-is_letter.false),
  c.requires.3,
)
