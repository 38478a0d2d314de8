use Rattle.iri_percent.proofs.Common.{Some, None, cond, ap, sym, ◌∙◌, octets}
use Rattle.iri_percent.proofs.characters.Spellings.{high_decoded}
use Rattle.iri_percent.proofs.character.char_past_ascii.Goals as goal

pub returns-then-is_nonascii_char_unreserved : goal.returns-then-is_nonascii_char_unreserved
returns-then-is_nonascii_char_unreserved g c =
    ap (λ b. cond b (Some c.in_ok-c.c) None) (sym c.if-is_nonascii_char_unreserved.true ∙ c.is_nonascii_char_unreserved.ensures)
    ∙ sym (high_decoded g.S.Spec.tests c.args.lead c.in_ok-c.c (octets c.args.rest.now) c.requires (sym c.in_ok-c.ensures))

pub returns-else-is_nonascii_char_unreserved : goal.returns-else-is_nonascii_char_unreserved
returns-else-is_nonascii_char_unreserved g c =
    ap (λ b. cond b (Some c.in_ok-c.c) None) (sym c.if-is_nonascii_char_unreserved.false ∙ c.is_nonascii_char_unreserved.ensures)
    ∙ sym (high_decoded g.S.Spec.tests c.args.lead c.in_ok-c.c (octets c.args.rest.now) c.requires (sym c.in_ok-c.ensures))
