use Rattle.iri_percent.proofs.Common.{Some, ap, sym, ◌∙◌, arith, octets}
use Rattle.iri_percent.proofs.characters.Spellings.{ascii_decoded, low_decoded}
use Rattle.iri_percent.proofs.character.decoded_char.Goals as goal

pub returns-then-has_byte : goal.returns-then-has_byte
returns-then-has_byte g c = ap (λ x. Some x) c.from.ensures
    ∙ sym (ascii_decoded g.S.Spec.tests c.in_ok-octet.octet (octets c.args.text.now) (octets c.in_ok-octet.rest.now) c.in_ok-octet.ensures.0
    (sym c.if-has_byte.ensures))

pub returns-else-has_byte : goal.returns-else-has_byte
returns-else-has_byte g c = sym (low_decoded g.S.Spec.tests c.in_ok-octet.octet (octets c.args.text.now)
    (octets c.in_ok-octet.rest.now) g.met.S.Spec.lawful c.in_ok-octet.ensures.0 (omega arith) (sym c.if-has_byte.ensures))
