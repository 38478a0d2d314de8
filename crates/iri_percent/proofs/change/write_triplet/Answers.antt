use Rattle.iri_percent.proofs.Common.{◌*◌, ◌∷◌, ap, sym, ◌∙◌, arith, len_utf8, octets, decoded, Writes}
use Rattle.iri_percent.proofs.forms.Changes.{digits, writes_char, writes_octet, at_octet}
use Rattle.iri_percent.proofs.characters.Spellings.{past_ascii}
use Rattle.iri_percent.proofs.change.write_triplet.Goals.{then-octet-ge192+in_default, else-octet-ge192}
use Rattle.iri_percent.proofs.change.write_triplet.Goals as goal

pub bounds-text-1 : goal.bounds-text-1
bounds-text-1 g c = let d = digits c.args.text.now c.requires.0 c.requires.1 c.requires.2 in omega (arith, d.room)

pub bounds-text-2 : goal.bounds-text-2
bounds-text-2 g c = let d = digits c.args.text.now c.requires.0 c.requires.1 c.requires.2 in omega (arith, d.room)

pub octet_of_digits-octet-requires : goal.octet_of_digits-octet-requires
octet_of_digits-octet-requires g c = let d = digits c.args.text.now c.requires.0 c.requires.1 c.requires.2 in (d.high, d.low)

pub after_triplet-requires : goal.after_triplet-requires
after_triplet-requires g c = (digits c.args.text.now c.requires.0 c.requires.1 c.requires.2).room

pub returns-in-Some-clause-writes : goal.returns-in-Some-clause-writes
returns-in-Some-clause-writes g c =
    let s = g.S.Spec.tests in
    let o = c.octet_of_digits-octet.result in
    let r : Writes s c.args.lower c.args.text.now c.args.buf.now c.write_char.new.buf c.args.at (3 * len_utf8 c.in-Some.c) c.write_char.result =
    writes_char s c.args.lower c.args.text.now c.args.buf.now c.write_char.new.buf c.args.at c.write_char.result o c.in-Some.c
    c.requires.0 c.requires.1 c.requires.2 c.octet_of_digits-octet.ensures c.if-octet-ge192.true
    (c.in-Some.ensures ∙ ap (λ x. decoded s (o ∷ octets x)) c.after_triplet.ensures) c.write_char.ensures.text in
    rw c.len_utf8.ensures.value r

pub write_char-requires : goal.write_char-requires
write_char-requires g c = (
  c.requires.3,
  past_ascii g.S.Spec.tests c.octet_of_digits-octet.result c.in-Some.c (octets c.after_triplet.result.now) c.if-octet-ge192.true
      (sym c.in-Some.ensures),
)

pub returns-clause-writes : goal.returns-clause-writes
returns-clause-writes g c =
    let s = g.S.Spec.tests in
    let t = c.args.text.now in
    let o = c.octet_of_digits-octet.result in
    writes_octet s c.args.lower t c.args.buf.now c.write_octet.new.buf c.args.at c.write_octet.result o g.met.S.Spec.lawful
    c.requires.0 c.requires.1 c.requires.2 c.octet_of_digits-octet.ensures
    (elim c.if-octet-ge192.branch [
      | then-octet-ge192+in_default w ↦ λ _. ap (decoded s) (at_octet t o c.requires.0 c.requires.1 c.requires.2 c.octet_of_digits-octet.ensures)
          ∙ ap (λ x. decoded s (o ∷ octets x)) (sym w.after_triplet.ensures) ∙ sym w.in_default.ensures
      | else-octet-ge192 w ↦ λ h. absurd (omega (arith, h, w.if-octet-ge192.false))
    ]) c.write_octet.ensures.text
