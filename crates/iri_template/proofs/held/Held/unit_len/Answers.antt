use Rattle.iri_template.proofs.Common.{◌≡◌, ◌*◌, Some, None, sym, ◌∙◌, ap, arith, len_utf8, unit_len}
use Rattle.iri_percent.specs.Units.{first_char, octets}
use Rattle.iri_template.proofs.HeldUnits.{unit_of, unit_counted}
use Rattle.iri_template.proofs.held.Held.unit_len.Goals as goal

pub returns-in-Some-clause-len : goal.returns-in-Some-clause-len
returns-in-Some-clause-len c = ap (λ n. 3 * n) c.len_utf8.ensures.value
    ∙ sym (unit_counted c.args.self.now (Some c.in-Some.c) c.requires.begun c.requires.some
    (ap (λ l. first_char (octets l)) (sym c.self.view_is) ∙ sym c.in-Some.ensures))

pub returns-in-Some-clause-within : goal.returns-in-Some-clause-within
returns-in-Some-clause-within c =
    let u = unit_of c.args.self.now c.requires.begun c.requires.some in
    let e : unit_len c.args.self.now ≡ 3 * len_utf8 c.in-Some.c =
    unit_counted c.args.self.now (Some c.in-Some.c) c.requires.begun c.requires.some
    (ap (λ l. first_char (octets l)) (sym c.self.view_is) ∙ sym c.in-Some.ensures) in
    omega (arith, u.len, u.within, e, c.len_utf8.ensures.value)

pub returns-in-None-clause-len : goal.returns-in-None-clause-len
returns-in-None-clause-len c = sym (unit_counted c.args.self.now None c.requires.begun c.requires.some
    (ap (λ l. first_char (octets l)) (sym c.self.view_is) ∙ sym c.in-None.ensures))
