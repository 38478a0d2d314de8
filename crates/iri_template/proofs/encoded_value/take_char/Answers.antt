use Rattle.iri_template.proofs.Common.{◌≡◌, [], ◌∷◌, ◌++◌, ◌∙◌, ap, sym, arith, written_units, units, is_begun, held_unit}
use Rattle.iri_template.proofs.Common.{length, length-append}
use Rattle.iri_template.proofs.HeldUnits.{begun_more, unit_settled, joined_text}
use Rattle.iri_template.proofs.Reading.{reads_silently, reads_units}
use Rattle.iri_template.proofs.encoded_value.take_char.Goals as goal

pub returns-clause-reads : goal.returns-clause-reads
returns-clause-reads g c =
    let a = c.args.state.now in
    let t = c.push.new.self in
    let put = c.put_unit.ensures in
    let b = ap is_begun c.push.ensures ∙ begun_more a.held c.args.c c.requires.held.begun c.requires.goes_on in
    let more = ap length c.push.ensures ∙ length-append a.held (c.args.c ∷ []) in
    let twelve : length t ≡ 12 = omega (arith, more, c.requires.held.room, c.len.ensures.len, c.if-len-lt12.false) in
    reads_units g.S.Spec.tests g.met.W.TextSink.rules (c.args.c ∷ []) (held_unit t ∷ []) put.shows
    (λ r. ap units (joined_text a.held t c.args.c r c.push.ensures) ∙ unit_settled t r b twelve
    ∙ ap (λ l. held_unit t ∷ units (l ++ r)) (sym put.held)) put.left

pub returns-then-len-lt12-clause-reads : goal.returns-then-len-lt12-clause-reads
returns-then-len-lt12-clause-reads g c =
    let a = c.args.state.now in
    reads_silently g.met.W.TextSink.rules (λ r. ap (λ l. written_units g.S.Spec.tests a.left (units l))
    (joined_text a.held c.push.new.self c.args.c r c.push.ensures))
