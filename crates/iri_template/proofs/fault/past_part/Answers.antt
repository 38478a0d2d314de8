use Rattle.iri_template.proofs.Common.{◌≡◌, ◌≢◌, ◌+◌, length, get_or, Some, sym, ◌∙◌, ap, arith, length-append, encode_utf8_all, moved, unless, fault}
use Rattle.iri_template.proofs.Common.{InvalidCharacter}
use Rattle.iri_template.proofs.Prefixes.{first_get, literals_past, other_fault}
use Rattle.iri_template.proofs.fault.past_part.Goals as goal

pub past_expression-requires-clause-brace : goal.past_expression-requires-clause-brace
past_expression-requires-clause-brace c = first_get c.args.s.now ∙ (ap (λ l. get_or l 0 0) (sym c.as_bytes.ensures.value) ∙ c.in-123.is)

pub past_triplet-requires-clause-percent : goal.past_triplet-requires-clause-percent
past_triplet-requires-clause-percent c = first_get c.args.s.now ∙ (ap (λ l. get_or l 0 0) (sym c.as_bytes.ensures.value) ∙ c.in-37.is)

pub returns-then-rest-s : goal.returns-then-rest-s
returns-then-rest-s c = literals_past c.args.at c.args.s.now c.past_literals-rest.result.now c.utf8.s c.past_literals-rest.ensures c.if-rest-s.true

pub returns-else-rest-s : goal.returns-else-rest-s
returns-else-rest-s c =
    let t = c.args.s.now in
    let k = c.past_literals-rest.ensures in
    let e = first_get t ∙ ap (λ l. get_or l 0 0) (sym c.as_bytes.ensures.value) in
    let brace : get_or c.as_bytes.result.now 0 0 ≢ 123 = omega arith in
    let percent : get_or c.as_bytes.result.now 0 0 ≢ 37 = omega arith in
    let same : length c.past_literals-rest.result.now ≡ length t =
    omega (arith, ap length k.text, length-append (encode_utf8_all k.literals) c.past_literals-rest.result.now) in
    let z : c.args.at + 0 ≡ c.args.at = omega arith in
    ap (moved c.args.at) (other_fault t (λ h. brace (sym e ∙ h)) (λ h. percent (sym e ∙ h))
    ∙ ap (λ b. unless b (fault InvalidCharacter 0)) (k.stops same)) ∙ ap (fault InvalidCharacter) z ∙ ap Some (sym c.new.ensures)
