use Rattle.iri_template.proofs.Common.{◌≡◌, ◌≢◌, ◌-◌, None, length, get_or, sym, ◌∙◌, ap, subst, arith, length-append, encode_utf8_all, first_of}
use Rattle.iri_template.proofs.Common.{IsCharBoundary, IsCharBoundary-at_seam, literal_char, chars}
use Rattle.iri_template.proofs.FaultLemmas.{passed}
use Rattle.iri_template.proofs.Prefixes.{first_get, percent_fault, other_fault, literals_part, triplet_part}
use Rattle.iri_template.proofs.part.read_part.Goals as goal

pub range-requires-clause-end_boundary : goal.range-requires-clause-end_boundary
range-requires-clause-end_boundary c =
    let t = c.args.s.now in
    let r = c.past_literals-rest.result.now in
    let k = c.past_literals-rest.ensures in
    let prefix = encode_utf8_all k.literals in
    let z : length prefix ≡ length t - length r = omega (arith, ap length k.text, length-append prefix r) in
    subst (IsCharBoundary t) z (IsCharBoundary-at_seam t prefix r (sym k.text) c.past_literals-rest.utf8)

pub returns-in-37 : goal.returns-in-37
returns-in-37 c =
    let t = c.args.s.now in
    let percent : first_of t ≡ 37 = first_get t ∙ (ap (λ l. get_or l 0 0) (sym c.as_bytes.ensures.value) ∙ c.in-37.is) in
    triplet_part c.read_triplet.result.0 c.args.at t c.read_triplet.result.1.now percent (sym (percent_fault t percent) ∙ c.requires.fine)
    c.read_triplet.ensures.triplet c.read_triplet.ensures.rest

pub returns-in_default : goal.returns-in_default
returns-in_default c =
    let t = c.args.s.now in
    let e = first_get t ∙ ap (λ l. get_or l 0 0) (sym c.as_bytes.ensures.value) in
    let brace : get_or c.as_bytes.result.now 0 0 ≢ 123 = omega arith in
    let percent : get_or c.as_bytes.result.now 0 0 ≢ 37 = omega arith in
    let fine = sym (other_fault t (λ h. brace (sym e ∙ h)) (λ h. percent (sym e ∙ h))) ∙ c.requires.fine in
    literals_part c.range.result c.args.at t c.past_literals-rest.result.now c.utf8.s c.range.utf8 c.past_literals-rest.ensures
    (passed (literal_char (first_of (chars t))) None _ fine).0 c.range.ensures.value
