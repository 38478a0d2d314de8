use Rattle.iri_grammar.proofs.Common.{◌∙◌, sym, ap, arith, now_of, pieces, is_dec_octet}
use Rattle.iri_grammar.proofs.hosts.PiecesLaws.{after_shorter}
use Rattle.iri_grammar.proofs.splits.CharBoundaries.{text_after}
use Rattle.iri_grammar.proofs.hosts.Ipv4Octets.{stop_bad, stop_many, step_octet, last_octet, octets_left}
use Rattle.iri_grammar.proofs.ipv4.is_ipv4.Goals as goal

pub returns-then-not-is_dec_octet : goal.returns-then-not-is_dec_octet
returns-then-not-is_dec_octet c =
    let prefix = c.as_bytes.ensures.value ∙ c.cut.ensures.before in
    let wrong = ap is_dec_octet (sym prefix) ∙ (sym c.is_dec_octet.ensures ∙ c.if-not-is_dec_octet.true) in
    sym (stop_bad c.octets.left c.octets.rest.now wrong) ∙ c.octets.invariant.same

pub returns-then-left-eq0 : goal.returns-then-left-eq0
returns-then-left-eq0 c =
    let e = sym c.cut.ensures.after ∙ ap now_of c.in-Some.is in
    sym (stop_many c.octets.rest.now c.in-Some.next.now e)
    ∙ (ap (λ n. octets_left n (pieces 46 c.octets.rest.now)) (sym c.if-left-eq0.true) ∙ c.octets.invariant.same)

pub octets-smaller : goal.octets-smaller
octets-smaller c =
    let e = sym c.cut.ensures.after ∙ ap now_of c.in-Some.is in
    omega (arith, after_shorter 46 c.octets.rest.now c.in-Some.next.now e)

pub octets-preserved : goal.octets-preserved
octets-preserved c =
    let e = sym c.cut.ensures.after ∙ ap now_of c.in-Some.is in
    let prefix = c.as_bytes.ensures.value ∙ c.cut.ensures.before in
    let right = ap is_dec_octet (sym prefix) ∙ (sym c.is_dec_octet.ensures ∙ c.if-not-is_dec_octet.false) in
    record {
      utf8 = text_after 46 c.octets.rest.now c.in-Some.next.now (omega arith) c.octets.invariant.utf8 e;
      same = step_octet c.octets.left c.octets.rest.now c.in-Some.next.now (omega (arith, c.if-left-eq0.false)) e right
          ∙ c.octets.invariant.same;
    }

pub returns-in_default : goal.returns-in_default
returns-in_default c =
    let e = sym c.cut.ensures.after ∙ ap now_of c.in_default.is in
    let prefix = c.as_bytes.ensures.value ∙ c.cut.ensures.before in
    let right = ap is_dec_octet (sym prefix) ∙ (sym c.is_dec_octet.ensures ∙ c.if-not-is_dec_octet.false) in
    sym (last_octet c.octets.left c.octets.rest.now e right) ∙ c.octets.invariant.same
