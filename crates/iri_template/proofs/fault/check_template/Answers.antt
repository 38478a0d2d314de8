use Rattle.iri_template.proofs.Common.{◌≡◌, ◌<◌, ◌-◌, ◌+◌, length, sym, ◌∙◌, ap, arith, rules, nat_tests, IsUtf8, fault_from}
use Rattle.iri_template.proofs.Prefixes.{fault_at_start, some_piece}
use Rattle.iri_template.proofs.Walks.{nothing_left}
use Rattle.iri_template.proofs.fault.check_template.Goals as goal

pub parts-preserved : goal.parts-preserved
parts-preserved c =
    let i = c.parts.invariant in
    let t = c.parts.rest.now in
    let r = c.in-Ok.next.now in
    let n = length c.args.template.now in
    let k = c.in-Ok.ensures in
    let v : IsUtf8 r = search rules in
    let z : n - length r ≡ n - length t + (length t - length r) = omega (arith, i.len, k.shorter) in
    record {
      utf8 = v;
      len = omega (arith, k.shorter, i.len);
      fault = ap (λ m. fault_from 0 m r) z ∙ sym k.fault ∙ i.fault;
    }

pub returns-in-Err : goal.returns-in-Err
returns-in-Err c =
    let t = c.parts.rest.now in
    let some : 0 < length t = grind (arith, nat_tests) in
    sym c.parts.invariant.fault ∙ fault_at_start (length c.args.template.now - length t) t c.in-Err.error some (some_piece t) c.in-Err.ensures

pub returns : goal.returns
returns c =
    let t = c.parts.rest.now in
    let none : length t ≡ 0 = grind (arith, nat_tests) in
    sym c.parts.invariant.fault ∙ nothing_left (length c.args.template.now - length t) t none
