use Rattle.iri_template.proofs.Common.{◌<◌, length, subst, arith, rules, nat_tests, IsUtf8}
use Rattle.iri_template.specs.inside.Parts.{IsFirst}
use Rattle.iri_template.proofs.Grammar.{first_fine}
use Rattle.iri_template.proofs.PartWalk.{first_cut}
use Rattle.iri_template.proofs.parts.Parts.next.Goals as goal

pub read_part-requires-clause-fine : goal.read_part-requires-clause-fine
read_part-requires-clause-fine c =
    let some : 0 < length c.args.self.now.rest.now = grind (arith, nat_tests) in
    first_fine c.args.self.now.rest.now some c.args.self.now.fine.fault

pub read_part-requires-clause-fits : goal.read_part-requires-clause-fits
read_part-requires-clause-fits c = omega (arith, c.location.ensures, c.args.self.now.fine.within, c.args.self.now.fine.fits)

pub invariant_of-self : goal.invariant_of-self
invariant_of-self c =
    let self = c.args.self.now in
    let r = c.read_part.result.1.now in
    let u : IsUtf8 self.rest.now = search rules in
    let v : IsUtf8 r = search rules in
    let k = first_cut c.read_part.result.0 c.location.result self.rest.now r c.read_part.ensures u v self.fine.fault in
    record { fine = record { fault = k.1; within = omega (arith, c.read_part.ensures.past.shorter, self.fine.within); fits = self.fine.fits } }

pub returns-clause-part : goal.returns-clause-part
returns-clause-part c =
    let self = c.args.self.now in
    let r = c.read_part.result.1.now in
    let u : IsUtf8 self.rest.now = search rules in
    let v : IsUtf8 r = search rules in
    subst (λ n. IsFirst c.read_part.result.0 n self.rest.now r) c.location.ensures
    (first_cut c.read_part.result.0 c.location.result self.rest.now r c.read_part.ensures u v self.fine.fault).0
