use Rattle.iri_link.proofs.Common.{◌++◌, rules}
use Rattle.iri_link.proofs.PlainLemmas.{plain_more, plain_one}
use Rattle.iri_link.proofs.plain.past_params.Goals as goal

pub params-preserved : goal.params-preserved
params-preserved c =
    let i = c.params.invariant in
    let k = plain_one c.params.rest.now c.in-Some.next.now c.in-Some.ensures in
    record { utf8 = search rules; prefix = i.prefix ++ k.0; plain = plain_more c.args.s.now i.prefix c.params.rest.now k.0 c.in-Some.next.now i.plain k.1 }
