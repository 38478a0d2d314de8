use Rattle.iri_resolve.proofs.Common.{is_fragment, is_query, now_of, part_whole, fragment-whole, query-whole}
use Rattle.iri_resolve.proofs.part_steps.push_tail.Goals as goal

pub push_triplets-requires : goal.push_triplets-requires
push_triplets-requires g c = part_whole (is_query g.S.Spec.tests) (now_of c.args.target.now.query)
    (λ x h. query-whole g.S.Spec.tests x g.met.S.Spec.lawful h) c.requires.fits.query

pub push_triplets-requires-2 : goal.push_triplets-requires-2
push_triplets-requires-2 g c = part_whole (is_fragment g.S.Spec.tests) (now_of c.args.target.now.fragment)
    (λ x h. fragment-whole g.S.Spec.tests x g.met.S.Spec.lawful h) c.requires.fits.fragment
