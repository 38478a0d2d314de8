use Rattle.iri_normal.proofs.Common.{is_query, is_fragment, now_of, query-whole, fragment-whole}
use Rattle.iri_percent.proofs.hosts.Authorities.{part_whole}
use Rattle.iri_normal.proofs.form.show_tail.Goals as goal

pub show_delimited-requires-clause-part : goal.show_delimited-requires-clause-part
show_delimited-requires-clause-part g c = part_whole (is_query g.S.Spec.tests) (now_of c.args.target.now.query)
    (λ x h. query-whole g.S.Spec.tests x g.met.S.Spec.lawful h) c.requires.query

pub show_delimited-requires-2-clause-part : goal.show_delimited-requires-2-clause-part
show_delimited-requires-2-clause-part g c = part_whole (is_fragment g.S.Spec.tests) (now_of c.args.target.now.fragment)
    (λ x h. fragment-whole g.S.Spec.tests x g.met.S.Spec.lawful h) c.requires.fragment
