use Rattle.iri_register.proofs.Common.{map, subst, IsDistinct, bytes_eq, Entry}
use Rattle.iri_register.proofs.KeyLemmas.{once_live}
use Rattle.iri_register.proofs.entries.len.Goals as goal

pub returns-clause-once : goal.returns-clause-once
returns-clause-once c =
    subst (λ es. IsDistinct bytes_eq (map (λ (e : Entry). e.target) es)) c.entries.view_is (once_live c.entries.inside.hasher c.entries.inside.map.entries
    c.entries.invariant.hashed c.len-len.ensures.unique)
