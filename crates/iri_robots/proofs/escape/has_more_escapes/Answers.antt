use Rattle.std.proofs.Common.{rules}
use Rattle.std.proofs.lemmas.List.{nil_from_length}
use Rattle.iri_robots.proofs.EscapeLemmas.{no_more}
use Rattle.iri_robots.proofs.escape.has_more_escapes.Goals as goal

pub returns : goal.returns
returns c =
    no_more c.args.most c.loop-rest.scan.room c.loop-rest.scan.begun c.loop-rest.rest.now c.args.pattern.now
    (nil_from_length c.loop-rest.rest.now (search rules)) c.loop-rest.invariant
