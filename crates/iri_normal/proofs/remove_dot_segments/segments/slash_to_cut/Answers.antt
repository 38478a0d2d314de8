use Rattle.iri_normal.proofs.Common.{arith}
use Rattle.iri_normal.proofs.removal.LongPaths.{slash-before-end}
use Rattle.iri_normal.proofs.remove_dot_segments.segments.slash_to_cut.Goals as goal

pub returns-in-None : goal.returns-in-None
returns-in-None c = slash-before-end c.args.text.now c.memchr.result (omega (arith, c.requires)) c.memchr.ensures
