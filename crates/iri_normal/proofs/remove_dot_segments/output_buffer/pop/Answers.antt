use Rattle.iri_normal.proofs.Common.{arith}
use Rattle.iri_normal.proofs.removal.Buffers.{popped-some, popped-none}
use Rattle.iri_normal.proofs.remove_dot_segments.output_buffer.pop.Goals as goal

pub returns-in-Some-clause-text : goal.returns-in-Some-clause-text
returns-in-Some-clause-text c =
    popped-some c.args.buf.now c.args.len c.in-Some.i (omega arith) (omega arith) c.requires.ends c.in-Some.ensures

pub returns-in-None-clause-text : goal.returns-in-None-clause-text
returns-in-None-clause-text c = popped-none c.args.buf.now c.args.len (omega arith) (omega arith) c.requires.ends c.in-None.ensures
