use Rattle.std.proofs.Common.{arith, subst, sym, ◌-◌, length}
use Rattle.iri_text.specs.Sink.{HasRoom}
use Rattle.iri_text.specs.Memory.{memory_written, unless_failing}
use Rattle.iri_text.proofs.laws.memory_sink_with_room.Goals as goal

pub returns : goal.returns
returns c s count none room =
    subst (λ f. HasRoom (unless_failing f (length s.buf.now - length (memory_written s))) count) (sym none) (omega (arith, room))
