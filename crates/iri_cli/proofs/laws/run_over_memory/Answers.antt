use Rattle.iri_cli.proofs.Common.{arith, refl, subst, sym, ◌-◌, length, ending}
use Rattle.iri_text.specs.Sink.{HasRoom}
use Rattle.iri_text.specs.Memory.{memory_written, unless_failing}
use Rattle.iri_cli.proofs.RunLemmas.{completes_in_room}
use Rattle.iri_cli.proofs.laws.run_over_memory.Goals as goal

pub returns : goal.returns
returns c rules input left old new status runs none room =
    completes_in_room rules _ _ status runs input refl (λ rose. absurd (omega (arith, rose)))
    (subst (λ f. HasRoom (unless_failing f (length old.buf.now - length (memory_written old))) (length (ending rules input).output)) (sym none)
    (omega (arith, room)))
