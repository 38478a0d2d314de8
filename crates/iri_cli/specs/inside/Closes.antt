-- How a run ends once its sink is flushed.
use Rattle.std.specs.Prelude.{◌≡◌, ◌⊎◌, ◌≤◌, ℕ, []}
use Rattle.iri_text.specs.Count.{Rose}
use Rattle.iri_text.specs.Sink.{KeepsRoom, SinkState}
use Rattle.iri_cli.specs.run.Run.{status_of}
use Rattle.iri_cli.specs.declared.run.end.End.{End}
use Rattle.iri_cli.specs.declared.run.end.End.TheVariants.{SinkFailed}

-- The run ends as it did before, or the sink failed at this. What is written stays as it was. A sink that failed before isn't asked again.
-- One that is known to have any room didn't fail.
pub record Closes (old new : SinkState) (end closed : End) : Type 0 where
  pub kept : new.written ≡ old.written
  pub later : old.faults ≤ new.faults
  pub not_asked : end ≡ SinkFailed → (closed ≡ SinkFailed) × (new.faults ≡ old.faults)
  pub ends : ((closed ≡ end) × (new.faults ≡ old.faults)) ⊎ ((closed ≡ SinkFailed) × Rose old.faults new.faults)
  pub room : KeepsRoom old.room_left new.room_left [] (closed ≡ end)

-- The same, and the status of that end.
pub record Finishes (old new : SinkState) (end : End) (status : ℕ) : Type 0 where
  pub closed : End
  pub closes : Closes old new end closed
  pub status_is : status ≡ status_of closed
