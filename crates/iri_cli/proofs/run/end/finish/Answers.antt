use Rattle.iri_cli.proofs.Common.{inr, refl, room-so}
use Rattle.iri_cli.specs.declared.run.end.End.TheVariants.{SinkFailed}
use Rattle.iri_cli.proofs.run.end.finish.Goals as goal

pub returns-in-Err : goal.returns-in-Err
returns-in-Err g c = record {
  closed = SinkFailed;
  closes = record {
    kept = c.in-Err.ensures.kept;
    later = c.in-Err.ensures.later;
    not_asked = λ is. absurd (c.in_default.not-SinkFailed is);
    ends = inr (refl, c.in-Err.ensures.cause);
    room = room-so (λ h. absurd (cc h)) c.in-Err.ensures.room;
  };
  status_is = c.status-in-Err.ensures;
}
