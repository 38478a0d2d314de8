use Rattle.iri_cli.proofs.GoingLemmas.{answered_line, failed_line, goes_next}
use Rattle.iri_cli.proofs.run.answering.go_on.Goals as goal

pub next_line-requires : goal.next_line-requires
next_line-requires g c =
    let w = c.requires in
    (answered_line w.0 _ _ _ _ w.1 _ c.in-Ok.good c.in-Ok.ensures).going.going

pub returns-in-Ok : goal.returns-in-Ok
returns-in-Ok g c = λ b has.
    goes_next b _ _ _ _ _ _ _ _ c.next_line.result (answered_line b _ _ _ _ has _ c.in-Ok.good c.in-Ok.ensures) c.next_line.ensures

pub returns-in-Err : goal.returns-in-Err
returns-in-Err g c = λ b has. failed_line b _ _ _ _ has _ c.in-Err.error _ c.in-Err.ensures c.error_end.ensures
