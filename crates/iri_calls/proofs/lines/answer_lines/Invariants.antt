use Rattle.std.proofs.Common.{◌≡◌}
use Rattle.iri_calls.proofs.Common.{length}
use Rattle.iri_calls.specs.Lines.{answer_against}
use Rattle.iri_calls.proofs.LineLemmas.{Going}
use Rattle.iri_calls.proofs.lines.answer_lines.Given as goal

-- answers are those that they were at first
abbrev pub invariant-lines : goal.invariant-lines
invariant-lines g l =
    let answer = answer_against g.S.Spec.tests l.mode l.fn.bases in
    (answer_against g.S.Spec.tests l.mode l.bases ≡ answer) × Going answer l.input l.fn.sink l.rest l.written l.sink

abbrev pub decreases-lines : goal.decreases-lines
decreases-lines g l = length l.rest
