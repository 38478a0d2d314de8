use Rattle.iri_percent.proofs.Common.{◌≡◌, ℕ, List, ◌++◌, length, HasShown, mapped}
use Rattle.iri_percent.proofs.mapped.put_runs.Given as goal

-- what went into the sink, and what is left
abbrev pub invariant-loop-rest : goal.invariant-loop-rest
invariant-loop-rest g l = record {
  done : List ℕ;
  shown : HasShown g.W.TextSink.puts g.W.TextSink.stops l.initial.sink done l.sink;
  same : mapped l.bytes ≡ done ++ mapped l.rest;
}

abbrev pub decreases-loop-rest : goal.decreases-loop-rest
decreases-loop-rest g l = length l.rest
