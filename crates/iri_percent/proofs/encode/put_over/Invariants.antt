use Rattle.iri_percent.proofs.Common.{◌≡◌, ℕ, List, ◌++◌, length, IsUtf8, class_test, HasShown, encoded}
use Rattle.iri_percent.proofs.encode.put_over.Given as goal

-- what went into the sink, and what is left
abbrev pub invariant-loop-next : goal.invariant-loop-next
invariant-loop-next g l = record {
  utf8 : IsUtf8 l.rest;
  done : List ℕ;
  shown : HasShown g.W.TextSink.puts g.W.TextSink.stops l.initial.sink done l.sink;
  same : encoded (class_test g.S.Spec.tests l.class) l.text ≡ done ++ encoded (class_test g.S.Spec.tests l.class) l.rest;
}

abbrev pub decreases-loop-next : goal.decreases-loop-next
decreases-loop-next g l = length l.rest
