use Rattle.iri_percent.proofs.Common.{◌≡◌, ℕ, List, ◌++◌, true, length, IsUtf8, HasShown, whole_triplets, normal, case_of}
use Rattle.iri_percent.proofs.normal.show_normal.Given as goal

-- what went into the sink, and what is left
abbrev pub invariant-loop-at : goal.invariant-loop-at
invariant-loop-at g l = record {
  done : List ℕ;
  shown : HasShown g.W.TextSink.puts g.W.TextSink.stops l.initial.sink done l.sink;
  same : normal g.S.Spec.tests (case_of l.lower) l.text ≡ done ++ normal g.S.Spec.tests (case_of l.lower) l.rest;
  whole : whole_triplets l.rest ≡ true;
  utf8 : IsUtf8 l.rest;
}

abbrev pub decreases-loop-at : goal.decreases-loop-at
decreases-loop-at g l = length l.rest
