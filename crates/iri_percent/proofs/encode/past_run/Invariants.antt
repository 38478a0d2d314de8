use Rattle.iri_percent.proofs.Common.{length, IsUtf8, class_test, IsPastRun}
use Rattle.iri_percent.proofs.encode.past_run.Given as goal

-- what is left follows a run
abbrev pub invariant-run : goal.invariant-run
invariant-run g l = record {
  utf8 : IsUtf8 l.rest;
  past : IsPastRun (class_test g.S.Spec.tests l.class) l.stands l.text l.rest;
}

abbrev pub decreases-run : goal.decreases-run
decreases-run g l = length l.rest
