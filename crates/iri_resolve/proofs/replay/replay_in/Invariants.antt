use Rattle.iri_resolve.proofs.Common.{◌≡◌, Some, take, replayed_in, Holds, parts_of}
use Rattle.iri_resolve.proofs.replay.replay_in.Given as goal

abbrev pub invariant-loop-k : goal.invariant-loop-k
invariant-loop-k g l = record {
  replayed : replayed_in g.S.Spec.tests l.mode l.target (take l.k l.steps) ≡ Some (parts_of l.reached);
  holds : Holds g.S.Spec.tests l.reached;
}
