use Rattle.iri_resolve.proofs.Common.{Some, sym, ◌∙◌, ap, parts_of}
use Rattle.iri_resolve.proofs.Replays.{one_more, none_yet}
use Rattle.iri_resolve.proofs.replay.replay_in.Goals as goal

pub loop-k-init : goal.loop-k-init
loop-k-init g c = record {
  replayed = none_yet g.S.Spec.tests c.args.mode c.args.target.now c.args.steps.now ∙ ap Some (sym c.in-Ok.ensures.parts);
  holds = c.in-Ok.ensures.holds;
}

pub loop-k-preserved : goal.loop-k-preserved
loop-k-preserved g c = record {
  replayed = one_more g.S.Spec.tests c.args.mode c.args.target.now (parts_of c.loop-k.reached) (parts_of c.take_numbered.new.reached) c.args.steps.now
      c.loop-k.k c.at.result c.loop-k.invariant.replayed c.at.ensures c.in_ok-take_numbered.ensures.step;
  holds = c.in_ok-take_numbered.ensures.holds;
}
