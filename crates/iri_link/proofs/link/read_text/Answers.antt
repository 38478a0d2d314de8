use Rattle.iri_link.proofs.Common.{ap, map, rules, base_text, link_of}
use Rattle.std.proofs.lemmas.Result.{MatchResult-from_err}
use Rattle.iri_link.proofs.LinkLemmas.{kept_none, kept_more, kept_all, kept_some}
use Rattle.iri_link.proofs.link.read_text.Goals as goal

pub pieces-init : goal.pieces-init
pieces-init g c = record {
  utf8 = search rules;
  read = kept_none g.S.Spec.tests c.args.mode (base_text c.args.resolver.now) c.args.text.now _ c.requires (ap (map link_of) c.new-links.ensures.items);
}

pub returns-in_err-keep_piece-in-Some : goal.returns-in_err-keep_piece-in-Some
returns-in_err-keep_piece-in-Some g c =
    MatchResult-from_err c.from_residual.result _ _ c.from_residual.ensures.0
    (λ _. kept_some g.S.Spec.tests c.args.mode (base_text c.args.resolver.now) c.args.text.now c.pieces.inside c.pieces.rest.now (map link_of c.pieces.links.items) c.pieces.invariant.read
    c.in-Some.piece c.in-Some.after.now c.in-Some.ensures c.in_err-keep_piece-in-Some.ensures)

pub pieces-preserved : goal.pieces-preserved
pieces-preserved g c = record {
  utf8 = search rules;
  read = kept_more g.S.Spec.tests c.args.mode (base_text c.args.resolver.now) c.args.text.now c.pieces.inside c.pieces.rest.now (map link_of c.pieces.links.items) c.pieces.invariant.read
      c.in-Some.piece c.in-Some.after.now c.in-Some.ensures _ _ c.in_ok-keep_piece-in-Some.ensures c.is_inside-inside.ensures;
}

pub returns-in-None : goal.returns-in-None
returns-in-None g c =
    kept_all g.S.Spec.tests c.args.mode (base_text c.args.resolver.now) c.args.text.now c.pieces.inside c.pieces.rest.now (map link_of c.pieces.links.items) c.pieces.invariant.read c.in-None.ensures
