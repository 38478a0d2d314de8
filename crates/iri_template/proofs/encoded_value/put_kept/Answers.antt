use Rattle.iri_template.proofs.Common.{◌++◌, ◌∙◌, ap, sym, chars, rules, IsUtf8, chars_of_empty, kept_rest}
use Rattle.iri_template.proofs.Reading.{up_to_none, up_to_more, up_to_exit, up_to_last, used_up}
use Rattle.iri_template.specs.inside.Pieces.{piece_chars}
use Rattle.iri_template.proofs.encoded_value.put_kept.Goals as goal

pub pieces-init : goal.pieces-init
pieces-init g c = record { utf8 = c.utf8.text; held = c.requires; far = up_to_none g.met.W.TextSink.rules }

pub pieces-preserved : goal.pieces-preserved
pieces-preserved g c =
    let following = c.in-Some.following.now in
    let v : IsUtf8 following = search rules in
    record {
      utf8 = v;
      held = c.put_piece.ensures.held;
      far = up_to_more g.met.W.TextSink.rules (piece_chars c.in-Some.piece) (chars following) c.in-Some.ensures.whole c.pieces.invariant.far
          c.in_ok-put_piece.ensures.reads;
    }

pub returns-then-is_used_up-clause-reads : goal.returns-then-is_used_up-clause-reads
returns-then-is_used_up-clause-reads g c = up_to_last g.met.W.TextSink.rules
    (used_up g.S.Spec.tests c.pieces.state (chars c.pieces.rest.now) (sym c.is_used_up.ensures
    ∙ c.if-is_used_up.true)) c.pieces.invariant.far

pub returns-in_err-put_piece-clause-reads : goal.returns-in_err-put_piece-clause-reads
returns-in_err-put_piece-clause-reads g c = up_to_exit g.met.W.TextSink.rules (piece_chars c.in-Some.piece) (chars c.in-Some.following.now)
    c.in-Some.ensures.whole c.from_residual.ensures.0 c.pieces.invariant.far c.in_err-put_piece.ensures.reads

pub returns-clause-reads : goal.returns-clause-reads
returns-clause-reads g c = up_to_last g.met.W.TextSink.rules
    (λ r. ap (λ l. kept_rest g.S.Spec.tests c.pieces.state (l ++ r)) (chars_of_empty c.pieces.rest.now c.in_default.ensures)) c.pieces.invariant.far
