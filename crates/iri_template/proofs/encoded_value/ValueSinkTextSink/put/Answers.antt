use Rattle.iri_template.proofs.Common.{sym, subst, chars, refl, Reads}
use Rattle.iri_template.proofs.Reading.{value_put, reads_chars}
use Rattle.iri_template.specs.inside.Reads.{value_rest}
use Rattle.iri_template.specs.declared.encoded_value.Reading.{Reading}
use Rattle.iri_template.proofs.encoded_value.ValueSinkTextSink.put.Goals as goal

pub returns-then-self : goal.returns-then-self
returns-then-self g c =
    let w = g.W.TextSink in
    let a = c.args.self.now in
    value_put g.S.Spec.tests g.met.W.TextSink.rules a _ c.args.piece.now c.put_kept.result c.utf8.piece refl refl
    (subst (λ v. Reads (value_rest g.S.Spec.tests v) w.puts w.halts w.stops a.state a.to.now (chars c.args.piece.now) c.put_kept.new.state
    c.put_kept.new.sink c.put_kept.result) (sym c.if-self.true) c.put_kept.ensures.reads)

pub returns-else-self : goal.returns-else-self
returns-else-self g c =
    let w = g.W.TextSink in
    let a = c.args.self.now in
    let b : Reading = record { held = a.state.held; left = c.put_chars.new.left } in
    value_put g.S.Spec.tests g.met.W.TextSink.rules a _ c.args.piece.now c.put_chars.result c.utf8.piece refl refl
    (subst (λ v. Reads (value_rest g.S.Spec.tests v) w.puts w.halts w.stops a.state a.to.now (chars c.args.piece.now) b
    c.put_chars.new.sink c.put_chars.result) (sym c.if-self.false)
    (reads_chars g.S.Spec.tests g.met.W.TextSink.rules {b = b} (chars c.args.piece.now) c.put_chars.ensures.shows c.put_chars.ensures.left))
