use Rattle.iri_template.proofs.Common.{◌≡◌, [], sym, subst, rules, chars, IsUtf8, Reads, kept_rest}
use Rattle.iri_template.proofs.HeldUnits.{chars_lack}
use Rattle.iri_template.proofs.Reading.{reads_run, reads_octets}
use Rattle.iri_template.specs.inside.Pieces.{IsPieceWhere, piece_chars}
use Rattle.iri_template.specs.declared.encoded_value.Reading.{Reading}
use Rattle.iri_template.proofs.encoded_value.put_piece.Goals as goal

pub returns-in-Run-clause-reads : goal.returns-in-Run-clause-reads
returns-in-Run-clause-reads g c =
    let w = g.W.TextSink in
    let a = c.args.state.now in
    let b : Reading = record { held = a.held; left = c.put_chars.new.left } in
    let run = c.in-Run.run'.now in
    let u : IsUtf8 run = search rules in
    let plain = subst (λ p. IsPieceWhere (a.held ≡ []) p) c.in-Run.is c.requires.plain in
    subst (λ p. Reads (kept_rest g.S.Spec.tests) w.puts w.halts w.stops a c.args.sink.now (piece_chars p) b c.put_chars.new.sink c.put_chars.result)
    (sym c.in-Run.is)
    (reads_run g.S.Spec.tests g.met.W.TextSink.rules {b = b} (chars run) plain.0 (chars_lack run u plain.1)
    c.put_chars.ensures.shows plain.0 c.put_chars.ensures.left)

pub returns-in-Octets-clause-reads : goal.returns-in-Octets-clause-reads
returns-in-Octets-clause-reads g c =
    let w = g.W.TextSink in
    let a = c.args.state.now in
    let b : Reading = record { held = a.held; left = c.put_octets.new.left } in
    let octets = c.in-Octets.octets.now in
    let plain = subst (λ p. IsPieceWhere (a.held ≡ []) p) c.in-Octets.is c.requires.plain in
    subst (λ p. Reads (kept_rest g.S.Spec.tests) w.puts w.halts w.stops a c.args.sink.now (piece_chars p) b c.put_octets.new.sink c.put_octets.result)
    (sym c.in-Octets.is)
    (reads_octets g.S.Spec.tests g.met.W.TextSink.rules {b = b} plain.1.0 octets plain.0 plain.1.1 c.put_octets.ensures.shows plain.0
    c.put_octets.ensures.left)
