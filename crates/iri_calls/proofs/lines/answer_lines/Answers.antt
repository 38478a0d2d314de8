use Rattle.iri_calls.proofs.Common.{◌+◌, ◌<◌, length, arith, ap, ◌∙◌, refl, sym, subst, ended, batch}
use Rattle.std.proofs.Common.{rules}
use Rattle.iri_calls.specs.Lines.{answer_against}
use Rattle.iri_calls.specs.inside.BufferText.{BufferPuts, BufferHalts}
use Rattle.iri_calls.proofs.LineLemmas.{Going, going_init, going_end, going_short, going_next}
use Rattle.iri_calls.proofs.lines.answer_lines.Goals as goal

pub lines-init : goal.lines-init
lines-init g c =
    (refl, going_init (answer_against g.S.Spec.tests c.args.mode c.args.bases.now) c.args.input.now c.args.sink.now c.requires.empty)

pub returns-in_default : goal.returns-in_default
returns-in_default g c =
    let f = answer_against g.S.Spec.tests c.args.mode c.args.bases.now in
    let l = c.lines in
    let ends = going_end f c.args.input.now c.args.sink.now l.rest.now l.written l.sink l.invariant.1 c.in_default.ensures in
    record { same = search rules; batch = ends.0 ∙ ap (λ n. batch f n (ended c.args.input.now)) c.requires.room; bytes = ends.1 }

pub returns-in-Err : goal.returns-in-Err
returns-in-Err g c =
    let f = answer_against g.S.Spec.tests c.args.mode c.args.bases.now in
    let l = c.lines in
    let going = l.invariant.1 in
    let line = c.in-Some in
    let h = subst (λ a. BufferHalts l.sink (a line.raw.now) c.put_answer.new.sink) l.invariant.0 c.in-Err.ensures.shows.stops_within in
    let long : length c.args.sink.now.buf.now < l.written + length (f line.raw.now) = omega (arith, h.room, h.long, going.len, going.width) in
    let ends = going_short f c.args.input.now c.args.sink.now l.rest.now l.written l.sink going line.raw.now line.after.now line.ensures.0
    c.put_answer.new.sink long h.buf in
    record { same = search rules; batch = ends.0 ∙ ap (λ n. batch f n (ended c.args.input.now)) c.requires.room; bytes = ends.1 }

pub returns-then-count-room : goal.returns-then-count-room
returns-then-count-room g c =
    let f = answer_against g.S.Spec.tests c.args.mode c.args.bases.now in
    let l = c.lines in
    let going = l.invariant.1 in
    let line = c.in-Some in
    let p = subst (λ a. BufferPuts l.sink (a line.raw.now) c.put_answer.new.sink) l.invariant.0 c.in-Ok.ensures.shows.appends in
    let long : length c.args.sink.now.buf.now < l.written + length (f line.raw.now) =
    omega (arith, p.len, c.count-count.ensures, c.if-count-room.true, c.requires.room, going.len) in
    let ends = going_short f c.args.input.now c.args.sink.now l.rest.now l.written l.sink going line.raw.now line.after.now line.ensures.0
    c.put_answer.new.sink long p.buf in
    record { same = search rules; batch = ends.0 ∙ ap (λ n. batch f n (ended c.args.input.now)) c.requires.room; bytes = ends.1 }

pub lines-preserved : goal.lines-preserved
lines-preserved g c =
    let f = answer_against g.S.Spec.tests c.args.mode c.args.bases.now in
    let l = c.lines in
    let going = l.invariant.1 in
    let line = c.in-Some in
    let p = subst (λ a. BufferPuts l.sink (a line.raw.now) c.put_answer.new.sink) l.invariant.0 c.in-Ok.ensures.shows.appends in (
      c.in-Ok.ensures.same ∙ l.invariant.0,
      subst (λ n. Going f c.args.input.now c.args.sink.now line.after.now n c.put_answer.new.sink) (sym c.count-count.ensures)
          (going_next f c.args.input.now c.args.sink.now l.rest.now l.written l.sink going line.raw.now line.after.now line.ensures.0
          c.put_answer.new.sink line.ensures.1 p (omega (arith, c.count-count.ensures, c.if-count-room.false, c.requires.room))),
    )
