use Rattle.iri_normal.proofs.Common.{is_empty, ◌≡◌, ◌++◌, ◌||◌, ◌∙◌, take, sym, ap, subst, arith, true, ends_at_slash, left, written}
use Rattle.iri_normal.proofs.segments.FirstDots.{left-next, next-ends, next-shorter, written-next}
use Rattle.iri_normal.proofs.removal.Buffers.{written-plain}
use Rattle.iri_normal.proofs.remove_dot_segments.output_buffer.put.Goals as goal

pub leave-end-requires-clause-ends : goal.leave-end-requires-clause-ends
leave-end-requires-clause-ends c =
    subst (λ l. ends_at_slash l ≡ true) (sym c.append-end.ensures.text)
    (next-ends (take c.dots.end c.dots.buf) c.dots.rest.now c.in-Some.next.run.now c.in-Some.next.two c.in-Some.next.rest.now
    c.in-Some.ensures c.dots.invariant.ends)

pub dots-smaller : goal.dots-smaller
dots-smaller c =
    omega (arith, next-shorter c.dots.rest.now c.in-Some.next.run.now c.in-Some.next.two c.in-Some.next.rest.now c.in-Some.ensures)

pub dots-preserved : goal.dots-preserved
dots-preserved c =
    let i = c.dots.invariant in
    let b = take c.dots.end c.dots.buf in
    let t = c.dots.rest.now in
    let run = c.in-Some.next.run.now in
    let two = c.in-Some.next.two in
    let rest = c.in-Some.next.rest.now in
    let h = c.in-Some.ensures in
    let size = next-shorter t run two rest h in
    let gone : take c.leave-end.result c.leave-end.new.buf ≡ left two (b ++ run) =
    c.leave-end.ensures.text ∙ ap (left two) c.append-end.ensures.text in
    record {
      long = c.leave-end.array_long;
      room = omega (arith, i.room, c.leave-end.ensures.within, c.append-end.ensures.len, size);
      ends = ap (λ l. is_empty rest || ends_at_slash l) gone ∙ left-next two (b ++ run) rest (next-ends b t run two rest h i.ends);
      text = ap (λ l. written l rest) gone ∙ (sym (written-next b t run two rest h) ∙ i.text);
    }

pub returns-clause-text : goal.returns-clause-text
returns-clause-text c =
    c.append.ensures.text
    ∙ (sym (written-plain (take c.dots.end c.dots.buf) c.dots.rest.now c.in_default.ensures) ∙ c.dots.invariant.text)
