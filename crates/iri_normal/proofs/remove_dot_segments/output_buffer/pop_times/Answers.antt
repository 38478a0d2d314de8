use Rattle.iri_normal.proofs.Common.{◌-◌, ◌||◌, ◌∙◌, take, sym, ap, arith, length-take-le, ◌==◌, ends_at_slash, popped_times}
use Rattle.iri_normal.proofs.removal.KeptSegments.{ends-more, times-less, times-small}
use Rattle.iri_normal.proofs.removal.Buffers.{popped-ends}
use Rattle.iri_normal.proofs.remove_dot_segments.output_buffer.pop_times.Goals as goal

pub pop-end-requires-clause-ends : goal.pop-end-requires-clause-ends
pop-end-requires-clause-ends c = ends-more (take c.pops.end c.pops.buf) c.pops.left c.pops-test.true c.pops.invariant.ends

pub pops-preserved : goal.pops-preserved
pops-preserved c =
    let i = c.pops.invariant in
    let b = take c.pops.end c.pops.buf in
    record {
      long = c.pop-end.array_long;
      within = omega (arith, i.within, c.pop-end.ensures.within);
      ends = ap (λ v. v || c.pops.left - 1 == 0) (ap ends_at_slash c.pop-end.ensures.text ∙ popped-ends b);
      text = ap (popped_times (c.pops.left - 1)) c.pop-end.ensures.text ∙ (sym (times-less c.pops.left b c.pops-test.true) ∙ i.text);
    }

pub returns-else-end-gt1-clause-text : goal.returns-else-end-gt1-clause-text
returns-else-end-gt1-clause-text c =
    let i = c.pops.invariant in
    let b = take c.pops.end c.pops.buf in
    let size = length-take-le c.pops.end c.pops.buf (omega (arith, i.long, c.if-end-gt1.false)) in
    sym (times-small c.pops.left b (ends-more b c.pops.left c.pops-test.true i.ends) (omega (arith, size, c.if-end-gt1.false))) ∙ i.text
