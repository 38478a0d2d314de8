use Rattle.iri_normal.proofs.Common.{◌-◌, ◌∙◌, sym, ap, arith, ends_at_slash, popped_times}
use Rattle.iri_normal.proofs.removal.KeptSegments.{times-less, times-small}
use Rattle.iri_normal.proofs.removal.Buffers.{popped-ends}
use Rattle.iri_normal.proofs.remove_dot_segments.segments.popped_times.Goals as goal

pub pops-preserved : goal.pops-preserved
pops-preserved c =
    let t = c.pops.rest.now in
    record {
      utf8 = c.popped-rest.utf8;
      ends = ap ends_at_slash c.popped-rest.ensures ∙ popped-ends t;
      text = ap (popped_times (c.pops.left - 1)) c.popped-rest.ensures
          ∙ (sym (times-less c.pops.left t c.pops-test.true) ∙ c.pops.invariant.text);
    }

pub returns-else-rest-gt1 : goal.returns-else-rest-gt1
returns-else-rest-gt1 c =
    sym (times-small c.pops.left c.pops.rest.now c.pops.invariant.ends (omega (arith, c.if-rest-gt1.false))) ∙ c.pops.invariant.text
