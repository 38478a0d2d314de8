use Rattle.std.proofs.Common.{length, ap, ◌∙◌, arith, length-drop}
use Rattle.iri_robots.proofs.Common.{take_rest}
use Rattle.iri_robots.proofs.Readings.{parts_more, whole_needle}
use Rattle.iri_robots.proofs.needle.needle_len.Goals as goal

pub returns-then-part-eq0-clause-needle : goal.returns-then-part-eq0-clause-needle
returns-then-part-eq0-clause-needle c = whole_needle c.args.dollars c.args.pattern.now c.loop-len.len c.loop-len.invariant.needle

pub returns-clause-needle : goal.returns-clause-needle
returns-clause-needle c = whole_needle c.args.dollars c.args.pattern.now c.loop-len.len c.loop-len.invariant.needle

pub loop-len-preserved : goal.loop-len-preserved
loop-len-preserved c =
    let q = c.args.pattern.now in
    let n = c.loop-len.len in
    let p = c.part_len-part.ensures in
    let w = ap length (take_rest q n) ∙ length-drop n q in
    let m = p.within in
    let i = c.loop-len.invariant.within in
    record {
      within = omega arith;
      needle = parts_more c.args.dollars q _ n c.part_len-part.result (take_rest q n) c.loop-len.invariant.needle p.part;
    }
