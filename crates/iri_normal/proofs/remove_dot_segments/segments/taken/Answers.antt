use Rattle.iri_normal.proofs.Common.{◌≡◌, ◌+◌, ◌-◌, cond, ◌∙◌, sym, ap, arith, count_by, is_byte, pieces, taken}
use Rattle.std.proofs.lemmas.List.Sums.{count_by-le-length}
use Rattle.iri_normal.proofs.removal.LongPaths.{all-taken, taken-next}
use Rattle.iri_normal.proofs.segments.FirstDots.{next-shorter}
use Rattle.iri_normal.proofs.remove_dot_segments.segments.taken.Goals as goal

pub dots-smaller : goal.dots-smaller
dots-smaller c =
    omega (arith, next-shorter c.dots.rest.now c.in-Some.next.run.now c.in-Some.next.two c.in-Some.next.rest.now c.in-Some.ensures)

pub dots-preserved : goal.dots-preserved
dots-preserved c =
    let i = c.dots.invariant in
    let run = c.in-Some.next.run.now in
    let two = c.in-Some.next.two in
    let rest = c.in-Some.next.rest.now in
    let next = taken-next c.dots.rest.now run two rest c.args.count c.in-Some.ensures in
    let size = next-shorter c.dots.rest.now run two rest c.in-Some.ensures in
    let gone = taken (pieces 47 rest) c.args.count in
    let k = cond two (gone + 1) gone in
    let counts : c.dots.gone + ((k - count_by (is_byte 47) run) - c.dots.stay) ≡ c.dots.gone + (k - (c.dots.stay + c.count_slashes.result)) =
    omega (arith, c.count_slashes.ensures) in
    record {
      room = omega (arith, i.room, size, c.counts_after.ensures.room, c.count_slashes.ensures, count_by-le-length (is_byte 47) run);
      same = i.same ∙ (ap (λ n. c.dots.gone + (n - c.dots.stay)) next ∙ (counts ∙ sym (c.counts_after.ensures.counts gone)));
    }

pub returns-clause-count : goal.returns-clause-count
returns-clause-count c =
    omega (arith, c.dots.invariant.same, all-taken c.dots.rest.now c.args.count c.in_default.ensures, c.count_slashes-2.ensures)
