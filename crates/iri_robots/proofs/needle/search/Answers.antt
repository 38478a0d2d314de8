use Rattle.std.proofs.Common.{take, drop, sym, ◌∙◌}
use Rattle.std.proofs.lemmas.Bool.{false≢true}
use Rattle.std.proofs.lemmas.List.{length-take-le}
use Rattle.iri_robots.specs.inside.Escaped.{left_of}
use Rattle.iri_robots.proofs.Readings.{keeps_all, stands_anew, none_left, read_none, stands_not, not_all_read, less_left, stands_shifted, place_kept, none_passed}
use Rattle.iri_robots.proofs.needle.search.Goals as goal

pub loop-needle-init : goal.loop-needle-init
loop-needle-init c = record {
  kept = keeps_all c.args.pattern.now c.args.text.now;
  stands = stands_anew c.args.dollars (take c.args.len c.args.pattern.now) _;
}

pub returns-then-is_over : goal.returns-then-is_over
returns-then-is_over c =
    let q = c.args.pattern.now in
    let len = c.args.len in
    let d = c.args.dollars in
    let i = c.loop-needle.invariant in
    let l = left_of c.loop-needle.start in
    let n = c.fill_on-filled.result.bytes in
    let after = c.fill_on-filled.result.left in
    let e = c.is_over.ensures.0 c.if-is_over.true in
    let s = c.fill_on-filled.ensures.more l i.stands in
    let o = stands_not d (take len q) (drop len q) len l (left_of after) n (length-take-le len q c.requires.0) c.fill_on-filled.ensures.stops (c.stands.ensures
    c.if-stands.false) in
    none_left d q c.args.text.now len n l (left_of after) c.requires.1 c.requires.0 s o (read_none d after.begun.now after.rest.now e.0 e.1) i.kept

pub loop-needle-smaller : goal.loop-needle-smaller
loop-needle-smaller c =
    let y = take c.args.len c.args.pattern.now in
    let d = c.args.dollars in
    let l = left_of c.loop-needle.start in
    let n = c.fill_on-filled.result.bytes in
    let after = left_of c.fill_on-filled.result.left in
    let s = c.fill_on-filled.ensures.more l c.loop-needle.invariant.stands in
    let f = c.shift_of-shift.ensures y c.periods_of-known.ensures s.within in
    less_left d l (left_of c.skip-start.result) c.shift_of-shift.result.by c.skip-start.ensures f.some (not_all_read d y l after n s (λ w. absurd (false≢true (sym
    c.if-is_over.false ∙ c.is_over.ensures.1 w))))

pub loop-needle-preserved : goal.loop-needle-preserved
loop-needle-preserved c =
    let q = c.args.pattern.now in
    let len = c.args.len in
    let y = take len q in
    let d = c.args.dollars in
    let i = c.loop-needle.invariant in
    let l = left_of c.loop-needle.start in
    let n = c.fill_on-filled.result.bytes in
    let by = c.shift_of-shift.result.by in
    let kept = c.shift_of-shift.result.kept in
    let after = left_of c.fill_on-filled.result.left in
    let start = left_of c.skip-start.result in
    let s = c.fill_on-filled.ensures.more l i.stands in
    let o = stands_not d y (drop len q) len l after n (length-take-le len q c.requires.0) c.fill_on-filled.ensures.stops (c.stands.ensures
    c.if-stands.false) in
    let f = c.shift_of-shift.ensures y c.periods_of-known.ensures s.within in
    record {
      kept = place_kept d q c.args.text.now l start by i.kept (none_passed d q len n by kept l after c.requires.1 c.requires.0 s o f) c.skip-start.ensures;
      stands = stands_shifted d y l after start (left_of c.shifted-filled.result.left) n by kept c.shifted-filled.result.bytes f s c.skip-start.ensures
          c.shifted-filled.ensures.bytes c.shifted-filled.ensures.anew c.shifted-filled.ensures.on;
    }
