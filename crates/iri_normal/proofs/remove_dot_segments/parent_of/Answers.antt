use Rattle.iri_normal.proofs.Common.{◌≡◌, ◌<◌, ◌∙◌, sym, arith, common_steps, take, pieces, taken, popped_times}
use Rattle.iri_normal.proofs.removal.Parents.{known, parent-boundary, parent-slash, parent-taken}
use Rattle.iri_normal.proofs.remove_dot_segments.parent_of.Goals as goal

pub returns-then-known-eq1 : goal.returns-then-known-eq1
returns-then-known-eq1 c =
    let d = c.args.directory.now in
    let n = taken (pieces 47 c.args.text.now) c.args.count in
    let one : c.args.known ≡ 1 = omega (arith, c.if-known-eq1.true) in
    parent-slash n d c.requires.ends (sym one ∙ known c.args.known (popped_times n d) (omega (arith, one)) c.requires.known)

pub range-requires-clause-end_boundary : goal.range-requires-clause-end_boundary
range-requires-clause-end_boundary c =
    let d = c.args.directory.now in
    let n = taken (pieces 47 c.args.text.now) c.args.count in
    let more : 1 < c.args.known = omega (arith, c.if-known-eq0.false, c.if-known-eq1.false) in
    parent-boundary n c.args.known d c.utf8.directory c.requires.ends more (known c.args.known (popped_times n d) (omega (arith, more)) c.requires.known)

pub returns : goal.returns
returns c =
    let d = c.args.directory.now in
    let n = taken (pieces 47 c.args.text.now) c.args.count in
    let more : 1 < c.args.known = omega (arith, c.if-known-eq0.false, c.if-known-eq1.false) in
    let cut : c.range.result.now ≡ take c.args.known d = grind (arith, common_steps) in
    cut ∙ parent-taken n c.args.known d c.requires.ends more (known c.args.known (popped_times n d) (omega (arith, more)) c.requires.known)
