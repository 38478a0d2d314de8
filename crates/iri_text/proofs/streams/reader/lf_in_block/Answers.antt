use Rattle.std.proofs.Common.{◌≡◌, ◌+◌, ◌-◌, take, drop, slice_range, ap, arith}
use Rattle.std.proofs.lemmas.Simd.{length-chunk}
use Rattle.iri_text.proofs.LfBlocks.{none_marked, first_marked}
use Rattle.iri_text.proofs.streams.reader.lf_in_block.Goals as goal

pub returns-then-delimiters-eq0 : goal.returns-then-delimiters-eq0
returns-then-delimiters-eq0 c =
    let i = c.args.i in
    let t = c.args.held.now in
    let e : 16 ≡ (i + 16) - i = omega arith in
    none_marked (take 16 (drop i t)) (slice_range t i (i + 16)) (ap (λ n. take n (drop i t)) e) (length-chunk i 16 t c.requires) c.if-delimiters-eq0.true

pub returns-else-delimiters-eq0 : goal.returns-else-delimiters-eq0
returns-else-delimiters-eq0 c =
    let i = c.args.i in
    let t = c.args.held.now in
    let e : 16 ≡ (i + 16) - i = omega arith in
    first_marked (take 16 (drop i t)) (slice_range t i (i + 16)) (ap (λ n. take n (drop i t)) e) (length-chunk i 16 t c.requires) c.if-delimiters-eq0.false
