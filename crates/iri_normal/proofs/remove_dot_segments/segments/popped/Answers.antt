use Rattle.iri_normal.proofs.Common.{◌≡◌, ◌+◌, ◌-◌, ◌<◌, ◌∙◌, sym, length, take, slice_index, arith, common_steps, lead_after_ascii}
use Rattle.iri_normal.proofs.Common.{length-take-le}
use Rattle.std.proofs.lemmas.List.{get_or-take}
use Rattle.iri_normal.proofs.segments.Slashes.{slash_is}
use Rattle.iri_normal.proofs.removal.Buffers.{popped-alone, popped-last}
use Rattle.iri_normal.proofs.remove_dot_segments.segments.popped.Goals as goal

pub range-requires-clause-end_boundary : goal.range-requires-clause-end_boundary
range-requires-clause-end_boundary c =
    let t = c.args.directory.now in
    let i = c.in-Some.i in
    let at = slash_is (take (length t - 1) t) i (rw c.as_bytes.ensures.value at c.in-Some.ensures) in
    let size = length-take-le (length t - 1) t (omega arith) in
    let below : i < length t - 1 = omega (arith, at.0, size) in
    let byte : slice_index t i ≡ 47 = sym (get_or-take (length t - 1) t i 0 below) ∙ at.1 in
    (omega (arith, below), λ l k. lead_after_ascii t i c.utf8.directory (omega (arith, byte)) l k)

pub returns-in-Some : goal.returns-in-Some
returns-in-Some c =
    let t = c.args.directory.now in
    let i = c.in-Some.i in
    let last = rw c.as_bytes.ensures.value at c.in-Some.ensures in
    let at = slash_is (take (length t - 1) t) i last in
    let size = length-take-le (length t - 1) t (omega arith) in
    let below : i < length t - 1 = omega (arith, at.0, size) in
    let first : c.range.result.now ≡ take (i + 1) t = grind (arith, common_steps) in
    first ∙ popped-last t i (omega (arith, c.requires.some)) c.requires.ends last

pub returns-in-None : goal.returns-in-None
returns-in-None c =
    popped-alone c.args.directory.now (omega (arith, c.requires.some)) c.requires.ends (rw c.as_bytes.ensures.value at c.in-None.ensures)
