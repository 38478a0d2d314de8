use Rattle.iri_grammar.proofs.Common.{◌≡◌, ◌+◌, bit_and, arith, ◌∙◌, slice_index, zip2_splat, low_bits}
use Rattle.std.proofs.Common.{ap₂}
use Rattle.std.proofs.lemmas.Nat.{and_le_r}
use Rattle.std.proofs.lemmas.Simd.{get_or-chunk}
use Rattle.iri_grammar.proofs.units.RunBlocks.{low_ok, looked_up}
use Rattle.iri_grammar.proofs.run.by_low_half.Goals as goal

pub swizzle : goal.swizzle
swizzle c = low_ok c.args.block c.fits-block

pub returns : goal.returns
returns c =
    let v = c.args.block in
    looked_up _ (low_bits c.args.row) (λ x. bit_and x 15) v _ c.fits-block (zip2_splat bit_and v 16 15 c.fits-block.0)
    (λ x h. omega (arith, and_le_r x 15))
    (λ x h.
    let place : 0 + bit_and x 15 ≡ bit_and x 15 = omega arith in
    get_or-chunk 0 16 c.rows.result.now (bit_and x 15) 0 (omega (arith, and_le_r x 15))
    ∙ ap₂ slice_index c.rows.ensures.rows place)
