use Rattle.iri_grammar.proofs.Common.{◌/◌, refl, arith, zip2_splat, high_bit}
use Rattle.iri_grammar.specs.declared.run.TheConstants.{HIGH_HALVES}
use Rattle.iri_grammar.proofs.units.RunBlocks.{down, high_ok, looked_up}
use Rattle.iri_grammar.proofs.run.by_high_half.Goals as goal

pub swizzle : goal.swizzle
swizzle c = high_ok c.args.block c.fits-block

pub returns : goal.returns
returns c =
    let v = c.args.block in
    looked_up HIGH_HALVES high_bit (λ x. x / 16) v _ c.fits-block (zip2_splat down v 16 4 c.fits-block.0) (λ x h. omega arith) (λ x h. refl)
