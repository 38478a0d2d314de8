use Rattle.iri_cli.proofs.Common.{◌≡◌, None, arith, refl, subst, sym, base_text, split_text}
use Rattle.iri_grammar.proofs.faults.FaultLaws.{iri-law}
use Rattle.iri_grammar.specs.WholeFault.{iri_fault}
use Rattle.iri_cli.proofs.CanonLemmas.{canonical_valid}
use Rattle.iri_cli.proofs.canon.text.write_canonical.Goals as goal

pub unreachable-requires : goal.unreachable-requires
unreachable-requires g c =
    let valid = canonical_valid g.S.Spec.tests g.met.S.Spec.lawful c.args.mode (base_text c.args.resolver.now) (split_text c.args.reference.now)
    c.args.resolver.now.base.view.valid c.args.reference.now.view.valid in
    omega (arith, c.requires, valid.1, c.in-Err.ensures.exact.0 refl)

pub from_valid-requires : goal.from_valid-requires
from_valid-requires g c =
    let s = g.S.Spec.tests in
    let l = g.met.S.Spec.lawful in
    let valid = canonical_valid s l c.args.mode (base_text c.args.resolver.now) (split_text c.args.reference.now)
    c.args.resolver.now.base.view.valid c.args.reference.now.view.valid in
    subst (λ t. iri_fault s t ≡ None) (sym c.in-Ok.ensures.text) ((iri-law s l _).1 valid.0)
