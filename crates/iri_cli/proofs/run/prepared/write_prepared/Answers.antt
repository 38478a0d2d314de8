use Rattle.std.proofs.Common.{◌≡◌, ◌∙◌, None, refl, ap, sym, subst, arith, length}
use Rattle.iri_grammar.specs.WholeFault.{absolute_fault}
use Rattle.iri_grammar.proofs.faults.FaultLaws.{absolute-law}
use Rattle.iri_types.specs.Texts.{text}
use Rattle.iri_cli.proofs.BytesLemmas.{base_absolute}
use Rattle.iri_cli.proofs.PreparedLaws.{shown_text, prepared_text, prepared_short, prepared_absolute}
use Rattle.iri_cli.proofs.run.prepared.write_prepared.Goals as goal

pub unreachable-requires : goal.unreachable-requires
unreachable-requires g c =
    let s = g.S.Spec.tests in
    let l = g.met.S.Spec.lawful in
    let valid = base_absolute s l (text c.args.base) c.requires.taken in
    let whole = ap (shown_text s) c.of-base.ensures ∙ prepared_text s (text c.args.base) l valid in
    let short = prepared_short s (text c.args.base) l valid in
    let long = c.in-Err.ensures.exact.0 refl in
    omega (arith, c.requires.room, short, ap length whole, long)

pub from_valid-requires : goal.from_valid-requires
from_valid-requires g c =
    let s = g.S.Spec.tests in
    let l = g.met.S.Spec.lawful in
    let valid = base_absolute s l (text c.args.base) c.requires.taken in
    let is = c.in-Ok.ensures.text ∙ (ap (shown_text s) c.of-base.ensures ∙ prepared_text s (text c.args.base) l valid) in
    subst (λ t. absolute_fault s t ≡ None) (sym is) ((absolute-law s l _).1 (prepared_absolute s _ l valid))

pub returns : goal.returns
returns g c =
    let s = g.S.Spec.tests in
    let valid = base_absolute s g.met.S.Spec.lawful (text c.args.base) c.requires.taken in
    c.from_valid.ensures ∙ c.in-Ok.ensures.text ∙ (ap (shown_text s) c.of-base.ensures ∙ prepared_text s (text c.args.base) g.met.S.Spec.lawful valid)
