use Rattle.iri_grammar.proofs.Common.{sym, ap, ◌∙◌, arith, ascii_test}
use Rattle.iri_grammar.proofs.units.ClassLaws.{class_at_ascii, class_past_ascii}
use Rattle.iri_grammar.proofs.class.Class.has.Goals as goal

pub returns-then-code-lt128 : goal.returns-then-code-lt128
returns-then-code-lt128 g c =
    c.has_byte.ensures
    ∙ (ap (ascii_test c.args.self) c.from-code.ensures
    ∙ sym (class_at_ascii g.S.Spec.tests g.met.S.Spec.lawful c.args.self c.args.c
    (omega (arith, c.from-code.ensures, c.if-code-lt128.true))))

pub returns-else-code-lt128 : goal.returns-else-code-lt128
returns-else-code-lt128 g c =
    c.has_past_ascii.ensures ∙ sym (class_past_ascii g.S.Spec.tests c.args.self c.args.c
    (omega (arith, c.from-code.ensures, c.if-code-lt128.false)))
