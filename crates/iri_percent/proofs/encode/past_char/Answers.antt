use Rattle.iri_percent.proofs.Common.{sym, ap, ◌∙◌, length, arith, class_test}
use Rattle.std.specs.Cmp.{booleans_Decides}
use Rattle.iri_grammar.proofs.units.FirstUnits.{char_shorter}
use Rattle.iri_percent.proofs.coding.EncodedRuns.{past_none, run_from_char}
use Rattle.iri_percent.proofs.encode.past_char.Goals as goal

pub returns-then-has-stands : goal.returns-then-has-stands
returns-then-has-stands g c =
    let p = class_test g.S.Spec.tests c.args.class in
    let r = c.as_str.result.now in
    let fits = sym c.has.ensures ∙ (booleans_Decides c.has.result c.args.stands).0 c.if-has-stands.true in (
      run_from_char p c.args.stands c.in-Some.c c.args.text.now c.chars-chars.result.rest.now c.next.new.self.rest.now r r c.utf8.text c.chars-chars.ensures.rest c.in-Some.ensures.steps.0 fits c.as_str.ensures (past_none p c.args.stands r c.as_str.utf8),
      omega (
        arith,
        ap length c.as_str.ensures,
        char_shorter c.in-Some.c c.chars-chars.result.rest.now c.next.new.self.rest.now c.in-Some.ensures.steps.0,
        ap length c.chars-chars.ensures.rest,
      ),
    )
