use Rattle.iri_resolve.proofs.Common.{◌||◌, sym, ◌∙◌, ap}
use Rattle.iri_resolve.specs.inside.LookBack.{percent_before}
use Rattle.iri_resolve.proofs.LookBack.{looked-back}
use Rattle.iri_resolve.proofs.change.is_in_triplet.Goals as goal

pub returns-then-is_percent_before : goal.returns-then-is_percent_before
returns-then-is_percent_before c = sym (looked-back c.args.i c.args.text.now c.requires.0 c.requires.1
    ∙ ap (λ b. b || percent_before 2 c.args.i c.args.text.now) (sym c.is_percent_before.ensures ∙ c.if-is_percent_before.true))

pub returns : goal.returns
returns c = c.is_percent_before-2.ensures ∙ sym (looked-back c.args.i c.args.text.now c.requires.0 c.requires.1
    ∙ ap (λ b. b || percent_before 2 c.args.i c.args.text.now) (sym c.is_percent_before.ensures ∙ c.if-is_percent_before.false))
