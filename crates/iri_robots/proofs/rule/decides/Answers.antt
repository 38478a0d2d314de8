use Rattle.iri_robots.proofs.Common.{subst, sym, ◌∙◌, IsBestOf}
use Rattle.std.specs.Cmp.Lexicographic.{other_text}
use Rattle.iri_robots.proofs.Verdicts.{best_decides}
use Rattle.iri_robots.proofs.rule.decides.Goals as goal

pub returns-in-Some : goal.returns-in-Some
returns-in-Some c rules h =
    best_decides rules c.args.text.now c.in-Some.best.bytes c.in-Some.best.allows (λ e. other_text c.args.text.now c.as_slice.result.now
    (sym c.if-eq.false ∙ c.eq.ensures) (e ∙ sym c.as_slice.ensures)) (subst (λ b. IsBestOf rules c.args.text.now b) c.in-Some.is h)
