use Rattle.iri_robots.proofs.Common.{◌≡◌, ◌↔◌, true, refl, subst, IsAllowed, rules_in}
use Rattle.iri_robots.proofs.rules_text.lines_verdict.Goals as goal

pub returns-then-decides : goal.returns-then-decides
returns-then-decides c =
    let h = subst (λ t. (c.decides.result ≡ true) ↔ IsAllowed (rules_in c.args.lines.now) t) c.as_bytes-text.ensures.value
    (c.decides.ensures (rules_in c.args.lines.now) c.best_in.ensures) in
    (λ _. h.0 c.if-decides.true, λ _. refl)

pub returns-else-decides : goal.returns-else-decides
returns-else-decides c =
    let h = subst (λ t. (c.decides.result ≡ true) ↔ IsAllowed (rules_in c.args.lines.now) t) c.as_bytes-text.ensures.value
    (c.decides.ensures (rules_in c.args.lines.now) c.best_in.ensures) in
    (λ e. cc, λ a. let k = h.1 a in let m = c.if-decides.false in cc)
