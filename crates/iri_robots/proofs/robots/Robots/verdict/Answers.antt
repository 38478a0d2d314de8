use Rattle.iri_robots.proofs.Common.{refl, string_bytes, rules_in_groups}
use Rattle.iri_robots.proofs.GroupLemmas.{decided_read}
use Rattle.iri_robots.proofs.robots.Robots.verdict.Goals as goal

pub returns-then-decides : goal.returns-then-decides
returns-then-decides c =
    let self = c.args.self.now in
    let h = decided_read (string_bytes self.token) self.records.items _ self.reading _ _ c.decides.result self.read c.as_slice.ensures.value
    c.as_bytes-text.ensures.value (c.decides.ensures (rules_in_groups self.reading.named c.as_slice.result.now) c.best_of-best.ensures) in
    (λ _. h.0 c.if-decides.true, λ _. refl)

pub returns-else-decides : goal.returns-else-decides
returns-else-decides c =
    let self = c.args.self.now in
    let h = decided_read (string_bytes self.token) self.records.items _ self.reading _ _ c.decides.result self.read c.as_slice.ensures.value
    c.as_bytes-text.ensures.value (c.decides.ensures (rules_in_groups self.reading.named c.as_slice.result.now) c.best_of-best.ensures) in
    (λ e. cc, λ a. let k = h.1 a in let m = c.if-decides.false in cc)
