use Rattle.std.proofs.Common.{◌-◌, [], ◌∷◌, Some, arith, sym, subst, ◌∙◌}
use Rattle.iri_robots.specs.inside.EscapeScans.{Counts}
use Rattle.iri_robots.proofs.EscapeLemmas.{reads_plain, reads_escape, reads_too_many}
use Rattle.iri_robots.proofs.escape.read_byte.Goals as goal

pub returns-then-not-ends_escape : goal.returns-then-not-ends_escape
returns-then-not-ends_escape c =
    let a = c.args.scan in
    subst (λ b. Counts a (c.args.byte ∷ []) (Some (record { room = a.room; begun = b }))) (sym c.begun_after-begun.ensures)
    (reads_plain a c.args.byte (sym c.ends_escape.ensures ∙ c.if-not-ends_escape.true))

pub returns-then-scan-eq0 : goal.returns-then-scan-eq0
returns-then-scan-eq0 c =
    reads_too_many c.args.scan c.args.byte (sym c.ends_escape.ensures ∙ c.if-not-ends_escape.false) c.if-scan-eq0.true

pub returns : goal.returns
returns c =
    let a = c.args.scan in
    subst (λ b. Counts a (c.args.byte ∷ []) (Some (record { room = a.room - 1; begun = b }))) (sym c.begun_after-begun.ensures)
    (reads_escape a c.args.byte (sym c.ends_escape.ensures ∙ c.if-not-ends_escape.false) (omega (arith, c.if-scan-eq0.false)))
