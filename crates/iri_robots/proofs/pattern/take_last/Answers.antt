use Rattle.std.proofs.Common.{sym, ◌∙◌}
use Rattle.std.proofs.lemmas.Bool.{false≢true}
use Rattle.iri_robots.proofs.LastParts.{special_filled, not_filled, byte_filled}
use Rattle.iri_robots.proofs.pattern.take_last.Goals as goal

pub returns-then-has_last_escape : goal.returns-then-has_last_escape
returns-then-has_last_escape c = special_filled c.args.pattern.now c.args.text.now _ c.in-Some.byte.now c.requires.0 c.requires.1
    c.in-Some.ensures.cases.0 (c.has_last_escape.ensures.0 c.if-has_last_escape.true)

pub returns-then-byte-pattern : goal.returns-then-byte-pattern
returns-then-byte-pattern c = not_filled c.args.pattern.now c.args.text.now _ c.in-Some.byte.now c.requires.0 c.requires.1
    c.in-Some.ensures.cases.0 (λ h. absurd (false≢true (sym c.if-has_last_escape.false ∙ c.has_last_escape.ensures.1 h))) c.if-byte-pattern.true

pub returns : goal.returns
returns c = byte_filled c.args.pattern.now c.args.text.now _ c.in-Some.byte.now c.requires.0 c.requires.1 c.in-Some.ensures.cases.0
    c.if-byte-pattern.false
