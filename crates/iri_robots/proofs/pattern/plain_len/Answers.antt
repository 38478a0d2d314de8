use Rattle.iri_robots.proofs.Common.{sym, ◌∙◌, take_rest}
use Rattle.iri_robots.proofs.Places.{plain_none, plain_more, no_value}
use Rattle.iri_robots.proofs.pattern.plain_len.Goals as goal

pub loop-len-init : goal.loop-len-init
loop-len-init c = plain_none c.args.pattern.now

pub loop-len-preserved : goal.loop-len-preserved
loop-len-preserved c =
    let q = c.args.pattern.now in
    plain_more q _ c.loop-len.len c.loop-len.invariant c.if-len-pattern.true c.if-pattern-len-eq42.false (take_rest q c.loop-len.len) (no_value
    c.escaped_special.result _ _ (sym c.is_some.ensures ∙ c.if-is_some.false) c.escaped_special.ensures)
