use Rattle.iri_grammar.proofs.splits.DotPlaces.{first-none, first-some, near-within, none-near}
use Rattle.iri_grammar.proofs.dots.plain_len.Goals as goal

pub returns-then-places-eq0-clause-plain : goal.returns-then-places-eq0-clause-plain
returns-then-places-eq0-clause-plain c =
    none-near c.args.path.now c.args.i 16 c.requires.0 c.requires.1 (first-none _ c.if-places-eq0.true)

pub returns-else-places-eq0-clause-plain : goal.returns-else-places-eq0-clause-plain
returns-else-places-eq0-clause-plain c =
    none-near c.args.path.now c.args.i _ c.requires.0 c.requires.1 (first-some _ c.if-places-eq0.false)

pub returns-else-places-eq0-clause-within : goal.returns-else-places-eq0-clause-within
returns-else-places-eq0-clause-within c =
    near-within c.args.path.now c.args.i _ c.requires.0 c.requires.1 (first-some _ c.if-places-eq0.false)
