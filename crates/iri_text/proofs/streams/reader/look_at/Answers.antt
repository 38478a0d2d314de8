use Rattle.iri_text.proofs.Common.{arith, ◌+◌, subst, take_all, NoLf}
use Rattle.iri_text.proofs.Parts.{NoLf-take}
use Rattle.iri_text.proofs.streams.reader.look_at.Goals as goal

pub returns-then-min-limit : goal.returns-then-min-limit
returns-then-min-limit c = (
  omega (arith, c.if-min-limit.true),
  NoLf-take _ (c.args.limit + 1) c.args.lf (omega (arith, c.if-min-limit.true)) c.requires.first.no_lf,
)

pub returns-then-usable-held : goal.returns-then-usable-held
returns-then-usable-held c = (
  omega arith,
  omega (arith, c.if-min-limit.false),
  NoLf-take _ c.args.usable c.args.lf (omega arith) c.requires.first.no_lf,
)

pub returns-else-usable-held : goal.returns-else-usable-held
returns-else-usable-held c =
    let all = take_all c.args.lf c.args.held.now (omega arith) in
    (omega arith, omega (arith, c.if-min-limit.false), subst NoLf all c.requires.first.no_lf)
