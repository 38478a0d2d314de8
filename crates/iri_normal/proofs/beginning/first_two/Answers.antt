use Rattle.iri_normal.proofs.Common.{sym, arith}
use Rattle.std.proofs.lemmas.List.{take_all}
use Rattle.iri_normal.proofs.beginning.first_two.Goals as goal

pub returns-then-text-lt2 : goal.returns-then-text-lt2
returns-then-text-lt2 c = sym (take_all 2 c.args.text.now (omega (arith, c.if-text-lt2.true)))
