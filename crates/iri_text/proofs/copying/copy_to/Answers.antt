use Rattle.std.proofs.Common.{arith}
use Rattle.std.proofs.lemmas.Slice.{drop-put_mid}
use Rattle.iri_text.proofs.copying.copy_to.Goals as goal

pub returns-clause-behind : goal.returns-clause-behind
returns-clause-behind c = drop-put_mid c.args.at _ c.args.buf.now _ _ (omega arith) (omega arith) (omega arith)
