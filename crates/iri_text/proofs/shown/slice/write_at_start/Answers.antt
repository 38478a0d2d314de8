use Rattle.iri_text.proofs.Common.{rules, IsUtf8-had}
use Rattle.iri_text.proofs.shown.slice.write_at_start.Goals as goal

pub returns-in-Ok-clause-utf8 : goal.returns-in-Ok-clause-utf8
returns-in-Ok-clause-utf8 g c = let utf8 = IsUtf8-had _ c.show.new.sink.utf8 in search rules
