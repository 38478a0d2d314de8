use Rattle.std.proofs.Common.{subst}
use Rattle.std.proofs.lemmas.Str.{IsUtf8-from_ascii}
use Rattle.std.specs.Str.{IsAscii, IsNotAscii}
use Rattle.std.specs.Prelude.{MatchBool}
use Rattle.iri_types.proofs.utf8.text_of.Goals as goal

pub from_utf8_unchecked-requires : goal.from_utf8_unchecked-requires
from_utf8_unchecked-requires c =
    let t = c.args.bytes.now in
    IsUtf8-from_ascii t (subst (λ b. MatchBool b (IsAscii t) (IsNotAscii t)) c.if-is_ascii.true c.is_ascii.ensures.cases)
