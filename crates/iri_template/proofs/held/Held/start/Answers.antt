use Rattle.std.proofs.Common.{take, ap, sym, ◌∙◌}
use Rattle.std.proofs.lemmas.Str.{IsAscii-take, IsUtf8-from_ascii, chars-IsAscii}
use Rattle.std.specs.Str.{chars}
use Rattle.iri_template.proofs.held.Held.start.Goals as goal

pub from_utf8_unchecked-requires : goal.from_utf8_unchecked-requires
from_utf8_unchecked-requires c = IsUtf8-from_ascii (take c.args.len c.self.inside.buf) (IsAscii-take c.self.inside.buf c.args.len c.self.invariant.1)

pub returns-clause-chars : goal.returns-clause-chars
returns-clause-chars c =
    let e = c.from_utf8_unchecked.ensures in
    ap chars e ∙ chars-IsAscii (take c.args.len c.self.inside.buf) (IsAscii-take c.self.inside.buf c.args.len c.self.invariant.1) ∙ sym e
