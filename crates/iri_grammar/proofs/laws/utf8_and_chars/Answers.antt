use Rattle.std.proofs.lemmas.Str.{chars-encodes, encodes-chars}
use Rattle.iri_grammar.proofs.laws.utf8_and_chars.Goals as goal

pub returns-clause-bytes : goal.returns-clause-bytes
returns-clause-bytes c = encodes-chars

pub returns-clause-chars : goal.returns-clause-chars
returns-clause-chars c = chars-encodes
