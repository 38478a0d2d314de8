use Rattle.std.proofs.Common.{Some, None, [], ◌∷◌}
use Rattle.std.proofs.lemmas.Bool.Decides.{Decides-eqb}
use Rattle.std.proofs.lemmas.Slice.Eq.{strip_suffix_is}
use Rattle.iri_text.proofs.Parts.{cr-len, other-len}
use Rattle.iri_text.proofs.streams.reader.line_len.Goals as goal

pub returns-in-Some-clause-line : goal.returns-in-Some-clause-line
returns-in-Some-clause-line c =
    cr-len c.args.raw.now c.in-Some.line.now
    (strip_suffix_is Decides-eqb c.args.raw.now (13 ∷ []) (Some c.in-Some.line) c.in-Some.ensures.cases)

pub returns-in-None-clause-line : goal.returns-in-None-clause-line
returns-in-None-clause-line c =
    other-len c.args.raw.now (strip_suffix_is Decides-eqb c.args.raw.now (13 ∷ []) None c.in-None.ensures.cases)
