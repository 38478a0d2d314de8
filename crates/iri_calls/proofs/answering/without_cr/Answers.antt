use Rattle.iri_calls.proofs.Common.{Some, None, [], ◌∷◌, ◌∙◌, sym, ap, no_cr}
use Rattle.std.proofs.Math.Seq.{take-length}
use Rattle.std.proofs.lemmas.Bool.Decides.{Decides-eqb}
use Rattle.std.proofs.lemmas.Slice.Eq.{strip_suffix_is}
use Rattle.iri_text.proofs.Parts.{no_cr-cr, other-len}
use Rattle.iri_calls.proofs.answering.without_cr.Goals as goal

pub returns-in-Some : goal.returns-in-Some
returns-in-Some c =
    sym (ap no_cr (strip_suffix_is Decides-eqb c.args.raw.now (13 ∷ []) (Some c.in-Some.line) c.in-Some.ensures.cases)
    ∙ no_cr-cr c.in-Some.line.now)

pub returns-in-None : goal.returns-in-None
returns-in-None c =
    sym (take-length c.args.raw.now)
    ∙ other-len c.args.raw.now (strip_suffix_is Decides-eqb c.args.raw.now (13 ∷ []) None c.in-None.ensures.cases)
