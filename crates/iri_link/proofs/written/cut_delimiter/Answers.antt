use Rattle.std.proofs.lemmas.Str.{IsCharBoundary-after_ascii}
use Rattle.iri_link.proofs.EscapeLemmas.{delimiter_cut}
use Rattle.iri_link.proofs.written.cut_delimiter.Goals as goal

pub range-requires-in-Some-clause-end_boundary : goal.range-requires-in-Some-clause-end_boundary
range-requires-in-Some-clause-end_boundary c = let h = c.in-Some.ensures in IsCharBoundary-after_ascii c.args.s.now c.in-Some.at c.utf8.s h.inside h.low

pub range_from-requires : goal.range_from-requires
range_from-requires c _ = let h = c.in-Some.ensures in IsCharBoundary-after_ascii c.args.s.now c.in-Some.at c.utf8.s h.inside h.low

pub returns-in-Some : goal.returns-in-Some
returns-in-Some c =
    delimiter_cut c.args.s.now c.range.result.now c.range-in-Some.result.now c.range_from.result.now c.in-Some.at c.in-Some.ensures
    c.range.ensures.value c.range-in-Some.ensures.value c.range_from.ensures.value
