use Rattle.iri_grammar.proofs.Common.{sym, ap, ◌∙◌, subst, ascii_test, run_of}
use Rattle.std.specs.Str.{IsCharBoundary}
use Rattle.std.proofs.lemmas.Str.{IsCharBoundary-from_drop}
use Rattle.iri_grammar.proofs.units.ClassLaws.{ascii_test_below}
use Rattle.iri_grammar.proofs.units.FirstUnits.{run_text, run_of_le}
use Rattle.iri_grammar.proofs.over.past_run.Goals as goal

pub range_from-requires : goal.range_from-requires
range_from-requires c _ =
    let q = ascii_test c.args.class in
    let t = c.args.s.now in
    let is = c.run_len.ensures ∙ ap (run_of q) c.as_bytes.ensures.value in
    subst (IsCharBoundary t) (sym is) (IsCharBoundary-from_drop t (run_of q t) (run_of_le q t)
    (run_text q t (ascii_test_below c.args.class) c.utf8.s))
