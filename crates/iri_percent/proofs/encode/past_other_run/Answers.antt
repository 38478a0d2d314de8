use Rattle.iri_percent.proofs.Common.{sym, ap, ◌∙◌, subst, IsCharBoundary, IsCharBoundary-from_drop, run_of, is_other}
use Rattle.iri_grammar.proofs.units.FirstUnits.{run_text, run_of_le}
use Rattle.iri_percent.proofs.coding.EncodedRuns.{other_below}
use Rattle.iri_percent.proofs.encode.past_other_run.Goals as goal

pub range_from-requires : goal.range_from-requires
range_from-requires c _ =
    let q = is_other c.args.class in
    let t = c.args.text.now in
    let is = c.other_run_len.ensures ∙ ap (run_of q) c.as_bytes.ensures.value in
    subst (IsCharBoundary t) (sym is) (IsCharBoundary-from_drop t (run_of q t) (run_of_le q t)
    (run_text q t (other_below c.args.class) c.utf8.text))
