use Rattle.iri_link.proofs.Common.{sym, ap, ◌∙◌, subst, take, drop, IsCharBoundary, run_of, run_test}
use Rattle.iri_link.proofs.RunLemmas.{run-is, run-boundary}
use Rattle.iri_link.proofs.runs.cut_run.Goals as goal

pub split_at-requires : goal.split_at-requires
split_at-requires c =
    let is = c.run_len.ensures ∙ ap (run_of (run_test c.args.run)) c.as_bytes.ensures.value in
    subst (IsCharBoundary c.args.s.now) (sym is) (run-boundary c.args.run c.args.s.now c.utf8.s)

pub returns : goal.returns
returns c =
    let p = run_test c.args.run in
    let t = c.args.s.now in
    let is = c.run_len.ensures ∙ ap (run_of p) c.as_bytes.ensures.value in
    let prefix = c.split_at.ensures.front ∙ ap (λ n. take n t) is in
    let back = c.split_at.ensures.back ∙ ap (λ n. drop n t) is in
    rw (prefix, back) (run-is p t)
