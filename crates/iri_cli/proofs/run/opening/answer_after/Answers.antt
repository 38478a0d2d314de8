use Rattle.iri_cli.proofs.Common.{[], ◌∷◌, ◌∙◌, arith, ap, subst, sym, length, begun}
use Rattle.iri_cli.specs.inside.Opening.{IsPreparedOf}
use Rattle.iri_cli.proofs.BytesLemmas.{base_absolute}
use Rattle.iri_cli.proofs.Ends.{no_fixed}
use Rattle.iri_cli.proofs.OpeningLemmas.{ends_in_memory, ready}
use Rattle.iri_cli.proofs.PreparedLaws.{prepared_short}
use Rattle.iri_cli.proofs.run.opening.answer_after.Goals as goal

pub open-requires-clause-short : goal.open-requires-clause-short
open-requires-clause-short g c =
    let s = g.S.Spec.tests in
    let k = g.met.S.Spec.lawful in
    let at = c.requires.base.2 in
    let p = at.is_prepared in
    let short = prepared_short s _ k (base_absolute s k _ p.taken) in
    omega (arith, at.short, short, ap length (c.new-resolver.ensures ∙ p.text_is))

pub answer_lines-requires : goal.answer_lines-requires
answer_lines-requires g c =
    let s = g.S.Spec.tests in
    let rules = g.A.Answers.rules c.args.start in
    let line = c.requires.base.0 in
    let at = c.requires.base.2 in
    let p = subst (IsPreparedOf s line) (sym c.new-resolver.ensures) at.is_prepared in
    (begun rules line, ready s rules (g.met.A.Answers.begins c.args.start) line _ _ _ _ at _ (c.in-Ok.ensures line p))

pub returns-in-Ok : goal.returns-in-Ok
returns-in-Ok g c = λ line left faults at earlier.
    let s = g.S.Spec.tests in
    let rules = g.A.Answers.rules c.args.start in
    let p = subst (IsPreparedOf s line) (sym c.new-resolver.ensures) at.is_prepared in
    c.answer_lines.ensures (begun rules line)
    (ready s rules (g.met.A.Answers.begins c.args.start) line _ _ _ _ at _ (c.in-Ok.ensures line p)) left faults (line ∷ [])
    (λ more. no_fixed rules at.not_fixed (line ∷ more)) at.read earlier

pub returns-in-Err : goal.returns-in-Err
returns-in-Err g c = λ line left faults at earlier.
    ends_in_memory g.S.Spec.tests (g.A.Answers.rules c.args.start) (g.met.A.Answers.begins c.args.start) line _ _ _ _ at faults _ _
    c.in-Err.ensures earlier
