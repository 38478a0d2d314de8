use Rattle.std.proofs.Common.{◌≡◌, [], ◌∷◌, List, ℕ, ap, arith, length, subst, sym}
use Rattle.iri_cli.specs.help.Notices.{notice_text}
use Rattle.iri_cli.specs.run.Words.{notice_word}
use Rattle.iri_text.specs.SliceText.{over_start}
use Rattle.iri_run_calls.specs.Runs.{RanOrMemory}
use Rattle.iri_run_calls.proofs.RunLemmas.{notice_refused, notice_fits}
use Rattle.iri_run_calls.proofs.write_notice.Goals as goal

pub returns-then-text-out-clause-run : goal.returns-then-text-out-clause-run
returns-then-text-out-clause-run c =
    let count : length c.text_of-text.result.now ≡ length (notice_text c.args.notice) = ap length c.text_of-text.ensures in
    notice_refused c.args.notice c.args.input.now c.args.out.now (omega (arith, count, c.if-text-out.true))

pub returns-clause-run : goal.returns-clause-run
returns-clause-run c =
    let count : length c.text_of-text.result.now ≡ length (notice_text c.args.notice) = ap length c.text_of-text.ensures in
    let ran = notice_fits c.args.notice c.args.input.now c.args.out.now (omega (arith, count, c.if-text-out.false)) in
    let new : c.copy_over.new.buf ≡ over_start (notice_text c.args.notice) c.args.out.now = cc (c.copy_over.ensures, c.as_bytes.ensures.value, c.text_of-text.ensures) in
    subst (λ (n : ℕ). RanOrMemory (notice_word c.args.notice ∷ []) c.args.input.now c.args.out.now c.copy_over.new.buf n 0) (sym count)
    (subst (λ (l : List ℕ). RanOrMemory (notice_word c.args.notice ∷ []) c.args.input.now c.args.out.now l (length (notice_text c.args.notice)) 0) (sym new) ran)
