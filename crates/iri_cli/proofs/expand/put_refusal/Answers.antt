use Rattle.iri_cli.proofs.Common.{◌∙◌, [], ◌∷◌, ◌++◌, ap, codes, decimal, puts-then, puts-exit}
use Rattle.iri_template.specs.ErrorTexts.{description}
use Rattle.iri_cli.proofs.PutLemmas.{puts_so}
use Rattle.iri_cli.proofs.expand.put_refusal.Goals as goal

pub returns-in_err-put_all : goal.returns-in_err-put_all
returns-in_err-put_all g c =
    puts-exit (description c.args.error.kind ++ (codes " at " ++ (decimal c.args.error.location ++ 10 ∷ [])))
    c.from_residual.ensures.0 c.in_err-put_all.ensures

pub returns-in_err-put_all-2 : goal.returns-in_err-put_all-2
returns-in_err-put_all-2 g c =
    let words = c.as_bytes.ensures.value ∙ c.description.ensures ∙ ap description c.kind.ensures in
    puts-then c.in_ok-put_all.ensures (puts-exit (codes " at " ++ (decimal c.args.error.location ++ 10 ∷ []))
    c.from_residual-in_err-put_all-2.ensures.0 (puts_so words c.in_err-put_all-2.ensures))

pub returns-in_err-put_all-3 : goal.returns-in_err-put_all-3
returns-in_err-put_all-3 g c =
    let words = c.as_bytes.ensures.value ∙ c.description.ensures ∙ ap description c.kind.ensures in
    puts-then c.in_ok-put_all.ensures (puts-then (puts_so words c.in_ok-put_all-2.ensures)
    (puts-exit (decimal c.args.error.location ++ 10 ∷ []) c.from_residual-in_err-put_all-3.ensures.0 c.in_err-put_all-3.ensures))

pub returns-in_err-put_number : goal.returns-in_err-put_number
returns-in_err-put_number g c =
    let words = c.as_bytes.ensures.value ∙ c.description.ensures ∙ ap description c.kind.ensures in
    puts-then c.in_ok-put_all.ensures (puts-then (puts_so words c.in_ok-put_all-2.ensures) (puts-then c.in_ok-put_all-3.ensures
    (puts-exit (10 ∷ []) c.from_residual-in_err-put_number.ensures.0 (puts_so (ap decimal c.location.ensures) c.in_err-put_number.ensures))))

pub returns : goal.returns
returns g c =
    let words = c.as_bytes.ensures.value ∙ c.description.ensures ∙ ap description c.kind.ensures in
    puts-then c.in_ok-put_all.ensures (puts-then (puts_so words c.in_ok-put_all-2.ensures) (puts-then c.in_ok-put_all-3.ensures
    (puts-then (puts_so (ap decimal c.location.ensures) c.in_ok-put_number.ensures) c.put_all-4.ensures)))
