use Rattle.std.proofs.Common.{◌≡◌, ◌∙◌, ap, arith, decimal, sym}
use Rattle.std.proofs.lemmas.Fmt.{parse-decimal}
use Rattle.iri_cli.proofs.run.words.count_of.Goals as goal
use Rattle.iri_cli.proofs.run.words.count_of.Goals.{then-count-lt1-via-then-count-lt1, then-count-lt1-via-else-count-lt1+then-count-gt-MOST_REFERENCES}
use Rattle.iri_cli.proofs.run.words.count_of.Goals.{then-count-lt1-via-else-count-lt1+else-count-gt-MOST_REFERENCES+then-not-is_decimal}

pub returns-in_default : goal.returns-in_default
returns-in_default c = λ count is.
    let parsed = parse-decimal 32 count c.args.word.now c.parse.result (omega (arith, is.most))
    (omega (arith, is.most)) is.spelled c.parse.ensures.value.0 in
    absurd (c.in_default.not-Ok count parsed)

pub returns-then-count-lt1 : goal.returns-then-count-lt1
returns-then-count-lt1 c = λ count is.
    let parsed = parse-decimal 32 count c.args.word.now c.parse.result (omega (arith, is.most))
    (omega (arith, is.most)) is.spelled c.parse.ensures.value.0 in
    let same : c.in-Ok.count ≡ count = cc (parsed, c.in-Ok.is) in
    elim c.then-count-lt1.branch [
      | then-count-lt1-via-then-count-lt1 w ↦ absurd (omega (arith, same, is.least, w.if-count-lt1.true))
      | then-count-lt1-via-else-count-lt1+then-count-gt-MOST_REFERENCES w ↦ absurd (omega (arith, same, is.most, w.if-count-gt-MOST_REFERENCES.true))
      | then-count-lt1-via-else-count-lt1+else-count-gt-MOST_REFERENCES+then-not-is_decimal w ↦
          absurd (cc (w.is_decimal.ensures.1 (is.spelled ∙ ap decimal (sym same)), w.if-not-is_decimal.true))
    ]
