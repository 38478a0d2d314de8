use Rattle.iri_robots.proofs.Common.{◌≡◌, ap, sym, ◌∙◌, arith, compared}
use Rattle.std.proofs.Common.{slice_index}
use Rattle.iri_robots.proofs.Forms.{compared_plain}
use Rattle.iri_robots.proofs.Parts.{none_left}
use Rattle.iri_robots.proofs.SubjectLemmas.{begins_slash, plain_before, plain_until}
use Rattle.iri_robots.proofs.subject.subject_in.Goals as goal

pub returns-then-is_empty-2 : goal.returns-then-is_empty-2
returns-then-is_empty-2 c =
    let text = c.args.text.now in
    let none = sym c.past_run-rest.ensures ∙ none_left c.past_run-rest.result.now (sym c.is_empty-2.ensures ∙ c.if-is_empty-2.true) in
    let first : slice_index c.as_bytes.result.now 0 ≡ 47 = omega (arith, c.if-as_bytes-ne47.false) in (
      begins_slash text (sym c.is_empty.ensures ∙ c.if-is_empty.false) (ap (λ t. slice_index t 0) (sym c.as_bytes.ensures.value) ∙ first),
      sym (compared_plain text none) ∙ ap compared (sym (plain_before text none)),
    )

pub returns : goal.returns
returns c =
    let text = c.args.text.now in
    let first : slice_index c.as_bytes.result.now 0 ≡ 47 = omega (arith, c.if-as_bytes-ne47.false) in
    let hash : slice_index c.as_bytes-2.result.now 0 ≡ 35 = omega (arith, c.if-as_bytes-ne35.false) in
    let plain = plain_until text (ap (λ t. slice_index t 0) (sym (c.as_bytes-2.ensures.value ∙ c.past_run-rest.ensures)) ∙ hash) in (
      begins_slash text (sym c.is_empty.ensures ∙ c.if-is_empty.false) (ap (λ t. slice_index t 0) (sym c.as_bytes.ensures.value) ∙ first),
      c.cut_before.ensures.before ∙ sym (compared_plain _ plain),
    )
