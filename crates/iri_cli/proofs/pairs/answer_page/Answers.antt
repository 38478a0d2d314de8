use Rattle.iri_cli.proofs.Common.{◌∙◌, ◌++◌, ◌∷◌, ap, arith, refl, sym}
use Rattle.iri_normal.specs.Pairs.{tab}
use Rattle.iri_cli.proofs.PairsLemmas.{answer_on_page, has_answer, line_short, link_fits}
use Rattle.iri_cli.proofs.pairs.answer_page.Goals as goal

pub links-init : goal.links-init
links-init g c = (record { waits = λ b w. w; less = omega arith }, refl, c.requires.output)

pub put_link-answer-requires-clause-room : goal.put_link-answer-requires-clause-room
put_link-answer-requires-clause-room g c =
    let s = g.S.Spec.tests in
    let m = c.args.pairs.now.text in
    let i = c.links.invariant in
    let w = i.0.waits c.requires.waits.0 c.requires.waits.1 in
    let is = sym c.line.ensures ∙ c.in-Some.ensures ∙ ap (λ p. p ++ tab ∷ c.in-Some.link.now) (c.as_str-page.ensures.text ∙ c.base.ensures) in
    omega (arith, link_fits s m _ _ _ is (line_short s m _ _ _ _ w), i.2)

pub go_on-requires : goal.go_on-requires
go_on-requires g c =
    let s = g.S.Spec.tests in
    let m = c.args.pairs.now.text in
    let i = c.links.invariant in
    let w = i.0.waits c.requires.waits.0 c.requires.waits.1 in
    let is = sym c.line.ensures ∙ c.in-Some.ensures ∙ ap (λ p. p ++ tab ∷ c.in-Some.link.now) (c.as_str-page.ensures.text ∙ c.base.ensures) in (
      c.requires.waits.0,
      has_answer s m _ _ _ _ w _ _ _ (answer_on_page s m _ _ _ c.requires.page is) c.put_link-answer.ensures.puts c.put_link-answer.ensures.room,
    )

pub links-preserved : goal.links-preserved
links-preserved g c =
    let s = g.S.Spec.tests in
    let m = c.args.pairs.now.text in
    let i = c.links.invariant in
    let is = sym c.line.ensures ∙ c.in-Some.ensures ∙ ap (λ p. p ++ tab ∷ c.in-Some.link.now) (c.as_str-page.ensures.text ∙ c.base.ensures) in
    let answer = answer_on_page s m _ _ _ c.requires.page is in
    let first = c.in-None.ensures c.requires.waits.0 (has_answer s m _ _ _ _ (i.0.waits c.requires.waits.0 c.requires.waits.1) _ _ _ answer
    c.put_link-answer.ensures.puts c.put_link-answer.ensures.room) in (
      record {
        waits = λ b w. (
          w.0,
          (c.in-None.ensures b (has_answer s m _ _ _ _ (i.0.waits b w) _ _ _ answer
              c.put_link-answer.ensures.puts c.put_link-answer.ensures.room)).0,
        );
        less = omega (arith, i.0.less, first.1);
      },
      i.1,
      omega (arith, i.2, c.put_link-answer.ensures.capacity),
    )

pub links-smaller : goal.links-smaller
links-smaller g c =
    let s = g.S.Spec.tests in
    let m = c.args.pairs.now.text in
    let w = c.links.invariant.0.waits c.requires.waits.0 c.requires.waits.1 in
    let is = sym c.line.ensures ∙ c.in-Some.ensures ∙ ap (λ p. p ++ tab ∷ c.in-Some.link.now) (c.as_str-page.ensures.text ∙ c.base.ensures) in
    (c.in-None.ensures c.requires.waits.0 (has_answer s m _ _ _ _ w _ _ _ (answer_on_page s m _ _ _ c.requires.page is)
    c.put_link-answer.ensures.puts c.put_link-answer.ensures.room)).1

pub returns-in-Some-go_on-clause-goes : goal.returns-in-Some-go_on-clause-goes
returns-in-Some-go_on-clause-goes g c = λ b w.
    let s = g.S.Spec.tests in
    let m = c.args.pairs.now.text in
    let is = sym c.line.ensures ∙ c.in-Some.ensures ∙ ap (λ p. p ++ tab ∷ c.in-Some.link.now) (c.as_str-page.ensures.text ∙ c.base.ensures) in
    c.in-Some-go_on.ensures b (has_answer s m _ _ _ _ (c.links.invariant.0.waits b w) _ _ _ (answer_on_page s m _ _ _ c.requires.page is)
    c.put_link-answer.ensures.puts c.put_link-answer.ensures.room)
