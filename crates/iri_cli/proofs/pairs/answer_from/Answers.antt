use Rattle.iri_cli.proofs.Common.{◌∙◌, ◌++◌, ◌∷◌, [], ap, arith, codes, false, length, refl, sym, take, Some}
use Rattle.iri_normal.specs.Pairs.{bad_line}
use Rattle.iri_cli.specs.inside.Paged.{line_answer}
use Rattle.iri_cli.proofs.CanonLemmas.{said_line, said_room}
use Rattle.iri_cli.proofs.GoingLemmas.{goes_within}
use Rattle.iri_cli.proofs.PairsLemmas.{answer_of_none, answer_on_held, has_answer, held_page, line_short, parts_short, refused_page}
use Rattle.iri_cli.proofs.PutLemmas.{puts_so}
use Rattle.iri_cli.proofs.pairs.answer_from.Goals as goal

pub hold-requires : goal.hold-requires
hold-requires g c =
    let short = line_short g.S.Spec.tests c.args.pairs.now.text c.requires.waits.0 _ _ _ c.requires.waits.1 in
    let parts = parts_short c.line.result.now _ _ c.in-Some.ensures.0 c.in-Some.ensures.1 in
    omega (arith, short, parts, c.requires.held, ap length c.line.ensures)

pub put_link-answer-requires-clause-base : goal.put_link-answer-requires-clause-base
put_link-answer-requires-clause-base g c =
    (held_page g.S.Spec.tests c.args.pairs.now.text c.line.result.now _ _ _ c.in-Some.ensures.0 (ap (take (length c.in-Some.pair.page.now)) c.deref.ensures.value ∙ c.hold.ensures.text) c.in-Ok.ensures.fault
    (c.of_split-resolver.ensures ∙ c.in-Ok.ensures.text)).taken

pub put_link-answer-requires-clause-room : goal.put_link-answer-requires-clause-room
put_link-answer-requires-clause-room g c =
    let short = line_short g.S.Spec.tests c.args.pairs.now.text c.requires.waits.0 _ _ _ c.requires.waits.1 in
    let parts = parts_short c.line.result.now _ _ c.in-Some.ensures.0 c.in-Some.ensures.1 in
    let page = c.of_split-resolver.ensures ∙ c.in-Ok.ensures.text ∙ ap (take (length c.in-Some.pair.page.now)) c.deref.ensures.value ∙ c.hold.ensures.text in
    omega (arith, short, parts, c.requires.output, ap length page, ap length c.line.ensures)

pub go_on-requires : goal.go_on-requires
go_on-requires g c =
    let s = g.S.Spec.tests in
    let m = c.args.pairs.now.text in
    let is = answer_on_held s m _ _ _ _ _ _ c.in-Some.ensures.0 c.in-Some.ensures.1 (ap (take (length c.in-Some.pair.page.now)) c.deref.ensures.value ∙ c.hold.ensures.text)
    c.in-Ok.ensures.fault (c.of_split-resolver.ensures ∙ c.in-Ok.ensures.text) c.line.ensures in (
      c.requires.waits.0,
      has_answer s m _ _ _ _ c.requires.waits.1 _ _ _ is c.put_link-answer.ensures.puts c.put_link-answer.ensures.room,
    )

pub answer_page-requires-clause-page : goal.answer_page-requires-clause-page
answer_page-requires-clause-page g c =
    held_page g.S.Spec.tests c.args.pairs.now.text c.line.result.now _ _ _ c.in-Some.ensures.0 (ap (take (length c.in-Some.pair.page.now)) c.deref.ensures.value ∙ c.hold.ensures.text) c.in-Ok.ensures.fault
    (c.of_split-resolver.ensures ∙ c.in-Ok.ensures.text)

pub answer_page-requires-clause-waits : goal.answer_page-requires-clause-waits
answer_page-requires-clause-waits g c =
    let s = g.S.Spec.tests in
    let m = c.args.pairs.now.text in
    let is = answer_on_held s m _ _ _ _ _ _ c.in-Some.ensures.0 c.in-Some.ensures.1 (ap (take (length c.in-Some.pair.page.now)) c.deref.ensures.value ∙ c.hold.ensures.text)
    c.in-Ok.ensures.fault (c.of_split-resolver.ensures ∙ c.in-Ok.ensures.text) c.line.ensures in
    let w = c.requires.waits in (
      w.0,
      (
        w.1.0,
        (c.in-None-go_on.ensures w.0
            (has_answer s m _ _ _ _ w.1 _ _ _ is c.put_link-answer.ensures.puts c.put_link-answer.ensures.room)).0,
      ),
    )

pub go_on-requires-in-Err : goal.go_on-requires-in-Err
go_on-requires-in-Err g c =
    let s = g.S.Spec.tests in
    let m = c.args.pairs.now.text in
    let fault = c.in-Err.ensures.fault ∙ ap Some (sym c.kind.ensures) in
    let is = refused_page s m _ _ _ _ _ _ c.in-Some.ensures.0 c.in-Some.ensures.1 (ap (take (length c.in-Some.pair.page.now)) c.deref.ensures.value ∙ c.hold.ensures.text) fault c.line.ensures in
    let put = puts_so (ap (λ t. codes "base " ++ (t ++ 10 ∷ [])) c.description.ensures) c.put_line.ensures in (
      c.requires.waits.0,
      has_answer s m _ _ _ _ c.requires.waits.1 _ _ (line_answer s m c.args.reader.now.line) refl
          (said_line false _ _ _ _ c.say_good-answer.ensures refl is put) (said_room false _ _ _ _ c.say_good-answer.ensures is put),
    )

pub go_on-requires-in-None : goal.go_on-requires-in-None
go_on-requires-in-None g c =
    let s = g.S.Spec.tests in
    let m = c.args.pairs.now.text in
    let is = answer_of_none s m _ c.in-None.ensures ∙ ap (line_answer s m) c.line.ensures in (
      c.requires.waits.0,
      has_answer s m _ _ _ _ c.requires.waits.1 _ _ bad_line is
          (said_line false _ bad_line bad_line _ c.say_good-answer-in-None.ensures refl refl c.put_bad_line.ensures)
          (said_room false _ bad_line bad_line _ c.say_good-answer-in-None.ensures refl c.put_bad_line.ensures),
    )

pub returns-in-Some-go_on-clause-goes : goal.returns-in-Some-go_on-clause-goes
returns-in-Some-go_on-clause-goes g c = λ b w.
    let s = g.S.Spec.tests in
    let m = c.args.pairs.now.text in
    let is = answer_on_held s m _ _ _ _ _ _ c.in-Some.ensures.0 c.in-Some.ensures.1 (ap (take (length c.in-Some.pair.page.now)) c.deref.ensures.value ∙ c.hold.ensures.text)
    c.in-Ok.ensures.fault (c.of_split-resolver.ensures ∙ c.in-Ok.ensures.text) c.line.ensures in
    c.in-Some-go_on.ensures b (has_answer s m _ _ _ _ w _ _ _ is c.put_link-answer.ensures.puts c.put_link-answer.ensures.room)

pub returns-in-None-go_on-clause-goes : goal.returns-in-None-go_on-clause-goes
returns-in-None-go_on-clause-goes g c = λ b w.
    let s = g.S.Spec.tests in
    let m = c.args.pairs.now.text in
    let is = answer_on_held s m _ _ _ _ _ _ c.in-Some.ensures.0 c.in-Some.ensures.1 (ap (take (length c.in-Some.pair.page.now)) c.deref.ensures.value ∙ c.hold.ensures.text)
    c.in-Ok.ensures.fault (c.of_split-resolver.ensures ∙ c.in-Ok.ensures.text) c.line.ensures in
    let next = c.in-None-go_on.ensures b (has_answer s m _ _ _ _ w _ _ _ is c.put_link-answer.ensures.puts c.put_link-answer.ensures.room) in
    goes_within b _ _ _ _ _ c.answer_page.result (omega (arith, next.1)) (c.answer_page.ensures.goes b (w.0, next.0))

pub returns-in-Err-clause-goes : goal.returns-in-Err-clause-goes
returns-in-Err-clause-goes g c = λ b w.
    let s = g.S.Spec.tests in
    let m = c.args.pairs.now.text in
    let fault = c.in-Err.ensures.fault ∙ ap Some (sym c.kind.ensures) in
    let is = refused_page s m _ _ _ _ _ _ c.in-Some.ensures.0 c.in-Some.ensures.1 (ap (take (length c.in-Some.pair.page.now)) c.deref.ensures.value ∙ c.hold.ensures.text) fault c.line.ensures in
    let put = puts_so (ap (λ t. codes "base " ++ (t ++ 10 ∷ [])) c.description.ensures) c.put_line.ensures in
    c.go_on-in-Err.ensures b (has_answer s m _ _ _ _ w _ _ (line_answer s m c.args.reader.now.line) refl
    (said_line false _ _ _ _ c.say_good-answer.ensures refl is put) (said_room false _ _ _ _ c.say_good-answer.ensures is put))

pub returns-in-None-clause-goes : goal.returns-in-None-clause-goes
returns-in-None-clause-goes g c = λ b w.
    let s = g.S.Spec.tests in
    let m = c.args.pairs.now.text in
    let is = answer_of_none s m _ c.in-None.ensures ∙ ap (line_answer s m) c.line.ensures in
    c.go_on-in-None.ensures b (has_answer s m _ _ _ _ w _ _ bad_line is
    (said_line false _ bad_line bad_line _ c.say_good-answer-in-None.ensures refl refl c.put_bad_line.ensures)
    (said_room false _ bad_line bad_line _ c.say_good-answer-in-None.ensures refl c.put_bad_line.ensures))
