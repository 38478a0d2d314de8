use Rattle.iri_cli.proofs.Common.{sink_state, ◌≡◌, ◌<◌, ◌≤◌, ◌∙◌, ℕ, true, false, refl, arith, rules, subst, ap, length, is_ok}
use Rattle.iri_cli.proofs.Common.{base_text, value_in, expansion_limit, answer_in, PutsAnswer}
use Rattle.iri_template.specs.ExpandedTexts.{expanded_text}
use Rattle.iri_cli.proofs.CanonLemmas.{said_line, said_room}
use Rattle.iri_cli.proofs.PutLemmas.{room_text}
use Rattle.iri_cli.proofs.ExpandLemmas.{long_answer, short_answer}
use Rattle.iri_cli.proofs.expand.put_expansion.Goals as goal

within : (room len limit : ℕ) → (room < len → false ≡ true) → room ≡ limit → len ≤ limit
within room len limit h e = let none : ¬ (room < len) = λ less. let x = h less in cc in omega (arith, none, e)

pub put_answer-requires-clause-room : goal.put_answer-requires-clause-room
put_answer-requires-clause-room g c =
    let short = within _ _ expansion_limit (c.in-Ok.ensures.exact.1) c.requires.room in
    omega (arith, short, c.requires.short, c.requires.output_room, ap length c.as_bytes.ensures.value, ap length c.in-Ok.ensures.text)

pub returns-in-Ok : goal.returns-in-Ok
returns-in-Ok g c =
    let state = sink_state g.O.Sink.written g.O.Sink.faults g.O.Sink.room_left in
    let s = g.S.Spec.tests in
    let base = base_text c.args.resolver.now in
    let is = ap (answer_in s c.args.mode base) (c.as_bytes.ensures.value ∙ c.in-Ok.ensures.text)
    ∙ short_answer s c.args.mode base (expanded_text s value_in c.args.expanded.now) (within _ _ expansion_limit (c.in-Ok.ensures.exact.1) c.requires.room) in
    record {
      puts = subst (λ t. PutsAnswer is_ok (state c.args.sink.now) (state c.put_answer.new.sink) false t c.put_answer.result) is c.put_answer.ensures.puts;
      room = room_text is c.put_answer.ensures.room;
      capacity = search rules;
    }

pub returns-in-Err : goal.returns-in-Err
returns-in-Err g c =
    let long = (c.in-Err.ensures {u = tt}).exact.0 refl in
    let is = long_answer g.S.Spec.tests c.args.mode (base_text c.args.resolver.now) (expanded_text g.S.Spec.tests value_in c.args.expanded.now)
    (omega (arith, long, c.requires.room)) in
    record {
      puts = said_line false _ _ _ _ c.say_good.ensures refl is c.put_all.ensures;
      room = said_room false _ _ _ _ c.say_good.ensures is c.put_all.ensures;
      capacity = search rules;
    }
