use Rattle.iri_cli.proofs.Common.{◌∙◌, Some, true, false, ap, arith, length, rules, sym, base_text, split_text, split_of, canonical_in}
use Rattle.iri_grammar.specs.ErrorTexts.{description}
use Rattle.iri_cli.specs.parts.Rules.{is_taken_apart}
use Rattle.iri_cli.specs.parts.Object.{bad_text}
use Rattle.iri_cli.proofs.CanonLemmas.{said_by, said_room}
use Rattle.iri_cli.proofs.PartsLemmas.{answer_of_fault, answer_of_reference, bad_by_words, good_by_text}
use Rattle.iri_cli.proofs.PutLemmas.{puts_so}
use Rattle.iri_cli.proofs.parts.put_answer.Goals as goal

pub put_good-requires : goal.put_good-requires
put_good-requires g c =
    omega (arith, c.requires, ap length c.in-Ok.ensures.text, c.room_for.ensures.room, c.len.ensures, ap length c.base.ensures, ap length c.deref_mut.ensures.value)

pub returns-in-Ok : goal.returns-in-Ok
returns-in-Ok g c =
    let s = g.S.Spec.tests in
    let m = c.args.mode in
    let b = base_text c.args.resolver.now in
    let r = split_text c.in-Ok.reference in
    let is = answer_of_reference s m b r c.args.line.now c.in-Ok.ensures.fault c.in-Ok.ensures.text in
    record {
      puts = said_by is_taken_apart true _ _ _ _ c.say_good.ensures (good_by_text (canonical_in s m b r) (split_of (canonical_in s m b r))) is c.put_good.ensures;
      room = said_room true _ _ _ _ c.say_good.ensures is c.put_good.ensures;
      capacity = search rules;
    }

pub returns-in-Err : goal.returns-in-Err
returns-in-Err g c =
    let is = answer_of_fault g.S.Spec.tests c.args.mode (base_text c.args.resolver.now) _ c.kind.result
    (c.in-Err.ensures.fault ∙ ap Some (sym c.kind.ensures)) in
    let puts = puts_so (ap bad_text c.description.ensures) c.put_bad_object.ensures in
    record {
      puts = said_by is_taken_apart false _ _ _ _ c.say_good-in-Err.ensures (bad_by_words (description c.kind.result)) is puts;
      room = said_room false _ _ _ _ c.say_good-in-Err.ensures is puts;
      capacity = search rules;
    }
