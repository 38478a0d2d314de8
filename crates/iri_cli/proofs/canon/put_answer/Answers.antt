use Rattle.iri_cli.proofs.Common.{◌≡◌, ℕ, List, ◌≤◌, ◌+◌, ◌++◌, ◌∷◌, [], ◌∙◌, None, Some, true, false, ap, arith, length, refl, rules, sym}
use Rattle.iri_cli.proofs.Common.{codes, base_text, Tests, bytes_fault, reference_fault, ErrorKind, CanonMode, canonical_in, answer_in}
use Rattle.iri_cli.proofs.Common.{answer_by, good_answer, bad_answer}
use Rattle.iri_cli.proofs.CanonLemmas.{has_room, said_line, said_room}
use Rattle.iri_cli.proofs.PutLemmas.{puts_so}
use Rattle.iri_cli.proofs.canon.put_answer.Goals as goal

-- the answer to a line that is a reference, and to one that has a fault
answer_of_reference : (s : Tests) (m : CanonMode) (base reference line : List ℕ) → bytes_fault (reference_fault s) line ≡ None → reference ≡ line
    → good_answer (canonical_in s m base reference) ≡ answer_in s m base line
unfolding answer_in
answer_of_reference s m base reference line none is =
    ap (λ r. good_answer (canonical_in s m base r)) is ∙ ap (λ f. answer_by f (canonical_in s m base line)) (sym none)

answer_of_fault : (s : Tests) (m : CanonMode) (base line : List ℕ) (kind : ErrorKind) → bytes_fault (reference_fault s) line ≡ Some kind
    → bad_answer kind ≡ answer_in s m base line
unfolding answer_in
answer_of_fault s m base line kind some = ap (λ f. answer_by f (canonical_in s m base line)) (sym some)

pub put_good-requires : goal.put_good-requires
put_good-requires g c =
    let h = c.in-Ok.ensures in
    let base = base_text c.args.resolver.now in
    let room : length base + length c.args.line.now + 4 ≤ length c.deref_mut.result.now =
    omega (arith, c.room_for.ensures.room, c.len.ensures, ap length c.base.ensures, ap length c.deref_mut.ensures.value) in
    has_room g.S.Spec.tests c.args.mode base c.args.line.now _ _ g.met.S.Spec.lawful c.requires.base h.fault h.text room

pub returns-in-Ok : goal.returns-in-Ok
returns-in-Ok g c =
    let is = answer_of_reference g.S.Spec.tests c.args.mode (base_text c.args.resolver.now) _ _ c.in-Ok.ensures.fault c.in-Ok.ensures.text in
    record {
      puts = said_line true _ _ _ _ c.say_good.ensures refl is c.put_good.ensures;
      room = said_room true _ _ _ _ c.say_good.ensures is c.put_good.ensures;
      capacity = search rules;
    }

pub returns-in-Err : goal.returns-in-Err
returns-in-Err g c =
    let is = answer_of_fault g.S.Spec.tests c.args.mode (base_text c.args.resolver.now) _ c.kind.result
    (c.in-Err.ensures.fault ∙ ap Some (sym c.kind.ensures)) in
    let puts = puts_so (ap (λ t. codes "bad " ++ (t ++ 10 ∷ [])) c.description.ensures) c.put_bad.ensures in
    record {
      puts = said_line false _ _ _ _ c.say_good-in-Err.ensures refl is puts;
      room = said_room false _ _ _ _ c.say_good-in-Err.ensures is puts;
      capacity = search rules;
    }
