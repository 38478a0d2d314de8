use Rattle.iri_cli.proofs.Common.{sink_state, ◌≡◌, ◌∙◌, ℕ, List, None, false, refl, rules, subst, ap, Tests, CanonMode, is_ok, base_text}
use Rattle.iri_cli.proofs.Common.{value_in, expansion, pieces_of, PutsAnswer, expansion_answer, template_answer, Values}
use Rattle.iri_docs.specs.Expanded.{within_limit}
use Rattle.iri_template.specs.TypeFaults.{expansion_fault}
use Rattle.iri_cli.proofs.CanonLemmas.{said_line, said_room}
use Rattle.iri_cli.proofs.PutLemmas.{room_text}
use Rattle.iri_cli.proofs.ExpandLemmas.{template_expanded, template_refused}
use Rattle.iri_cli.proofs.expand.put_template.Goals as goal

-- the answer to the expansion of a text with values is that to the template
expanded_is : (s : Tests) (mode : CanonMode) (base : List ℕ) (values held : Values) (t shown : List ℕ) → expansion_fault values t ≡ None → held ≡ values → shown ≡ t
    → expansion_answer s mode base (within_limit (expansion s held (pieces_of shown))) ≡ template_answer s mode base values t
expanded_is s mode base values held t shown none held_is shown_is =
    ap (λ v. expansion_answer s mode base (within_limit (expansion s v (pieces_of shown)))) held_is
    ∙ ap (λ x. expansion_answer s mode base (within_limit (expansion s values (pieces_of x)))) shown_is ∙ template_expanded s mode base values t none

pub returns-in-Ok : goal.returns-in-Ok
returns-in-Ok g c =
    let state = sink_state g.O.Sink.written g.O.Sink.faults g.O.Sink.room_left in
    let e = c.in-Ok.ensures in
    let is = expanded_is g.S.Spec.tests c.args.mode (base_text c.args.resolver.now) (value_in c.args.values.now) _ c.args.template.now _ e.fault
    (ap value_in e.expanded.1) e.expanded.0 in
    record {
      puts = subst (λ t. PutsAnswer is_ok (state c.args.sink.now) (state c.put_expansion.new.sink) false t c.put_expansion.result) is c.put_expansion.ensures.puts;
      room = room_text is c.put_expansion.ensures.room;
      capacity = search rules;
    }

pub returns-in-Err : goal.returns-in-Err
returns-in-Err g c =
    let is = template_refused g.S.Spec.tests c.args.mode (base_text c.args.resolver.now) (value_in c.args.values.now) c.args.template.now c.in-Err.error
    c.in-Err.ensures.fault in
    record {
      puts = said_line false _ _ _ _ c.say_good.ensures refl is c.put_refusal.ensures;
      room = said_room false _ _ _ _ c.say_good.ensures is c.put_refusal.ensures;
      capacity = search rules;
    }
