use Rattle.iri_grammar.proofs.Common.{◌≡◌, true, sym, subst, length, take, ◌∙◌, ◌-◌, arith, class_test, AreUnits, lacks}
use Rattle.std.proofs.Common.{rules}
use Rattle.iri_grammar.proofs.units.ClassLaws.{class_has_no_percent}
use Rattle.iri_grammar.proofs.units.UnitRuns.{char_units, char_lacks, prefix_of, prefix_text}
use Rattle.iri_grammar.proofs.units.FirstUnits.{char_stops, nothing_left}
use Rattle.iri_grammar.proofs.unit.char_len.Goals as goal

pub returns-then-has : goal.returns-then-has
returns-then-has g c =
    let p = class_test g.S.Spec.tests c.args.class in
    let t = c.args.s.now in
    let r = c.next.new.self.rest.now in
    let e = sym c.chars-chars.ensures.rest ∙ c.in-Some.ensures.steps.0 in
    let is = prefix_of c.in-Some.c t r e in
    let none = class_has_no_percent g.S.Spec.tests g.met.S.Spec.lawful c.args.class in
    let passes = sym c.has.ensures ∙ c.if-has.true in
    record {
      units = subst (λ l. AreUnits p t (length t - length l)) (sym c.as_str.ensures)
          (char_units p c.in-Some.c (length t - length r) t (prefix_text t r c.in-Some.c c.utf8.s e) (omega arith) is none passes);
      stops = search rules;
      bare = subst (λ l. lacks 37 (take (length t - length l) t) ≡ true) (sym c.as_str.ensures)
          (char_lacks p c.in-Some.c (length t - length r) t is none passes);
    }

pub returns-else-has-clause-stops : goal.returns-else-has-clause-stops
returns-else-has-clause-stops g c _ =
    let p = class_test g.S.Spec.tests c.args.class in
    let e = sym c.chars-chars.ensures.rest ∙ c.in-Some.ensures.steps.0 in
    char_stops p c.in-Some.c c.args.s.now c.next.new.self.rest.now c.utf8.s e c.requires
    (sym c.has.ensures ∙ c.if-has.false)

pub returns-in-None-clause-stops : goal.returns-in-None-clause-stops
returns-in-None-clause-stops g c _ = nothing_left (class_test g.S.Spec.tests c.args.class) c.args.s.now
    (omega (arith, c.in-None.ensures.steps.0.0, c.chars-chars.ensures.len))
