use Rattle.iri_template.proofs.Common.{◌≡◌, ℕ, true, List, ◌++◌, drop, length, sym, ◌∙◌, ap, subst, nil_from_length, arith, nat_tests}
use Rattle.iri_template.proofs.Common.{Tests, any_char, run_of, IsUtf8, encoded, Shows}
use Rattle.iri_grammar.specs.Classes.{IsSpec}
use Rattle.iri_grammar.specs.ClassTests.{ascii_test}
use Rattle.iri_grammar.specs.declared.class.Class.TheVariants.{Any}
use Rattle.iri_grammar.proofs.units.ClassLaws.{class_has_ascii}
use Rattle.iri_percent.proofs.coding.EncodedRuns.{past_ascii, encoded-none}
use Rattle.iri_template.proofs.encoded_value.put_reserved.Goals as goal

-- ASCII characters of references stay
stay : (s : Tests) → IsSpec s → (t : List ℕ) → IsUtf8 t → length (drop (run_of (ascii_test Any) t) t) ≡ 0 → t ≡ encoded (any_char s) t
stay s l t u h =
    let a = past_ascii (any_char s) (ascii_test Any) true (class_has_ascii s l Any) t u in
    let r = drop (run_of (ascii_test Any) t) t in
    a.is_run.split ∙ ap (λ x. a.run ++ x) (nil_from_length r h ∙ sym (encoded-none (any_char s) r h)) ∙ sym a.is_run.same

pub returns-then-is_empty : goal.returns-then-is_empty
returns-then-is_empty g c =
    let w = g.W.TextSink in
    let t = c.args.text.now in
    let none : length c.past_run.result.now ≡ 0 = grind (arith, nat_tests, c.is_empty.ensures, c.if-is_empty.true) in
    subst (λ x. Shows w.puts w.halts w.stops c.args.sink.now x c.put.new.self c.put.result)
    (stay g.S.Spec.tests g.met.S.Spec.lawful t c.utf8.text (ap length (sym c.past_run.ensures) ∙ none)) c.put.ensures
