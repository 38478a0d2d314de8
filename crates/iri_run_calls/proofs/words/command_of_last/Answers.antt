use Rattle.std.proofs.Common.{◌∙◌, ◌∷◌, List, ℕ, None, Some, Option, ap, refl, subst, sym}
use Rattle.std.specs.Prelude.{MatchOption}
use Rattle.iri_cli.specs.run.Words.{IsCommand, word_of}
use Rattle.iri_cli.specs.declared.run.words.Command.{Command}
use Rattle.iri_grammar.specs.Cut.{before, after}
use Rattle.iri_grammar.specs.OptionalSlices.{now_of}
use Rattle.iri_grammar.specs.inside.PiecesLaws.{more_pieces}
use Rattle.iri_grammar.specs.Blanks.{space}
use Rattle.iri_run_calls.proofs.TextLemmas.{six_words, words_cut}
use Rattle.iri_run_calls.proofs.words.command_of_last.Goals as goal

abbrev Reads : Option Command → List (List ℕ) → Type 0
Reads command words = MatchOption command ((c : Command) → ¬ (IsCommand words c)) (IsCommand words)

pub returns-in_default-None : goal.returns-in_default-None
returns-in_default-None c =
    let last = words_cut c.args.rest.now c.cut.result.0.now None c.cut.ensures.before (sym (ap now_of c.in_default-None.is-1) ∙ c.cut.ensures.after) in
    subst (λ ws. Reads c.command_of_five.result (c.args.name.now ∷ word_of c.args.grammar ∷ c.args.third.now ∷ c.args.fourth.now ∷ ws)) (sym last)
    c.command_of_five.ensures

pub returns-in_default-Some : goal.returns-in_default-Some
returns-in_default-Some c =
    let rest = c.in_default-Some.field-0-1.now in
    let last = words_cut c.args.rest.now c.cut.result.0.now (Some rest) c.cut.ensures.before (sym (ap now_of c.in_default-Some.is-1) ∙ c.cut.ensures.after) in
    let sixth = words_cut rest (before space rest) (after space rest) refl refl in
    subst (λ ws. Reads None (c.args.name.now ∷ word_of c.args.grammar ∷ c.args.third.now ∷ c.args.fourth.now ∷ ws))
    (sym (last ∙ ap (λ ws. c.cut.result.0.now ∷ ws) sixth))
    (six_words c.args.name.now (word_of c.args.grammar) c.args.third.now c.args.fourth.now c.cut.result.0.now (before space rest)
    (more_pieces space (after space rest)))
