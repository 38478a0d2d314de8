use Rattle.std.proofs.Common.{◌∙◌, [], ◌∷◌, List, ℕ, None, Some, Option, ap, subst, sym}
use Rattle.std.specs.Prelude.{MatchOption}
use Rattle.iri_cli.specs.run.Words.{IsCommand}
use Rattle.iri_cli.specs.declared.run.words.Command.{Command}
use Rattle.iri_grammar.specs.OptionalSlices.{now_of}
use Rattle.iri_grammar.specs.Pieces.{pieces}
use Rattle.iri_grammar.specs.inside.PiecesLaws.{more_pieces}
use Rattle.iri_grammar.specs.Blanks.{space}
use Rattle.iri_run_calls.proofs.TextLemmas.{no_grammar, words_cut}
use Rattle.iri_run_calls.proofs.words.command_in.Goals as goal

abbrev Reads : Option Command → List (List ℕ) → Type 0
Reads command words = MatchOption command ((c : Command) → ¬ (IsCommand words c)) (IsCommand words)

pub returns-in_default : goal.returns-in_default
returns-in_default c =
    let words = words_cut c.args.text.now c.cut.result.0.now None c.cut.ensures.before (sym (ap now_of c.in_default.is) ∙ c.cut.ensures.after) in
    subst (Reads c.command_of_one.result) (sym words) c.command_of_one.ensures

pub returns-in_default-grammar_of : goal.returns-in_default-grammar_of
returns-in_default-grammar_of c =
    let words = words_cut c.args.text.now c.cut.result.0.now (Some c.in-Some.after.now) c.cut.ensures.before
    (sym (ap now_of c.in-Some.is) ∙ c.cut.ensures.after) in
    let more = words_cut c.in-Some.after.now c.cut-2.result.0.now (now_of c.cut-2.result.1) c.cut-2.ensures.before c.cut-2.ensures.after in
    subst (Reads None) (sym (words ∙ ap (λ ws. c.cut.result.0.now ∷ ws) more))
    (no_grammar c.cut.result.0.now c.cut-2.result.0.now (more_pieces space (now_of c.cut-2.result.1)) c.in_default-grammar_of.ensures)

pub returns-in_default-after : goal.returns-in_default-after
returns-in_default-after c =
    let words = words_cut c.args.text.now c.cut.result.0.now (Some c.in-Some.after.now) c.cut.ensures.before
    (sym (ap now_of c.in-Some.is) ∙ c.cut.ensures.after) in
    let more = words_cut c.in-Some.after.now c.cut-2.result.0.now None c.cut-2.ensures.before
    (sym (ap now_of c.in_default-after.is) ∙ c.cut-2.ensures.after) in
    subst (Reads c.command_of_two.result) (sym (words ∙ ap (λ ws. c.cut.result.0.now ∷ ws) more
    ∙ ap (λ w. c.cut.result.0.now ∷ w ∷ []) c.in-Some-grammar_of.ensures)) c.command_of_two.ensures

pub returns : goal.returns
returns c =
    let words = words_cut c.args.text.now c.cut.result.0.now (Some c.in-Some.after.now) c.cut.ensures.before
    (sym (ap now_of c.in-Some.is) ∙ c.cut.ensures.after) in
    let rest = c.in-Some-after.after.now in
    let more = words_cut c.in-Some.after.now c.cut-2.result.0.now (Some rest) c.cut-2.ensures.before
    (sym (ap now_of c.in-Some-after.is) ∙ c.cut-2.ensures.after) in
    subst (Reads c.command_after.result) (sym (words ∙ ap (λ ws. c.cut.result.0.now ∷ ws) more
    ∙ ap (λ w. c.cut.result.0.now ∷ w ∷ pieces space rest) c.in-Some-grammar_of.ensures)) c.command_after.ensures
