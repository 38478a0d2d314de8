use Rattle.std.proofs.Common.{◌∙◌, ◌∷◌, List, ℕ, None, Some, Option, ap, subst, sym}
use Rattle.std.specs.Prelude.{MatchOption}
use Rattle.iri_cli.specs.run.Words.{IsCommand, word_of}
use Rattle.iri_cli.specs.declared.run.words.Command.{Command}
use Rattle.iri_grammar.specs.OptionalSlices.{now_of}
use Rattle.iri_run_calls.proofs.TextLemmas.{words_cut}
use Rattle.iri_run_calls.proofs.words.command_after.Goals as goal

abbrev Reads : Option Command → List (List ℕ) → Type 0
Reads command words = MatchOption command ((c : Command) → ¬ (IsCommand words c)) (IsCommand words)

pub returns-in_default : goal.returns-in_default
returns-in_default c =
    let words = words_cut c.args.rest.now c.cut.result.0.now None c.cut.ensures.before (sym (ap now_of c.in_default.is) ∙ c.cut.ensures.after) in
    subst (λ ws. Reads c.command_of_three.result (c.args.name.now ∷ word_of c.args.grammar ∷ ws)) (sym words) c.command_of_three.ensures

pub returns-in_default-more : goal.returns-in_default-more
returns-in_default-more c =
    let words = words_cut c.args.rest.now c.cut.result.0.now (Some c.in-Some.after.now) c.cut.ensures.before
    (sym (ap now_of c.in-Some.is) ∙ c.cut.ensures.after) in
    let last = words_cut c.in-Some.after.now c.cut-2.result.0.now None c.cut-2.ensures.before
    (sym (ap now_of c.in_default-more.is) ∙ c.cut-2.ensures.after) in
    subst (λ ws. Reads c.command_of_four.result (c.args.name.now ∷ word_of c.args.grammar ∷ ws))
    (sym (words ∙ ap (λ ws. c.cut.result.0.now ∷ ws) last)) c.command_of_four.ensures

pub returns : goal.returns
returns c =
    let words = words_cut c.args.rest.now c.cut.result.0.now (Some c.in-Some.after.now) c.cut.ensures.before
    (sym (ap now_of c.in-Some.is) ∙ c.cut.ensures.after) in
    let more = words_cut c.in-Some.after.now c.cut-2.result.0.now (Some c.in-Some-more.more.now) c.cut-2.ensures.before
    (sym (ap now_of c.in-Some-more.is) ∙ c.cut-2.ensures.after) in
    subst (λ ws. Reads c.command_of_last.result (c.args.name.now ∷ word_of c.args.grammar ∷ ws))
    (sym (words ∙ ap (λ ws. c.cut.result.0.now ∷ ws) more)) c.command_of_last.ensures
