-- What is done for the command of words, or for none, keeps the contract of a run.
use Rattle.std.proofs.Common.{◌≢◌, ◌≤◌, ◌<◌, ◌-◌, ℕ, List, [], ◌∷◌, Option, None, Some, length, arith, refl, inl, inr}
use Rattle.std.specs.Prelude.{MatchOption}
use Rattle.iri_text.specs.Sink.{KeepsRoom}
use Rattle.iri_text.specs.SliceText.{over_start}
use Rattle.iri_cli.specs.help.Notices.{Tells, notice_text}
use Rattle.iri_cli.specs.inside.Obeyed.{Obeys}
use Rattle.iri_cli.specs.run.Run.{Outside, outside}
use Rattle.iri_cli.specs.run.Words.{IsCommand, notice_word, tests_of}
use Rattle.iri_cli.specs.declared.help.Notice.{Notice}
use Rattle.iri_cli.specs.declared.run.words.Command.{Command}
use Rattle.iri_cli.specs.declared.run.words.Command.TheVariants.{Lines, Gen, Tell}
use Rattle.iri_cli.proofs.BytesLemmas.{canonical_answers, grammar_is_spec}
use Rattle.iri_cli.proofs.LinksLemmas.{lax_answers_are_links}
use Rattle.iri_cli.proofs.PairsLemmas.{answers_are_of_canon, answers_are_of_canon_uris}
use Rattle.iri_cli.proofs.PartsLemmas.{answers_are_taken_apart}
use Rattle.iri_cli.proofs.ToUriLemmas.{answers_are_canonical_uris}
use Rattle.iri_cli.proofs.ToolLaws.{answers_are_expansions, answers_are_links, answers_are_verdicts, live_lines_share_entries}
use Rattle.iri_cli.proofs.WordLemmas.{obeyed, unknown}
use Rattle.iri_run_calls.specs.Runs.{RunsWords, RanOrMemory, begun}

runs_words : (words : List (List ℕ)) (old new : Outside) (status : ℕ) (command : Option Command)
    → MatchOption command ((c : Command) → ¬ (IsCommand words c)) (IsCommand words)
    → Obeys command old new status → RunsWords words old new status
runs_words words old new status command is done =
    let for = obeyed words old new status command is done in
    record {
      no_command = unknown words old new status command is done;
      tells = λ notice. for (Tell notice);
      lines = λ command mode grammar. for (Lines command mode grammar);
      gens = λ grammar count. for (Gen grammar count);
      canonical = λ mode grammar _ base line taken none. canonical_answers (tests_of grammar) mode (grammar_is_spec grammar) base line taken none;
      canonical_uris = λ mode grammar _. answers_are_canonical_uris (tests_of grammar) mode (grammar_is_spec grammar);
      parts = λ mode grammar _. answers_are_taken_apart (tests_of grammar) mode (grammar_is_spec grammar);
      register = λ mode grammar _. live_lines_share_entries (tests_of grammar) mode (grammar_is_spec grammar);
      links = λ mode grammar _. answers_are_links (tests_of grammar) mode (grammar_is_spec grammar);
      lax = λ mode grammar _. lax_answers_are_links (tests_of grammar) mode;
      docs = λ mode grammar _ base line. answers_are_expansions (tests_of grammar) mode base line;
      robots = λ mode grammar token _. answers_are_verdicts (tests_of grammar) mode token;
      pairs = λ mode grammar _. answers_are_of_canon (tests_of grammar) mode (grammar_is_spec grammar);
      pair_uris = λ mode grammar _. answers_are_of_canon_uris (tests_of grammar) mode (grammar_is_spec grammar);
    }

-- words that are no command
pub no_command : (words : List (List ℕ)) (input old : List ℕ) → ((c : Command) → ¬ (IsCommand words c)) → RanOrMemory words input old old 0 2
no_command words input old none =
    let start = begun input (length old) in
    inl (record {
      end = start;
      output = [];
      written = refl;
      runs = runs_words words start start 2 None none (refl, refl);
      out = refl;
      len = refl;
      within = omega arith;
      source = refl;
    })

module _ (notice : Notice) (input old : List ℕ) where
  abbrev words : List (List ℕ)
  words = notice_word notice ∷ []

  abbrev text : List ℕ
  text = notice_text notice

  abbrev start : Outside
  start = begun input (length old)

  abbrev written : Outside
  written = outside (Some input) 0 (record { written = Some text; faults = 0; room_left = Some (length old - length text) })

  abbrev failed : Outside
  failed = outside (Some input) 0 (record { written = Some []; faults = 1; room_left = Some (length old) })

  -- a notice that has room
  pub notice_fits : length text ≤ length old → RanOrMemory words input old (over_start text old) (length text) 0
  notice_fits fits =
      let room : KeepsRoom (Some (length old)) (Some (length old - length text)) text (0 ≢ 5) =
      record { holds = λ _ e. cc e; left = λ more h. omega (arith, h) } in
      let tells : Tells text start written 0 = (inl (refl, refl, refl), refl, refl, room) in
      inl (record {
        end = written;
        output = text;
        written = refl;
        runs = runs_words words start written 0 (Some (Tell notice)) refl tells;
        out = refl;
        len = refl;
        within = fits;
        source = refl;
      })

  -- one that has none
  pub notice_refused : length old < length text → RanOrMemory words input old old 0 5
  notice_refused long =
      let room : KeepsRoom (Some (length old)) (Some (length old)) text (5 ≢ 5) =
      record { holds = λ h. absurd (omega (arith, h, long)); left = λ more h. omega (arith, h) } in
      let tells : Tells text start failed 5 =
      (inr (refl, (record { prefix = []; rest = text; split = refl; appended = refl }), omega arith, omega arith), refl, refl, room) in
      inl (record {
        end = failed;
        output = [];
        written = refl;
        runs = runs_words words start failed 5 (Some (Tell notice)) refl tells;
        out = refl;
        len = refl;
        within = omega arith;
        source = refl;
      })
