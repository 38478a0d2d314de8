-- What a run over memory comes to.
use Rattle.std.specs.Str.{IsUtf8}
use Rattle.iri_grammar.specs.Blanks.{space}
use Rattle.iri_grammar.specs.Pieces.{pieces}
use Rattle.std.specs.Prelude.{◌≡◌, ◌⊎◌, ◌≤◌, ℕ, length, codes, List, [], ◌∷◌, Some}
use Rattle.iri_percent.specs.declared.canon_mode.CanonMode.{CanonMode}
use Rattle.iri_text.specs.SliceText.{over_start}
use Rattle.iri_cli.specs.canon.Answers.{AnswersAreCanonicalIn}
use Rattle.iri_cli.specs.docs.Expansions.{AnswersAreExpansions}
use Rattle.iri_cli.specs.generator.References.{gen_text}
use Rattle.iri_cli.specs.help.Notices.{MakesText, Tells, notice_text}
use Rattle.iri_cli.specs.links.FieldValues.{AnswersAreLinks, LaxAnswersAreLinks}
use Rattle.iri_cli.specs.pairs.OfCanon.{AnswersAreOfCanon, AnswersAreOfCanonUris}
use Rattle.iri_cli.specs.parts.Answers.{AnswersAreTakenApart}
use Rattle.iri_cli.specs.register.Shared.{LiveLinesShareEntries}
use Rattle.iri_cli.specs.robots.Verdicts.{AnswersAreVerdicts}
use Rattle.iri_cli.specs.to_uri.Answers.{AnswersAreCanonicalUris}
use Rattle.iri_cli.specs.run.Run.{Outside, outside, RunsLines}
use Rattle.iri_cli.specs.run.Words.{IsCommand, mode_words, rules_of, tests_of, word_of}
use Rattle.iri_cli.specs.declared.run.words.Command.{Command}
use Rattle.iri_cli.specs.declared.run.words.Command.TheVariants.{Lines, Gen, Tell}
use Rattle.iri_cli.specs.declared.run.words.Grammar.{Grammar}
use Rattle.iri_cli.specs.declared.run.words.LineCommand.{LineCommand}
use Rattle.iri_cli.specs.declared.run.words.LineCommand.TheVariants.{Canon, ToUri, Parts, Register, Links, LaxLinks, Docs, Pairs, PairsToUri}
use Rattle.iri_cli.specs.declared.help.Notice.{Notice}

-- The contract of the program's `run`.
pub record RunsWords (words : List (List ℕ)) (old new : Outside) (status : ℕ) : Type 0 where
  pub no_command : ((command : Command) → ¬ (IsCommand words command)) → (status ≡ 2) × (new ≡ old)
  pub tells : (notice : Notice) → IsCommand words (Tell notice) → Tells (notice_text notice) old new status
  pub lines : (command : LineCommand) (mode : CanonMode) (grammar : Grammar) → IsCommand words (Lines command mode grammar)
      → RunsLines (rules_of command (tests_of grammar) mode) old new status
  pub gens : (grammar : Grammar) (count : ℕ) → IsCommand words (Gen grammar count)
      → MakesText (gen_text (tests_of grammar) count) old new status
  pub canonical : (mode : CanonMode) (grammar : Grammar) → IsCommand words (Lines Canon mode grammar)
      → AnswersAreCanonicalIn (tests_of grammar) mode
  pub canonical_uris : (mode : CanonMode) (grammar : Grammar) → IsCommand words (Lines ToUri mode grammar)
      → AnswersAreCanonicalUris (tests_of grammar) mode
  pub parts : (mode : CanonMode) (grammar : Grammar) → IsCommand words (Lines Parts mode grammar)
      → AnswersAreTakenApart (tests_of grammar) mode
  pub register : (mode : CanonMode) (grammar : Grammar) → IsCommand words (Lines Register mode grammar)
      → LiveLinesShareEntries (tests_of grammar) mode
  pub links : (mode : CanonMode) (grammar : Grammar) → IsCommand words (Lines Links mode grammar) → AnswersAreLinks (tests_of grammar) mode
  pub lax : (mode : CanonMode) (grammar : Grammar) → IsCommand words (Lines LaxLinks mode grammar)
      → LaxAnswersAreLinks (tests_of grammar) mode
  pub docs : (mode : CanonMode) (grammar : Grammar) → IsCommand words (Lines Docs mode grammar) → AnswersAreExpansions (tests_of grammar) mode
  pub robots : (mode : CanonMode) (grammar : Grammar) (token : List ℕ) → words ≡ codes "robots" ∷ word_of grammar ∷ token ∷ mode_words mode
      → AnswersAreVerdicts (tests_of grammar) mode token
  pub pairs : (mode : CanonMode) (grammar : Grammar) → IsCommand words (Lines Pairs mode grammar)
      → AnswersAreOfCanon (tests_of grammar) mode
  pub pair_uris : (mode : CanonMode) (grammar : Grammar) → IsCommand words (Lines PairsToUri mode grammar)
      → AnswersAreOfCanonUris (tests_of grammar) mode

-- The words are a command over lines, or `gen`.
abbrev pub TakesMemory : List (List ℕ) → Type 0
TakesMemory words =
    ((command : LineCommand) × (mode : CanonMode) × (grammar : Grammar) × IsCommand words (Lines command mode grammar))
    ⊎ ((grammar : Grammar) × (count : ℕ) × IsCommand words (Gen grammar count))

-- nothing was read or written, and there is so much room
abbrev pub begun : List ℕ → ℕ → Outside
begun input room = outside (Some input) 0 (record { written = Some []; faults = 0; room_left = Some room })

-- The output fits the buffer, and stands over its start; a sink with room for as many bytes as the buffer has would have taken it, and the source
-- never failed.
pub record Ran (words : List (List ℕ)) (input old new : List ℕ) (out_len status : ℕ) : Type 0 where
  pub end : Outside
  pub output : List ℕ
  pub written : end.sink.written ≡ Some output
  pub runs : RunsWords words (begun input (length old)) end status
  pub out : new ≡ over_start output old
  pub len : out_len ≡ length output
  pub within : length output ≤ length old
  pub source : end.source_faults ≡ 0

-- That, or allocation failed before anything was read.
abbrev pub RanOrMemory : List (List ℕ) → List ℕ → List ℕ → List ℕ → ℕ → ℕ → Type 0
RanOrMemory words input old new out_len status = Ran words input old new out_len status ⊎ ((new ≡ old) × (out_len ≡ 0) × (status ≡ 6))

-- The words are what stands between the spaces; bytes that aren't UTF-8 are no command.
abbrev pub RunAnswered : List ℕ → List ℕ → List ℕ → List ℕ → ℕ → ℕ → Type 0
RunAnswered words input old new out_len status =
    (IsUtf8 words × RanOrMemory (pieces space words) input old new out_len status)
    ⊎ ((¬ (IsUtf8 words)) × (new ≡ old) × (out_len ≡ 0) × (status ≡ 2))
