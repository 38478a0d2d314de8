-- What a run does by its command.
use Rattle.std.specs.Prelude.{◌≡◌, ◌≤◌, ℕ, Option, None, Some}
use Rattle.iri_cli.specs.generator.References.{gen_text, most_references}
use Rattle.iri_cli.specs.help.Notices.{MakesText, Tells, notice_text}
use Rattle.iri_cli.specs.run.Run.{Outside, RunsLines}
use Rattle.iri_cli.specs.run.Words.{HasToken, rules_of, tests_of}
use Rattle.iri_cli.specs.declared.run.words.Command.{Command}
use Rattle.iri_cli.specs.declared.run.words.Command.TheVariants.{Lines, Gen, Tell}

-- what words that are this command say of it
abbrev pub IsSound : Option Command → Type 0
IsSound None = Unit {0}
IsSound (Some (Lines command mode grammar)) = HasToken command
IsSound (Some (Gen grammar count)) = count ≤ most_references
IsSound (Some (Tell notice)) = Unit {0}

-- what is done for this command, or for none
abbrev pub Obeys : Option Command → (old new : Outside) → (status : ℕ) → Type 0
Obeys None old new status = (status ≡ 2) × (new ≡ old)
Obeys (Some (Lines command mode grammar)) old new status =
    RunsLines (rules_of command (tests_of grammar) mode) old new status
Obeys (Some (Gen grammar count)) old new status =
    MakesText (gen_text (tests_of grammar) count) old new status
Obeys (Some (Tell notice)) old new status = Tells (notice_text notice) old new status
