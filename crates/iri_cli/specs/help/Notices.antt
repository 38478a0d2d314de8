-- The texts that the program writes of itself, and how they are written.
use Rattle.std.specs.Prelude.{◌≡◌, ◌≢◌, ◌⊎◌, ◌≤◌, ℕ, List}
use Rattle.iri_text.specs.Count.{Rose}
use Rattle.iri_text.specs.Sink.{Appends, AppendsPrefix, KeepsRoom, SinkState}
use Rattle.iri_cli.specs.run.Run.{Outside}
use Rattle.iri_cli.specs.declared.help.TheConstants.{HELP, VERSION}
use Rattle.iri_cli.specs.declared.help.Notice.{Notice}
use Rattle.iri_cli.specs.declared.help.Notice.TheVariants.{Help, Version}

abbrev pub notice_text : Notice → List ℕ
notice_text Help = HELP.now
notice_text Version = VERSION.now

-- The whole text was written, with status 0; or the sink failed, with status 5, and a prefix of the text was written.
abbrev pub PutsText : List ℕ → (old new : SinkState) → ℕ → Type 0
PutsText text old new status =
    ((status ≡ 0) × Appends old.written new.written text × (new.faults ≡ old.faults))
    ⊎ ((status ≡ 5) × AppendsPrefix old.written new.written text × Rose old.faults new.faults × (old.faults ≤ new.faults))

-- A text was put so, and nothing was read. A sink that is known to have room for it didn't fail.
abbrev pub Tells : List ℕ → Outside → Outside → ℕ → Type 0
Tells text old new status = PutsText text old.sink new.sink status × (new.left ≡ old.left) × (new.source_faults ≡ old.source_faults)
    × KeepsRoom old.sink.room_left new.sink.room_left text (status ≢ 5)

-- A text was made and put so; or allocation failed before anything was put.
abbrev pub MakesText : List ℕ → Outside → Outside → ℕ → Type 0
MakesText text old new status = Tells text old new status ⊎ ((status ≡ 6) × (new ≡ old))
