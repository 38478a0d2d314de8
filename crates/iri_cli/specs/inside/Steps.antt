-- The ends of a run by what its steps answer, and the base line.
use Rattle.std.specs.Prelude.{◌≡◌, ◌⊎◌, ℕ, Bool, true, false, List, [], ◌∷◌, Option}
use Rattle.iri_text.specs.Line.{LineState}
use Rattle.iri_cli.specs.run.Ending.{Rules}
use Rattle.iri_cli.specs.inside.Read.{HasRead, ReadsAll, IsGoing}
use Rattle.iri_text.specs.declared.streams.reader.LineFault.{LineFault}
use Rattle.iri_text.specs.declared.streams.reader.LineFault.TheVariants.{Source, LineTooLong as FaultLineTooLong}
use Rattle.iri_text.specs.declared.streams.reader.LineFault.TheVariants.{InputTooLong as FaultInputTooLong}
use Rattle.iri_cli.specs.declared.run.end.End.{End}
use Rattle.iri_cli.specs.declared.run.end.End.TheVariants.{Done, SomeBad, SourceFailed, LineTooLong, InputTooLong}

-- the end of a run at a fault of its reader
abbrev pub end_at : LineFault → End
end_at Source = SourceFailed
end_at FaultLineTooLong = LineTooLong
end_at FaultInputTooLong = InputTooLong

-- the end of a run whose answers are all good, or not
abbrev pub end_of_all : Bool → End
end_of_all true = Done
end_of_all false = SomeBad

-- This is the base line, and lines may follow; or there is no line, and the base is the empty text.
abbrev pub GivesBase : Rules → Option (List ℕ) → Option (List ℕ) → LineState → List ℕ → Type 0
GivesBase rules left_old left_new reader base =
    (HasRead rules left_old left_new reader (base ∷ []) × IsGoing rules reader) ⊎ (ReadsAll rules left_old left_new [] × (base ≡ []))
