-- What a run over the lines of a source does to that source and to its sink.
use Rattle.std.specs.Prelude.{◌≡◌, ◌≢◌, ◌⊎◌, ◌≤◌, ℕ, true, List, [], ◌∷◌, ◌++◌, Option, None, Some}
use Rattle.iri_text.specs.Count.{Rose}
use Rattle.iri_text.specs.Lines.{ended_lines, lines}
use Rattle.iri_text.specs.Source.{Consumes, IsAtEnd}
use Rattle.iri_text.specs.Sink.{Appends, AppendsPrefix, KeepsRoom, SinkState, sink_state}
use Rattle.iri_cli.specs.run.Ending.{Rules, ending, first_passed, IsBaseTaken, answered, with_base}
use Rattle.iri_cli.specs.declared.run.end.End.{End}
use Rattle.iri_cli.specs.declared.run.end.End.TheVariants.{Done, SomeBad, BadBase, SourceFailed, SinkFailed, Memory, LineTooLong, InputTooLong}

-- what the source has left, how often it failed, and what the sink tells
pub record Outside : Type 0 where
  pub left : Option (List ℕ)
  pub source_faults : ℕ
  pub sink : SinkState

abbrev pub outside : Option (List ℕ) → ℕ → SinkState → Outside
outside left source_faults sink = record { left = left; source_faults = source_faults; sink = sink }

-- the same of a source and a sink, by the members of their traits
abbrev pub outside_state : {X Y : Type 0} → (X → Option (List ℕ)) → (X → ℕ)
    → (Y → Option (List ℕ)) → (Y → ℕ) → (Y → Option ℕ) → X → Y → Outside
outside_state left source_faults written sink_faults room_left source sink =
    outside (left source) (source_faults source) (sink_state written sink_faults room_left sink)

module _ (rules : Rules) where
  -- The source was read to its end, and its bytes have this ending.
  pub record Finishes (status : ℕ) (old new : Outside) : Type 0 where
    pub taken : List ℕ
    pub takes : Consumes old.left new.left taken
    pub at_end : IsAtEnd new.left
    pub ends : (ending rules taken).status ≡ status
    pub writes : Appends old.sink.written new.sink.written (ending rules taken).output
    pub sink : new.sink.faults ≡ old.sink.faults

  -- These bytes were taken, and whatever comes after them, the input has this ending.
  pub record Decides (status : ℕ) (old new : Outside) : Type 0 where
    pub taken : List ℕ
    pub takes : Consumes old.left new.left taken
    pub ends : (more : List ℕ) → (ending rules (taken ++ more)).status ≡ status
    pub writes : (more : List ℕ) → Appends old.sink.written new.sink.written (ending rules (taken ++ more)).output
    pub sink : new.sink.faults ≡ old.sink.faults

  -- The source failed after these bytes. They pass no limit, and have no refused base line with an LF. Exactly the lines that an LF ends in them were answered.
  pub record StopsShort (old new : Outside) : Type 0 where
    pub taken : List ℕ
    pub takes : Consumes old.left new.left taken
    pub passes : first_passed rules taken ≡ None
    pub base_taken : IsBaseTaken rules (with_base rules (ended_lines taken))
    pub writes : Appends old.sink.written new.sink.written (answered rules (with_base rules (ended_lines taken)))
    pub source : Rose old.source_faults new.source_faults
    pub sink : new.sink.faults ≡ old.sink.faults

  -- Allocation may fail at a line after these: at a base line that is taken, and at a line whose answer takes memory.
  abbrev pub WantsMemory : List (List ℕ) → List ℕ → Type 0
  WantsMemory [] base = (rules.base_wants_memory ≡ true) × (rules.refusal base ≡ None)
  WantsMemory (base ∷ between) line = rules.wants_memory base between line ≡ true

  -- Allocation failed at a line, which wasn't answered. The lines before it were, and both are the first of the input.
  pub record RunsOut (old new : Outside) : Type 0 where
    pub whole : List (List ℕ)
    pub line : List ℕ
    pub wants : WantsMemory (with_base rules whole) line
    pub first : (input : List ℕ) → old.left ≡ Some input → (more : List (List ℕ)) × (lines input ≡ whole ++ line ∷ more)
    pub base_taken : IsBaseTaken rules (with_base rules whole)
    pub writes : Appends old.sink.written new.sink.written (answered rules (with_base rules whole))
    pub sink : new.sink.faults ≡ old.sink.faults

  -- what holds at each end
  abbrev pub RanTo : Outside → Outside → End → Type 0
  RanTo old new Done = Finishes 0 old new
  RanTo old new SomeBad = Finishes 1 old new
  RanTo old new BadBase = Decides 3 old new ⊎ Finishes 3 old new
  RanTo old new SourceFailed = StopsShort old new
  RanTo old new SinkFailed = Rose old.sink.faults new.sink.faults
  RanTo old new Memory = RunsOut old new
  RanTo old new LineTooLong = Decides 7 old new
  RanTo old new InputTooLong = Decides 8 old new

  -- A run ended so. Whatever the end, what was written is a prefix of the input's output, and no count of faults fell. A sink that is known to
  -- have room for that output didn't fail.
  pub record Ran (old new : Outside) (end : End) : Type 0 where
    pub to : RanTo old new end
    pub prefix : (input : List ℕ) → old.left ≡ Some input → AppendsPrefix old.sink.written new.sink.written (ending rules input).output
    pub source_later : old.source_faults ≤ new.source_faults
    pub sink_later : old.sink.faults ≤ new.sink.faults
    pub room : (input : List ℕ) → old.left ≡ Some input → KeepsRoom old.sink.room_left new.sink.room_left (ending rules input).output
        (end ≢ SinkFailed)

-- Some line of an input is one at which allocation may fail.
pub record MayRunOut (rules : Rules) (input : List ℕ) : Type 0 where
  pub whole : List (List ℕ)
  pub line : List ℕ
  pub more : List (List ℕ)
  pub all : lines input ≡ whole ++ line ∷ more
  pub base_taken : IsBaseTaken rules (with_base rules whole)
  pub wants : WantsMemory rules (with_base rules whole) line

-- the status of an end
abbrev pub status_of : End → ℕ
status_of Done = 0
status_of SomeBad = 1
status_of BadBase = 3
status_of SourceFailed = 4
status_of SinkFailed = 5
status_of Memory = 6
status_of LineTooLong = 7
status_of InputTooLong = 8

-- What a run over the lines of a source does: it ended in one of the ways above, and the status says in which.
pub record Runs (rules : Rules) (old new : Outside) (status : ℕ) : Type 0 where
  pub end : End
  pub status_is : status ≡ status_of end
  pub ran : Ran rules old new end

-- The same, or allocation failed before anything was read or written.
abbrev pub RunsLines : Rules → Outside → Outside → ℕ → Type 0
RunsLines rules old new status = Runs rules old new status ⊎ ((status ≡ 6) × (new ≡ old))
