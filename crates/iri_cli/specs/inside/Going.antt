-- A run on its way: the lines that were answered, and the one that isn't yet.
use Rattle.std.specs.Prelude.{◌≡◌, ◌≤◌, ◌<◌, ◌⊎◌, ◌+◌, ◌-◌, ℕ, Bool, true, false, List, [], ◌++◌, length, Option, None, Some, Result, Ok, Err}
use Rattle.std.specs.List.{concat, list_all}
use Rattle.iri_text.specs.Count.{Rose}
use Rattle.iri_text.specs.Line.{LineState}
use Rattle.iri_text.specs.Reader.{Advances}
use Rattle.iri_text.specs.Sink.{Appends, KeepsRoom, SinkState}
use Rattle.iri_cli.specs.run.Ending.{Rules, answers}
use Rattle.iri_cli.specs.run.Run.{Outside}
use Rattle.iri_cli.specs.inside.Answering.{Answering, AnswersLine, AnswersLines}
use Rattle.iri_cli.specs.inside.Read.{HasRead, IsGoing}
use Rattle.iri_cli.specs.inside.Steps.{end_at, end_of_all}
use Rattle.iri_cli.specs.declared.run.answers.AnswerError.{AnswerError}
use Rattle.iri_cli.specs.declared.run.answers.AnswerError.TheVariants.{SinkFailed}
use Rattle.iri_cli.specs.declared.run.end.End.{End}
use Rattle.iri_text.specs.declared.streams.reader.LineFault.{LineFault}

-- the answers to these lines were written
abbrev pub answered_to : Rules → List ℕ → List (List ℕ) → List ℕ
answered_to rules base rest = concat (answers rules base rest)

-- The lines that were given after the base were answered.
pub record Goes (stands_at : Answering → Type 0) (start : Answering) (reader_old reader : LineState)
    (left_old left : Option (List ℕ)) (source_old source : ℕ) (sink_old sink : SinkState) (good : Bool) : Type 0 where
  pub between : List (List ℕ)
  pub at : stands_at (record start { between = between })
  pub going : IsGoing start.rules reader
  -- each line had a byte
  pub few : length between + length reader.held ≤ reader.taken
  pub read : (before : Option (List ℕ)) (first : List (List ℕ)) → HasRead start.rules before left_old reader_old first
      → HasRead start.rules before left reader (first ++ between)
  pub writes : Appends sink_old.written sink.written (answered_to start.rules start.base between)
  pub all_good : good ≡ list_all start.rules.is_good (answers start.rules start.base between)
  pub source_later : source_old ≤ source
  pub sink_same : sink.faults ≡ sink_old.faults
  pub room : KeepsRoom sink_old.room_left sink.room_left (answered_to start.rules start.base between) (Unit {0})

-- Where a run began: a base that is taken, with a command that writes nothing after all answers; the reader, and what was around it.
pub record Beginning : Type 0 where
  pub start : Answering
  pub taken : start.rules.refusal start.base ≡ None
  pub silent : (base : List ℕ) (between : List (List ℕ)) → start.rules.closing base between ≡ []
  pub reader : LineState
  pub around : Outside

-- an answer of the command that began
abbrev pub IsOf : Beginning → Answering → Type 0
IsOf b at = at.rules ≡ b.start.rules

-- The lines before that of the reader were answered, and this one isn't.
pub record Waits (b : Beginning) (reader : LineState) (now : Outside) (good : Bool) : Type 0 where
  pub before : LineState
  pub left : Option (List ℕ)
  pub faults : ℕ
  pub go : Goes (IsOf b) b.start b.reader before b.around.left left b.around.source_faults faults b.around.sink now.sink good
  pub given : Advances before reader left now.left faults now.source_faults (Ok true)

-- The answer to the reader's line was put, or not, as this result says.
pub record HasAnswer (b : Beginning) (reader : LineState) (now : Outside) (good : Bool) (answer : Result Bool AnswerError) : Type 0 where
  pub sink : SinkState
  pub waits : Waits b reader (record now { sink = sink }) good
  pub put : (at : Answering) → IsOf b at → AnswersLine (IsOf b) at reader.line sink now.sink answer

-- how many bytes a reader has to give at most
abbrev pub ahead : LineState → ℕ
ahead reader = reader.input_limit + length reader.held - reader.taken

-- The next line is given, and fewer bytes than this are to come; or the run ended.
abbrev pub GoesOn : Beginning → ℕ → LineState → Outside → Bool → Option End → Type 0
GoesOn b limit reader now good None = Waits b reader now good × (ahead reader < limit)
GoesOn b limit reader now good (Some end) = AnswersLines b.start b.reader b.around now end

-- What a sink that is flushed after an answer makes of it.
abbrev pub FlushedAfter : (old new : SinkState) → Result Bool AnswerError → Result Bool AnswerError → Type 0
FlushedAfter old new (Ok good) (Ok same) =
    (same ≡ good) × (new.written ≡ old.written) × (new.faults ≡ old.faults) × KeepsRoom old.room_left new.room_left [] (Unit {0})
FlushedAfter old new (Ok good) (Err error) =
    (error ≡ SinkFailed) × (new.written ≡ old.written) × Rose old.faults new.faults × (old.faults ≤ new.faults) × KeepsRoom old.room_left new.room_left [] ⊥
FlushedAfter old new (Err error) result = (result ≡ Err error) × (new ≡ old)

-- The next line is given; or there is none, or the reader answered a fault, and that is the end.
abbrev pub ComesNext : (old new : LineState) → (left_old left : Option (List ℕ)) → (faults_old faults : ℕ) → Bool → Option End → Type 0
ComesNext old new left_old left faults_old faults good None = Advances old new left_old left faults_old faults (Ok true)
ComesNext old new left_old left faults_old faults good (Some end) =
    (Advances old new left_old left faults_old faults (Ok false) × (end ≡ end_of_all good))
    ⊎ ((fault : LineFault) × Advances old new left_old left faults_old faults (Err fault) × (end ≡ end_at fault))
