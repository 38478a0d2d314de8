-- What answers the lines after a base, and what its calls do to a sink.
use Rattle.std.specs.Prelude.{◌≡◌, ◌≢◌, ◌≤◌, ℕ, Bool, true, false, List, [], ◌∷◌, ◌++◌, Option, None, Result, Ok, Err, OnOk}
use Rattle.iri_text.specs.Count.{Rose}
use Rattle.iri_text.specs.Sink.{Appends, AppendsPrefix, KeepsRoom, SinkState}
use Rattle.iri_text.specs.Line.{LineState}
use Rattle.iri_cli.specs.run.Ending.{Rules, base_line}
use Rattle.iri_cli.specs.inside.Read.{BeginsWith, HasRead, IsGoing}
use Rattle.iri_cli.specs.run.Run.{Outside, outside, Ran}
use Rattle.iri_cli.specs.declared.run.answers.AnswerError.{AnswerError}
use Rattle.iri_cli.specs.declared.run.answers.AnswerError.TheVariants.{SinkFailed as AnswerFailed, Memory as AnswerMemory}
use Rattle.iri_cli.specs.declared.run.end.End.{End}
use Rattle.iri_cli.specs.declared.run.end.End.TheVariants.{Done, SomeBad, BadBase, SinkFailed, Memory}

-- the command that answers, the base, and the lines that were answered after it
pub record Answering : Type 0 where
  pub rules : Rules
  pub base : List ℕ
  pub between : List (List ℕ)

-- a prefix of these bytes was written, and the sink failed
abbrev pub FailsWithin : (old new : SinkState) → List ℕ → Type 0
FailsWithin old new bytes =
    AppendsPrefix old.written new.written bytes × Rose old.faults new.faults × (old.faults ≤ new.faults)

-- the line that says why a base line is refused was written, or the sink failed
abbrev pub RefusesBase : (words : List ℕ) → (old new : SinkState) → End → Type 0
RefusesBase words old new BadBase =
    Appends old.written new.written (base_line words) × (new.faults ≡ old.faults)
RefusesBase words old new SinkFailed =
    FailsWithin old new (base_line words)
RefusesBase words old new end = ⊥

-- The whole answer was written, and it is said whether it is good; or the sink failed; or memory is wanted, allocation failed, and nothing
-- was written.
abbrev pub PutsAnswer : (is_good : List ℕ → Bool) (old new : SinkState) (wants : Bool) → List ℕ → Result Bool AnswerError → Type 0
PutsAnswer is_good old new wants answer (Ok good) =
    Appends old.written new.written answer × (new.faults ≡ old.faults) × (good ≡ is_good answer)
PutsAnswer is_good old new wants answer (Err AnswerFailed) =
    FailsWithin old new answer
PutsAnswer is_good old new wants answer (Err AnswerMemory) = (wants ≡ true) × (new.written ≡ old.written) × (new.faults ≡ old.faults)

-- The text after all answers was written, which ends the run; or the sink failed within it.
abbrev pub ClosesRun : (old new : SinkState) → Bool → List ℕ → End → Type 0
ClosesRun old new good text Done =
    (good ≡ true) × Appends old.written new.written text × (new.faults ≡ old.faults)
ClosesRun old new good text SomeBad =
    (good ≡ false) × Appends old.written new.written text × (new.faults ≡ old.faults)
ClosesRun old new good text SinkFailed =
    FailsWithin old new text
ClosesRun old new good text end = ⊥

-- A line was answered, and is then one of those between. A sink that is known to have room for the answer didn't fail.
pub record AnswersLine (is_new : Answering → Type 0) (at : Answering) (line : List ℕ) (old new : SinkState)
    (result : Result Bool AnswerError)
    : Type 0 where
  pub puts : PutsAnswer at.rules.is_good old new (at.rules.wants_memory at.base at.between line)
      (at.rules.answer at.base at.between line) result
  pub next : OnOk result (is_new (record at { between = at.between ++ line ∷ [] }))
  pub room : KeepsRoom old.room_left new.room_left (at.rules.answer at.base at.between line) (result ≢ Err AnswerFailed)

-- A base is taken, no line after it was answered, and the reader goes on.
pub record IsReady (stands_at : Answering → Type 0) (start : Answering) (reader : LineState) : Type 0 where
  pub at : stands_at start
  pub first : start.between ≡ []
  pub base_taken : start.rules.refusal start.base ≡ None
  pub going : IsGoing start.rules reader

-- The lines after the base were answered, whatever the source had left before the lines up to it were read.
abbrev pub AnswersLines : Answering → LineState → Outside → Outside → End → Type 0
AnswersLines answering reader old new end =
    (left : Option (List ℕ)) (faults : ℕ) (first : List (List ℕ)) → BeginsWith answering.rules answering.base first
    → HasRead answering.rules left old.left reader first → faults ≤ old.source_faults → Ran answering.rules (outside left faults old.sink) new end

-- the end of a run at an answer that failed
abbrev pub end_of_error : AnswerError → End
end_of_error AnswerFailed = SinkFailed
end_of_error AnswerMemory = Memory
