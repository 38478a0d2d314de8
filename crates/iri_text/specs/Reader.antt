-- What a reader of lines holds, and what a call does to it.
use Rattle.std.specs.Prelude.{◌≡◌, ◌≢◌, ◌⊎◌, ◌≤◌, ◌+◌, ◌-◌, ℕ, Bool, true, false, List, [], ◌∷◌, ◌++◌, ⊤, length, Option, None, Some}
use Rattle.std.specs.Prelude.{Result, Ok, Err}
use Rattle.std.proofs.Common.{Bor}
use Rattle.iri_text.specs.Source.{Consumes, IsAtEnd}
use Rattle.iri_text.specs.Count.{Rose}
use Rattle.iri_text.specs.Lines.{NoLf, no_cr, lines}
use Rattle.iri_text.specs.Limits.{limit_fault, limit_told}
use Rattle.iri_text.specs.Line.{LineState}
use Rattle.iri_text.specs.declared.streams.reader.LineFault.{LineFault}
use Rattle.iri_text.specs.declared.streams.reader.LineFault.TheVariants.{Source, LineTooLong, InputTooLong}
use Rattle.iri_text.specs.LineEnds.{line_feed}

-- The line that is given, from the start of these bytes. It goes together with its LF, or was the last one, which has none.
pub record GivesLine (all : List ℕ) (left : Option (List ℕ)) (new : LineState) : Type 0 where
  pub raw : List ℕ
  pub whole : NoLf raw
  pub short : length raw ≤ new.line_limit
  pub line : new.line ≡ no_cr raw
  pub within : new.taken ≤ new.input_limit + length new.held
  pub rest : ((all ≡ raw ++ line_feed ∷ new.held) × (new.ended ≡ false))
      ⊎ ((all ≡ raw) × (raw ≢ []) × (new.held ≡ []) × IsAtEnd left × (new.ended ≡ true))

-- The line has a byte past its limit and no LF up to there, and that byte is within the limit of the input.
pub record IsTooLong (all : List ℕ) (new : LineState) : Type 0 where
  pub prefix : List ℕ
  pub rest : List ℕ
  pub split : prefix ++ rest ≡ all
  pub whole : NoLf prefix
  pub long : length prefix ≡ new.line_limit + 1
  pub within : new.taken + length prefix ≤ new.input_limit + length all

-- The last byte that was taken is the first one past the limit of the input, and no line ends before it.
pub record IsExhausted (all : List ℕ) (new : LineState) : Type 0 where
  pub prefix : List ℕ
  pub last : ℕ
  pub split : prefix ++ last ∷ [] ≡ all
  pub whole : NoLf prefix
  pub short : length prefix ≤ new.line_limit
  pub over : new.taken ≡ new.input_limit + 1

-- What the answer says, where these bytes were held or came. After a fault the reader holds them all.
abbrev pub Says : Bool → List ℕ → Option (List ℕ) → LineState → Result Bool LineFault → Type 0
Says was_ended all left new (Ok true) = GivesLine all left new
Says was_ended all left new (Ok false) = (all ≡ []) × (new.held ≡ []) × (was_ended ≡ false → IsAtEnd left)
Says was_ended all left new (Err Source) = (new.held ≡ all) × NoLf all × (length all ≤ new.line_limit) × (new.taken ≤ new.input_limit)
Says was_ended all left new (Err LineTooLong) = (new.held ≡ all) × IsTooLong all new
Says was_ended all left new (Err InputTooLong) = (new.held ≡ all) × IsExhausted all new

-- the count of faults rose, where the answer says that the source failed
abbrev pub HasCause : ℕ → ℕ → Result Bool LineFault → Type 0
HasCause old new (Ok b) = Unit {0}
HasCause old new (Err Source) = Rose old new
HasCause old new (Err LineTooLong) = Unit {0}
HasCause old new (Err InputTooLong) = Unit {0}

-- no call may follow: there is no line, or a fault
abbrev pub is_final : Result Bool LineFault → Bool
is_final (Ok true) = false
is_final (Ok false) = true
is_final (Err fault) = true

-- a reader that knows whether this answer is its last one
abbrev pub done_by : Result Bool LineFault → LineState → LineState
done_by result reader = record reader { done = is_final result }

-- Where the source tells what is left: the line that is given is the next of the lines, and the others are still to come.
-- There is none where no line is given. (A source isn't asked again after a last line with no LF.)
abbrev pub GivesNext : LineState → LineState → Option (List ℕ) → Option (List ℕ) → Result Bool LineFault → Type 0
GivesNext old new (Some xs) (Some ys) (Ok true) = lines (old.held ++ xs) ≡ new.line ∷ lines (new.held ++ ys)
GivesNext old new (Some xs) (Some ys) (Ok false) = old.ended ≡ false → lines (old.held ++ xs) ≡ []
GivesNext old new (Some xs) (Some ys) (Err fault) = ⊤
GivesNext old new (Some xs) None result = ⊤
GivesNext old new None left result = ⊤

-- A call moved these bytes from the source to the reader, and answered.
pub record Advances (old new : LineState) (left_old left_new : Option (List ℕ)) (faults_old faults_new : ℕ)
    (result : Result Bool LineFault) : Type 0 where
  pub moved : List ℕ
  pub moves : Consumes left_old left_new moved
  pub counted : new.taken ≡ old.taken + length moved
  -- bytes are taken only where what is held has no LF
  pub needed : NoLf old.held ⊎ (moved ≡ [])
  pub line_limit : new.line_limit ≡ old.line_limit
  pub input_limit : new.input_limit ≡ old.input_limit
  -- after a last line with no LF nothing comes, and nothing is taken
  pub done : old.ended ≡ true → (result ≡ Ok false) × (moved ≡ [])
  pub finished : new.done ≡ is_final result
  pub later : faults_old ≤ faults_new
  pub cause : HasCause faults_old faults_new result
  pub says : Says old.ended (old.held ++ moved) left_new new result
  pub next : GivesNext old new left_old left_new result
  -- it answers that a limit is passed exactly where one is, and which one is passed first
  pub limits : limit_fault new.line_limit new.input_limit (old.taken - length old.held) 0 (old.held ++ moved) ≡ limit_told result

-- the answer of `advance` after that of `next_line`
abbrev pub advanced : Result (Option (Bor (List ℕ))) LineFault → Result Bool LineFault
advanced (Ok None) = Ok false
advanced (Ok (Some line)) = Ok true
advanced (Err fault) = Err fault

-- a line that is given is the one that the reader has
abbrev pub IsItsLine : LineState → Result (Option (Bor (List ℕ))) LineFault → Type 0
IsItsLine new (Ok None) = Unit {0}
IsItsLine new (Ok (Some line)) = line.now ≡ new.line
IsItsLine new (Err fault) = Unit {0}

-- a call of `next_line`
pub record NextLine (old new : LineState) (left_old left_new : Option (List ℕ)) (faults_old faults_new : ℕ)
    (result : Result (Option (Bor (List ℕ))) LineFault) : Type 0 where
  pub advances : Advances old new left_old left_new faults_old faults_new (advanced result)
  pub line : IsItsLine new result
