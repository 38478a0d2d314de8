-- The ending of an input: the status in which a run over its lines ends, and what it writes.
-- The first line is the base, but where a command has a fixed one. What it writes for each line after the base may depend on the lines
-- between.
use Rattle.std.specs.Prelude.{◌≡◌, ℕ, ◌+◌, ◌==◌, nat_le, codes, Bool, List, [], ◌∷◌, ◌++◌, take, Option, None, Some, if◌then◌else◌}
use Rattle.std.specs.List.{concat, list_all}
use Rattle.iri_text.specs.Lines.{ended_lines, lines}
use Rattle.iri_text.specs.LineEnds.{line_feed}

-- What a command says of the lines of its input.
pub record Rules : Type 0 where
  -- how many bytes a line may have before its LF, and how many the input may have
  pub line_limit : ℕ
  pub input_limit : ℕ
  -- the base, where no line of the input is it
  pub fixed_base : Option (List ℕ)
  -- why a base line is refused, None where it is taken
  pub refusal : List ℕ → Option (List ℕ)
  -- the answer, with its LF, to a line after a base and the lines between them; no bytes where the line has no answer
  pub answer : List ℕ → List (List ℕ) → List ℕ → List ℕ
  -- whether a run with this answer may end in status 0
  pub is_good : List ℕ → Bool
  -- what is written after the answers to all of the lines
  pub closing : List ℕ → List (List ℕ) → List ℕ
  -- whether a base line that is taken takes memory, so that it may be refused there
  pub base_wants_memory : Bool
  -- whether the answer to a line after a base and the lines between them takes memory, so that it may be refused at that line
  pub wants_memory : List ℕ → List (List ℕ) → List ℕ → Bool

pub record Ending : Type 0 where
  pub status : ℕ
  pub output : List ℕ

-- a limit that is passed: the status in which that ends the run, and how many bytes stand before the first byte past the limit
pub record Passed : Type 0 where
  pub status : ℕ
  pub place : ℕ

-- the line that says why a base line is refused
abbrev pub base_line : List ℕ → List ℕ
base_line words = codes "base " ++ (words ++ line_feed ∷ [])

-- 3 where the base line is refused
abbrev pub unless_refused : Option (List ℕ) → Ending → Ending
unless_refused None e = e
unless_refused (Some words) e = record { status = 3; output = base_line words }

-- a base that stands before all lines
abbrev pub after_fixed : Option (List ℕ) → List (List ℕ) → List (List ℕ)
after_fixed None lines = lines
after_fixed (Some base) lines = base ∷ lines

module _ (rules : Rules) where
  -- the base and the lines after it, by the lines of an input
  abbrev pub with_base : List (List ℕ) → List (List ℕ)
  with_base lines = after_fixed rules.fixed_base lines

  -- the first limit that is passed in these bytes, where `place` bytes stand before them, the last `len` of these on the line that goes on
  abbrev pub passed_from : ℕ → ℕ → List ℕ → Option Passed
  passed_from place len [] = None
  passed_from place len (b ∷ bs) =
      if nat_le rules.input_limit place then Some (record { status = 8; place = place })
      else (if b == line_feed then passed_from (place + 1) 0 bs
      else (if nat_le rules.line_limit len then Some (record { status = 7; place = place })
      else passed_from (place + 1) (len + 1) bs))

  -- The first limit that is passed: 8 at the first byte past the limit of the input, 7 at a byte other than an LF past the limit of its line,
  -- and 8 where both are one byte. A CR counts.
  abbrev pub first_passed : List ℕ → Option Passed
  first_passed input = passed_from 0 0 input

  -- the answers to lines, where others stand between them and the base
  abbrev pub answers_after : List ℕ → List (List ℕ) → List (List ℕ) → List (List ℕ)
  answers_after base between [] = []
  answers_after base between (line ∷ rest) = rules.answer base between line ∷ answers_after base (between ++ line ∷ []) rest

  -- the answers to the lines after a base
  abbrev pub answers : List ℕ → List (List ℕ) → List (List ℕ)
  answers base rest = answers_after base [] rest

  -- the base among these lines is taken
  abbrev pub IsBaseTaken : List (List ℕ) → Type 0
  IsBaseTaken [] = Unit {0}
  IsBaseTaken (base ∷ rest) = rules.refusal base ≡ None

  -- all answers to lines whose base is taken
  abbrev pub answered : List (List ℕ) → List ℕ
  answered [] = []
  answered (base ∷ rest) = concat (answers base rest)

  -- the ending where the lines go to the end of the input: 1 where some answer isn't good
  abbrev pub completed : List ℕ → List (List ℕ) → Ending
  completed base rest = unless_refused (rules.refusal base) (record {
    status = if list_all rules.is_good (answers base rest) then 0 else 1;
    output = concat (answers base rest) ++ rules.closing base rest;
  })

  -- the same by all lines; where there is none the base is the empty text
  abbrev pub completed_lines : List (List ℕ) → Ending
  completed_lines [] = completed [] []
  completed_lines (base ∷ rest) = completed base rest

  -- the ending in a status after these lines
  abbrev pub stopped : ℕ → List (List ℕ) → Ending
  stopped status [] = record { status = status; output = [] }
  stopped status (base ∷ rest) = unless_refused (rules.refusal base) (record { status = status; output = concat (answers base rest) })

  abbrev pub ending_by : List ℕ → Option Passed → Ending
  ending_by input None = completed_lines (with_base (lines input))
  ending_by input (Some passed) = stopped passed.status (with_base (ended_lines (take passed.place input)))

  -- The first event decides. Where a limit is passed, that is the first event but for a refused base whose LF stands before:
  -- then the lines are answered whose LF stands before that byte. Otherwise all lines are.
  abbrev pub ending : List ℕ → Ending
  ending input = ending_by input (first_passed input)
