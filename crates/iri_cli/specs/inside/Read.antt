-- What a reader has given of an input, and how reading ends.
use Rattle.std.specs.Prelude.{◌≡◌, ◌⊎◌, ◌≤◌, ◌+◌, ℕ, true, false, List, [], ◌∷◌, ◌++◌, length, take, Option, None, Some}
use Rattle.iri_text.specs.Line.{LineState}
use Rattle.iri_text.specs.Lines.{lines, ended_lines}
use Rattle.iri_text.specs.Source.{Consumes, IsAtEnd}
use Rattle.iri_cli.specs.run.Ending.{Rules, passed_from, first_passed, with_base}

-- These are the lines of an input up to its base: those after them come after the base. There is none where the base is fixed.
abbrev pub BeginsWith : Rules → List ℕ → List (List ℕ) → Type 0
BeginsWith rules base first = (more : List (List ℕ)) → with_base rules (first ++ more) ≡ base ∷ more

module _ (rules : Rules) where
  -- These bytes are whole lines with their LFs, within the limits, and a line begins after them.
  pub record IsOpen (given : List ℕ) (whole : List (List ℕ)) : Type 0 where
    pub passes : (y : List ℕ) → first_passed rules (given ++ y) ≡ passed_from rules (length given) 0 y
    pub all : (y : List ℕ) → lines (given ++ y) ≡ whole ++ lines y
    pub ended : (y : List ℕ) → ended_lines (given ++ y) ≡ whole ++ ended_lines y

  -- These bytes are all of the lines, within the limits, and nothing comes after them.
  pub record IsClosed (given held : List ℕ) (whole : List (List ℕ)) (left : Option (List ℕ)) : Type 0 where
    pub passes : first_passed rules given ≡ None
    pub all : lines given ≡ whole
    pub nothing : held ≡ []
    pub at_end : IsAtEnd left

  -- These lines were given since the source had the bytes `left_old` left.
  pub record HasRead (left_old left_new : Option (List ℕ)) (reader : LineState) (whole : List (List ℕ)) : Type 0 where
    pub given : List ℕ
    pub taken : reader.taken ≡ length given + length reader.held
    pub takes : Consumes left_old left_new (given ++ reader.held)
    pub place : ((reader.ended ≡ false) × IsOpen given whole) ⊎ ((reader.ended ≡ true) × IsClosed given reader.held whole left_new)

  -- The bytes that were taken are all, and these are their lines.
  pub record ReadsAll (left_old left_new : Option (List ℕ)) (whole : List (List ℕ)) : Type 0 where
    pub taken : List ℕ
    pub takes : Consumes left_old left_new taken
    pub at_end : IsAtEnd left_new
    pub passes : first_passed rules taken ≡ None
    pub all : lines taken ≡ whole

  -- The bytes that were taken are within the limits, and these are the lines that an LF ends in them.
  pub record ReadsSome (left_old left_new : Option (List ℕ)) (whole : List (List ℕ)) : Type 0 where
    pub taken : List ℕ
    pub takes : Consumes left_old left_new taken
    pub passes : first_passed rules taken ≡ None
    pub ended : ended_lines taken ≡ whole

  -- The bytes that were taken pass a limit, and these are the lines whose LF stands before.
  pub record ReadsPast (status : ℕ) (left_old left_new : Option (List ℕ)) (whole : List (List ℕ)) : Type 0 where
    pub taken : List ℕ
    pub place : ℕ
    pub takes : Consumes left_old left_new taken
    pub passes : (more : List ℕ) → first_passed rules (taken ++ more) ≡ Some (record { status = status; place = place })
    pub ended : (more : List ℕ) → ended_lines (take place (taken ++ more)) ≡ whole

-- A reader that goes on within the limits of a command.
pub record IsGoing (rules : Rules) (reader : LineState) : Type 0 where
  pub line_limit : reader.line_limit ≡ rules.line_limit
  pub input_limit : reader.input_limit ≡ rules.input_limit
  pub going : reader.done ≡ false
  pub within : reader.taken ≤ rules.input_limit + length reader.held
  pub counted : length reader.held ≤ reader.taken
