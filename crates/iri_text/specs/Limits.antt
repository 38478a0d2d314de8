-- The limits of a line and of an input, in bytes.
use Rattle.std.specs.Prelude.{ℕ, ◌+◌, ◌==◌, nat_le, List, [], ◌∷◌, if◌then◌else◌, Bool, Option, None, Some, Result, Ok, Err}
use Rattle.iri_text.specs.declared.streams.reader.LineFault.{LineFault}
use Rattle.iri_text.specs.declared.streams.reader.LineFault.TheVariants.{Source, LineTooLong, InputTooLong}
use Rattle.iri_text.specs.LineEnds.{line_feed}

-- the largest limit of a line that a reader of lines may have
abbrev pub largest_line_limit : ℕ
largest_line_limit = 1048576

-- The limit that is passed first before this line ends, if one is, and at one and the same byte that of the input:
-- `place` bytes came before these, and the last `len` of them stand on this line. A CR counts.
abbrev pub limit_fault : (line input place len : ℕ) → List ℕ → Option LineFault
limit_fault line input place len [] = None
limit_fault line input place len (b ∷ bs) =
    if nat_le input place then Some InputTooLong
    else (if b == line_feed then None
    else (if nat_le line len then Some LineTooLong
    else limit_fault line input (place + 1) (len + 1) bs))

-- the limit that an answer says is passed
abbrev pub limit_told : Result Bool LineFault → Option LineFault
limit_told (Ok b) = None
limit_told (Err Source) = None
limit_told (Err LineTooLong) = Some LineTooLong
limit_told (Err InputTooLong) = Some InputTooLong
