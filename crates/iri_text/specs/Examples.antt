-- Worked examples: lines, and the limit that is passed first. 97 to 100 are the letters `a` to `d`.
use Rattle.std.specs.Prelude.{◌≡◌, [], ◌∷◌, ◌++◌, None, Some, codes, refl}
use Rattle.iri_text.specs.Lines.{lines}
use Rattle.iri_text.specs.Limits.{limit_fault}
use Rattle.iri_text.specs.declared.streams.reader.LineFault.TheVariants.{LineTooLong, InputTooLong}

-- no bytes, no line
pub lines_of_nothing : lines [] ≡ []
lines_of_nothing = refl

-- `ab` CR LF `cd`: one CR goes with the LF, and the last line needs no LF
pub lines_of_two : lines (97 ∷ 98 ∷ 13 ∷ 10 ∷ 99 ∷ 100 ∷ []) ≡ (97 ∷ 98 ∷ []) ∷ (99 ∷ 100 ∷ []) ∷ []
lines_of_two = refl

-- `a` LF LF: the second line is empty, and no line follows the last LF
pub lines_with_an_empty_one : lines (97 ∷ 10 ∷ 10 ∷ []) ≡ (97 ∷ []) ∷ [] ∷ []
lines_with_an_empty_one = refl

-- `a` CR `b` CR CR LF CR: a CR inside a line stays, only one goes before the LF, and a CR alone is a last line with no bytes
pub lines_with_crs : lines (97 ∷ 13 ∷ 98 ∷ 13 ∷ 13 ∷ 10 ∷ 13 ∷ []) ≡ (97 ∷ 13 ∷ 98 ∷ 13 ∷ []) ∷ [] ∷ []
lines_with_crs = refl

-- nine digits pass a limit of 8 for the line, whatever comes after
pub nine_digits : limit_fault 8 20 0 0 (codes "123456789") ≡ Some LineTooLong
nine_digits = refl

-- eight digits and an LF don't
pub eight_digits : limit_fault 8 20 0 0 (codes "12345678" ++ 10 ∷ []) ≡ None
eight_digits = refl

-- a CR counts for the limit of the line
pub a_cr_counts : limit_fault 8 20 0 0 (codes "12345678" ++ 13 ∷ 10 ∷ []) ≡ Some LineTooLong
a_cr_counts = refl

-- after 16 bytes the fifth byte is number 21, which passes a limit of 20 for the input
pub the_byte_21 : limit_fault 8 20 16 0 (codes "12345") ≡ Some InputTooLong
the_byte_21 = refl

-- the ninth byte passes both limits
pub both_limits : limit_fault 8 8 0 0 (codes "123456789") ≡ Some InputTooLong
both_limits = refl
