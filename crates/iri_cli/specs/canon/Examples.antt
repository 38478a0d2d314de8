-- The ending of an input, worked on small inputs: lines of at most 4 bytes, inputs of at most 12. An answer is the line itself, and an empty base is refused.
use Rattle.std.specs.Prelude.{◌≡◌, ℕ, codes, nat_eq, true, false, List, [], ◌∷◌, ◌++◌, Option, None, Some, refl}
use Rattle.std.specs.List.{starts_with}
use Rattle.iri_cli.specs.run.Ending.{Rules, ending}

abbrev refusal : List ℕ → Option (List ℕ)
refusal [] = Some (codes "empty")
refusal (b ∷ line) = None

abbrev small : Rules
small = record {
  line_limit = 4;
  input_limit = 12;
  fixed_base = None;
  refusal = refusal;
  answer = λ base between line. line ++ 10 ∷ [];
  is_good = λ answer. starts_with nat_eq answer (codes "ok ");
  closing = λ base between. [];
  base_wants_memory = false;
  wants_memory = λ base between line. false;
}

-- the last line has no LF, and the base line a CR before its LF
pub answers_all_lines : ending small (codes "b" ++ 13 ∷ 10 ∷ (codes "ok x" ++ 10 ∷ codes "ok y"))
    ≡ record { status = 0; output = codes "ok x" ++ 10 ∷ (codes "ok y" ++ 10 ∷ []) }
answers_all_lines = refl

pub one_bad_answer : ending small (codes "b" ++ 10 ∷ (codes "no" ++ 10 ∷ (codes "ok y" ++ 10 ∷ [])))
    ≡ record { status = 1; output = codes "no" ++ 10 ∷ (codes "ok y" ++ 10 ∷ []) }
one_bad_answer = refl

pub base_alone : ending small (codes "b") ≡ record { status = 0; output = [] }
base_alone = refl

pub no_line : ending small [] ≡ record { status = 3; output = codes "base empty" ++ 10 ∷ [] }
no_line = refl

-- what comes after a base line that is refused has no say
pub refused_base : ending small (10 ∷ codes "abcdefghijklmnop") ≡ record { status = 3; output = codes "base empty" ++ 10 ∷ [] }
refused_base = refl

-- a CR counts, and the answers before the line stand
pub long_line : ending small (codes "b" ++ 10 ∷ (codes "c" ++ 10 ∷ (codes "abcd" ++ 13 ∷ 10 ∷ [])))
    ≡ record { status = 7; output = codes "c" ++ 10 ∷ [] }
long_line = refl

-- a base line that is too long isn't validated
pub long_base : ending small (codes "abcde" ++ 10 ∷ []) ≡ record { status = 7; output = [] }
long_base = refl

-- the thirteenth byte is the fifth of its line, too
pub over_before_long : ending small (codes "bbb" ++ 10 ∷ (codes "ccc" ++ 10 ∷ codes "abcde"))
    ≡ record { status = 8; output = codes "ccc" ++ 10 ∷ [] }
over_before_long = refl

-- the thirteenth byte is an LF: the line before it isn't answered
pub over_at_lf : ending small (codes "bbb" ++ 10 ∷ (codes "ccc" ++ 10 ∷ (codes "abcd" ++ 10 ∷ [])))
    ≡ record { status = 8; output = codes "ccc" ++ 10 ∷ [] }
over_at_lf = refl

-- An answer may tell of the lines before, a line may have no answer, and a text may follow: here each line is answered by that before it.
abbrev last : List (List ℕ) → List ℕ
last [] = []
last (line ∷ []) = line ++ 10 ∷ []
last (line ∷ next ∷ between) = last (next ∷ between)

abbrev by_line_before : Rules
by_line_before = record small { answer = λ base between line. last between; closing = λ base between. base ++ 10 ∷ []; is_good = λ answer. true }

pub answers_by_lines_before : ending by_line_before (codes "b" ++ 10 ∷ (codes "x" ++ 10 ∷ (codes "y" ++ 10 ∷ codes "z")))
    ≡ record { status = 0; output = codes "x" ++ 10 ∷ (codes "y" ++ 10 ∷ (codes "b" ++ 10 ∷ [])) }
answers_by_lines_before = refl

-- Where the base is fixed, every line is answered, and a run over no line writes what comes after all answers.
abbrev by_fixed_base : Rules
by_fixed_base = record by_line_before { fixed_base = Some (codes "b") }

pub answers_every_line : ending by_fixed_base (codes "x" ++ 10 ∷ (codes "y" ++ 10 ∷ []))
    ≡ record { status = 0; output = codes "x" ++ 10 ∷ (codes "b" ++ 10 ∷ []) }
answers_every_line = refl

pub no_line_after_fixed_base : ending by_fixed_base [] ≡ record { status = 0; output = codes "b" ++ 10 ∷ [] }
no_line_after_fixed_base = refl
