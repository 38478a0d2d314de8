-- The command `gen`: references that are made by a counter, and the totals of their canonical texts.
use Rattle.std.specs.Prelude.{ℕ, zero, suc, ◌+◌, ◌*◌, ◌/◌, ◌%◌, ◌^◌, codes, decimal, sum, List, [], ◌∷◌, ◌++◌, length, get_or}
use Rattle.iri_grammar.specs.Classes.{Tests}
use Rattle.iri_normal.specs.NormalForm.{canonical}
use Rattle.iri_grammar.specs.Characters.{slash}

-- how many references are made at most
abbrev pub most_references : ℕ
most_references = 100000

-- the segments of which references are made, by number
abbrev pub gen_segments : List (List ℕ)
gen_segments =
    codes ".." ∷ codes "." ∷ codes "a" ∷ codes "b" ∷ codes "%2E" ∷ codes "%2e%2E" ∷ [] ∷ codes "%7e" ∷ codes "c" ∷ codes "x%2fy"
    ∷ codes "%ce%b1" ∷ codes "Q" ∷ codes "d;1" ∷ codes "%41" ∷ codes ".." ∷ codes "e" ∷ []

abbrev pub gen_segment : ℕ → List ℕ
gen_segment number = get_or gen_segments number []

-- so many segments, each after a slash, by the digits to base 16 of a number, the last digit first
abbrev pub more_segments : ℕ → ℕ → List ℕ
more_segments zero number = []
more_segments (suc count) number = slash ∷ (gen_segment (number % 16) ++ more_segments count (number / 16))

-- The reference of a state: its digits to base 16, the last one first, tell its segments, one more than its 16th digit.
abbrev pub gen_reference : ℕ → List ℕ
gen_reference state = gen_segment (state % 16) ++ more_segments (state / 2 ^ 60) (state / 16)

-- the state after so many steps from 0
abbrev pub gen_state : ℕ → ℕ
gen_state zero = 0
gen_state (suc steps) = (gen_state steps * 6364136223846793005 + 1442695040888963407) % 2 ^ 64

abbrev pub gen_base : List ℕ
gen_base = codes "http://a/b/c/d;p?q"

-- the canonical text of the reference of a state
abbrev pub gen_canonical : Tests → ℕ → List ℕ
gen_canonical s state = canonical s gen_base (gen_reference state)

-- the sum of a number that the canonical text of each of the first references has, as that of its bytes, or the sum of their values
abbrev pub gen_total : (List ℕ → ℕ) → Tests → ℕ → ℕ
gen_total number s zero = 0
gen_total number s (suc count) = gen_total number s count + number (gen_canonical s (gen_state (suc count)))

-- the three lines
abbrev pub gen_text : Tests → ℕ → List ℕ
gen_text s count = codes "lines " ++ decimal count
    ++ (codes "\nbytes " ++ decimal (gen_total length s count) ++ (codes "\nsum " ++ decimal (gen_total sum s count) ++ 10 ∷ []))
