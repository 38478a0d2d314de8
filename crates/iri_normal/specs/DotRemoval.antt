-- Removal of dot segments (RFC 3986 section 5.2.4), and what is written of a path that begins with `//` (section 3.3).
use Rattle.std.specs.Prelude.{◌≡◌, ℕ, Bool, true, false, cond, not, ◌||◌, ◌==◌, List, [], ◌∷◌, ◌++◌}
use Rattle.iri_grammar.specs.Cut.{before, from, lacks}
use Rattle.iri_grammar.specs.Pieces.{pieces}
use Rattle.iri_normal.specs.Dots.{is_dot_segment, is_two_dots}
use Rattle.iri_grammar.specs.Characters.{dot, slash}
use Rattle.iri_grammar.specs.Parts.{starts_with_slashes}

-- the output without its last segment and the `/` before it: what stands before the last `/`, or nothing where there is none
abbrev pub without_last : List ℕ → List ℕ
without_last [] = []
without_last (x ∷ xs) = cond (lacks slash xs) [] (x ∷ without_last xs)

-- the first segment of the input, without a `/` before it
abbrev pub first_segment : ℕ → List ℕ → List ℕ
first_segment x xs = cond (x == slash) (before slash xs) (x ∷ before slash xs)

-- one step, from an input and an output buffer to the next ones. The cases exclude one another
pub data Step (input output next_input next_output : List ℕ) : Type 0 where
  -- A: a prefix `../` or `./` is removed from the input
  remove_prefix : (d : List ℕ) → is_dot_segment d ≡ true → input ≡ d ++ slash ∷ next_input → next_output ≡ output
      → Step input output next_input next_output
  -- B, C: a prefix `/./` or `/../`, or `/.` or `/..` as the whole input, is replaced by `/`; by `..` the output loses its last segment
  -- and the `/` before it
  replace : (d rest : List ℕ) → is_dot_segment d ≡ true → input ≡ slash ∷ (d ++ slash ∷ rest) → next_input ≡ slash ∷ rest
      → next_output ≡ cond (is_two_dots d) (without_last output) output → Step input output next_input next_output
  replace_last : (d : List ℕ) → is_dot_segment d ≡ true → input ≡ slash ∷ d → next_input ≡ slash ∷ []
      → next_output ≡ cond (is_two_dots d) (without_last output) output → Step input output next_input next_output
  -- D: `.` or `..` as the whole input is removed
  remove_all : is_dot_segment input ≡ true → next_input ≡ [] → next_output ≡ output → Step input output next_input next_output
  -- E: otherwise the first segment, with a `/` before it and up to the next `/`, moves to the end of the output
  move_segment : (x : ℕ) (xs : List ℕ) → is_dot_segment (first_segment x xs) ≡ false → input ≡ x ∷ xs → next_input ≡ from slash xs
      → next_output ≡ output ++ x ∷ before slash xs → Step input output next_input next_output

-- steps lead from the two buffers to an empty input and the result as output
pub data LeadsTo (result : List ℕ) : List ℕ → List ℕ → Type 0 where
  ended : (input output : List ℕ) → input ≡ [] → output ≡ result → LeadsTo result input output
  onward : (input output next_input next_output : List ℕ) → Step input output next_input next_output → LeadsTo result next_input next_output
      → LeadsTo result input output

-- the result is what dot removal makes of the path: the steps begin with the path as input and an empty output
abbrev pub IsWithoutDots : List ℕ → List ℕ → Type 0
IsWithoutDots path result = LeadsTo result path []

-- ---- the same as a function, over the segments between the slashes. That it gives the one result of the steps is a law

-- the segments of the output stand with the last one first; it has at least one, which may be empty
abbrev pub without_top : List (List ℕ) → List (List ℕ)
without_top [] = [] ∷ []
without_top (s ∷ []) = [] ∷ []
without_top (s ∷ t ∷ ss) = t ∷ ss

-- after a dot segment at the end of the path a `/` stays
abbrev pub closed : List (List ℕ) → List (List ℕ) → List (List ℕ)
closed [] output = [] ∷ output
closed (s ∷ ss) output = output

-- the segments that follow a `/`
abbrev pub remove_after : List (List ℕ) → List (List ℕ) → List (List ℕ)
remove_after output [] = output
remove_after output (s ∷ ss) = cond (is_dot_segment s) (remove_after (closed ss (cond (is_two_dots s) (without_top output) output)) ss)
    (remove_after (s ∷ output) ss)

-- dot segments at the start go
abbrev pub remove_dots : List (List ℕ) → List (List ℕ)
remove_dots [] = [] ∷ []
remove_dots (s ∷ ss) = cond (is_dot_segment s) (remove_dots ss) (remove_after (s ∷ []) ss)

-- the text of segments, the last one first, with a `/` between each two
abbrev pub path_text : List (List ℕ) → List ℕ
path_text [] = []
path_text (s ∷ []) = s
path_text (s ∷ t ∷ ss) = path_text (t ∷ ss) ++ slash ∷ s

-- the path with its dot segments removed
unfoldable pub dots : List ℕ → List ℕ
dots path = path_text (remove_dots (pieces slash path))

-- without an authority, a path that begins with `//` is written with `/.` before it, so that no authority is read from it
abbrev pub guard : List ℕ → Bool → List ℕ
guard path authority_stands = cond (authority_stands || not (starts_with_slashes path)) path (slash ∷ dot ∷ path)
