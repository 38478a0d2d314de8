-- Dot removal with a buffer (RFC 3986 section 5.2.4): in it stand the segments that stay so far, each with its slash.
use Rattle.std.specs.Prelude.{ℕ, zero, suc, Bool, cond, List, [], ◌∷◌, ◌++◌}
use Rattle.iri_grammar.specs.Characters.{slash}
use Rattle.iri_grammar.specs.Pieces.{pieces}
use Rattle.iri_normal.specs.DotRemoval.{without_last}
use Rattle.iri_normal.specs.Dots.{is_two_dots, is_dot_segment}

-- the text without its last byte
abbrev pub but_last : List ℕ → List ℕ
but_last [] = []
but_last (x ∷ []) = []
but_last (x ∷ y ∷ ys) = x ∷ but_last (y ∷ ys)

-- without the last segment; where that is the first one, its slash stays
abbrev pub popped : List ℕ → List ℕ
popped [] = []
popped (x ∷ xs) = without_last (but_last (x ∷ xs)) ++ slash ∷ []

-- so many times
abbrev pub popped_times : ℕ → List ℕ → List ℕ
popped_times zero buffer = buffer
popped_times (suc n) buffer = popped_times n (popped buffer)

-- what a dot segment leaves
abbrev pub left : Bool → List ℕ → List ℕ
left two buffer = cond two (popped buffer) buffer

-- what stands after a segment, before these
abbrev pub closing : List (List ℕ) → List ℕ
closing [] = []
closing (s ∷ ss) = slash ∷ []

-- what the buffer comes to, where these segments follow: a slash stands after each but the last
abbrev pub written_segments : List ℕ → List (List ℕ) → List ℕ
written_segments buffer [] = buffer
written_segments buffer (s ∷ ss) =
    cond (is_dot_segment s) (written_segments (left (is_two_dots s) buffer) ss) (written_segments (buffer ++ (s ++ closing ss)) ss)

-- the same of a path
abbrev pub written : List ℕ → List ℕ → List ℕ
written buffer path = written_segments buffer (pieces slash path)
