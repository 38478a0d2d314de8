-- Dot segments (RFC 3986 section 5.2.4). `%2E` and `%2e` count as a dot.
use Rattle.std.specs.Prelude.{ℕ, Bool, false, cond, ◌&&◌, ◌||◌, ◌==◌, List, [], ◌∷◌, Option, Some, None}
use Rattle.iri_grammar.specs.Parts.{is_empty}
use Rattle.iri_grammar.specs.Pieces.{pieces}
use Rattle.iri_grammar.specs.Characters.{dot, percent_sign, slash}
use Rattle.iri_grammar.specs.Seen.{goes_on_as_dot}

-- what follows a dot at the start, where there is one, in any spelling
abbrev pub after_dot : List ℕ → Option (List ℕ)
after_dot [] = None
after_dot (x ∷ []) = cond (x == dot) (Some []) None
after_dot (x ∷ y ∷ []) = cond (x == dot) (Some (y ∷ [])) None
after_dot (x ∷ y ∷ z ∷ xs) = cond (x == dot) (Some (y ∷ z ∷ xs)) (cond (x == percent_sign && goes_on_as_dot (y ∷ z ∷ xs)) (Some xs) None)

-- what is left after a dot is nothing
abbrev pub is_all : Option (List ℕ) → Bool
is_all None = false
is_all (Some rest) = is_empty rest

-- `.`, in any spelling
abbrev pub is_one_dot : List ℕ → Bool
is_one_dot segment = is_all (after_dot segment)

abbrev pub is_one_dot_after : Option (List ℕ) → Bool
is_one_dot_after None = false
is_one_dot_after (Some rest) = is_one_dot rest

-- `..`, in any spelling
abbrev pub is_two_dots : List ℕ → Bool
is_two_dots segment = is_one_dot_after (after_dot segment)

-- `.` or `..`
unfoldable pub is_dot_segment : List ℕ → Bool
is_dot_segment segment = is_one_dot segment || is_two_dots segment

abbrev pub any_dot_segment : List (List ℕ) → Bool
any_dot_segment [] = false
any_dot_segment (s ∷ ss) = is_dot_segment s || any_dot_segment ss

-- a dot segment stands among the segments of the path, between its slashes
abbrev pub has_dot_segment : List ℕ → Bool
has_dot_segment path = any_dot_segment (pieces slash path)
