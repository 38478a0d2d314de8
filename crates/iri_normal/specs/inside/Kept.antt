-- How segments act on a stack of others, those of the output buffer (RFC 3986 section 5.2.4): they take some of them away, and then push
-- what stays of themselves.
use Rattle.std.specs.Prelude.{ℕ, ◌+◌, ◌-◌, cond, ◌==◌, List, [], ◌∷◌, ◌++◌}
use Rattle.iri_normal.specs.Dots.{is_dot_segment, is_two_dots}
use Rattle.iri_grammar.specs.Characters.{slash}

-- how many a segment with its slash takes away, where what follows takes n away: `..` one more, and another segment that isn't a dot
-- segment may itself be one of the n
abbrev pub taken_by : List ℕ → ℕ → ℕ
taken_by s n = cond (is_dot_segment s) (cond (is_two_dots s) (n + 1) n) (n - 1)

-- how many the segments of a path take away; the last one has no slash, and is none of the n
abbrev pub taken : List (List ℕ) → ℕ → ℕ
taken [] n = n
taken (s ∷ []) n = cond (is_dot_segment s) (cond (is_two_dots s) (n + 1) n) n
taken (s ∷ t ∷ ss) n = taken_by s (taken (t ∷ ss) n)

-- what stays of them
abbrev pub kept : List (List ℕ) → ℕ → List ℕ
kept [] n = []
kept (s ∷ []) n = cond (is_dot_segment s) [] s
kept (s ∷ t ∷ ss) n = cond (is_dot_segment s) [] (cond (taken (t ∷ ss) n == 0) (s ++ slash ∷ []) []) ++ kept (t ∷ ss) n
