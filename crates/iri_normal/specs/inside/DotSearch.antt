-- Where a path is searched for its first dot segment.
use Rattle.std.specs.Prelude.{ℕ, Bool, false, ◌&&◌, ◌==◌, List, [], ◌∷◌}
use Rattle.iri_grammar.specs.Cut.{before, after}
use Rattle.iri_grammar.specs.inside.PiecesLaws.{more_pieces}
use Rattle.iri_normal.specs.Dots.{is_dot_segment, any_dot_segment}

-- the first segment is a dot segment
abbrev pub dots_before : List ℕ → Bool
dots_before path = is_dot_segment (before 47 path)

-- a slash stands at the start, and a dot segment after it
abbrev pub slash_and_dots : List ℕ → Bool
slash_and_dots [] = false
slash_and_dots (x ∷ xs) = x == 47 && dots_before xs

-- a dot segment stands after the first slash
abbrev pub dots_after : List ℕ → Bool
dots_after path = any_dot_segment (more_pieces 47 (after 47 path))
