-- Whether a path loses dot segments, told by its segments.
use Rattle.std.specs.Prelude.{ℕ, Bool, true, false, not, ◌&&◌, ◌||◌, List, [], ◌∷◌}
use Rattle.iri_grammar.specs.Parts.{is_empty}
use Rattle.iri_grammar.specs.Pieces.{pieces}
use Rattle.iri_normal.specs.Dots.{is_two_dots, any_dot_segment, has_dot_segment, is_dot_segment}

-- a slash stands before these segments
abbrev pub is_after_slash : List (List ℕ) → Bool
is_after_slash ([] ∷ s ∷ ss) = true
is_after_slash _ = false

-- the segments begin with a guard, `/.` before `//` in any spelling, and none of the others is a dot segment
abbrev pub is_guard_alone : List (List ℕ) → Bool
is_guard_alone (first ∷ dot ∷ ss) = is_empty first && (is_dot_segment dot && not (is_two_dots dot))
    && (is_after_slash ss && not (any_dot_segment ss))
is_guard_alone _ = false

-- the path is another one without its dot segments, and guarded
abbrev pub loses_dots : List ℕ → Bool → Bool
loses_dots path authority_stands = has_dot_segment path && (authority_stands || not (is_guard_alone (pieces 47 path)))
