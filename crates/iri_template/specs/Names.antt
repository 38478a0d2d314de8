-- The names of variables (RFC 6570 section 2.3). A name is the list of its bytes, which are ASCII.
use Rattle.std.specs.Prelude.{ℕ, Bool, false, not, ◌&&◌, ◌||◌, ◌==◌, List, [], ◌∷◌}
use Rattle.std.specs.Char.{is_ascii_alphanumeric}
use Rattle.iri_grammar.specs.Over.{over}
use Rattle.iri_grammar.specs.Characters.{dot, underscore}

-- what a name is made of, triplets apart: letters, digits, `_` and dots
unfoldable pub is_name_char : ℕ → Bool
is_name_char c = is_ascii_alphanumeric c || c == underscore || c == dot

-- something stands there, and no dot is the first of it
abbrev pub begins_name : List ℕ → Bool
begins_name [] = false
begins_name (c ∷ cs) = not (c == dot)

-- `varname`: one or more of `varchar` and dots, and no dot is the first. RFC 6570 has no dot at the end, and no two in a row; a name here may.
unfoldable pub is_varname : List ℕ → Bool
is_varname x = begins_name x && over is_name_char x
