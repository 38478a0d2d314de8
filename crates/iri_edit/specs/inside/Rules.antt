-- The rules of a path by what is beside it, and texts with a delimiter after them.
use Rattle.std.specs.Prelude.{ℕ, Bool, cond, not, ◌&&◌, ◌||◌, List, [], ◌∷◌, ◌++◌, Option, Some, None}
use Rattle.iri_grammar.specs.Cut.{before, lacks}
use Rattle.iri_grammar.specs.Parts.{is_empty, starts_with_slash, starts_with_slashes}

-- the rules of a path, by whether a scheme and an authority stand (RFC 3986 section 3.3)
abbrev pub rules_by : Bool → Bool → List ℕ → Bool
rules_by scheme authority path = cond authority (is_empty path || starts_with_slash path)
    (not (starts_with_slashes path) && (scheme || lacks 58 (before 47 path)))

-- a part that may be there, with a delimiter after it
abbrev pub ended : ℕ → Option (List ℕ) → List ℕ
ended c None = []
ended c (Some x) = x ++ c ∷ []
