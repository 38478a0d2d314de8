-- A text cut at its first `"` or `\`.
use Rattle.std.specs.Prelude.{◌≡◌, ℕ, suc, List, [], ◌∷◌, ◌++◌, ◌<◌, length, take, drop, slice_index, Option, Some, None}
use Rattle.iri_link.specs.Characters.{backslash}
use Rattle.iri_link.specs.Written.{escaped}
use Rattle.iri_link.specs.inside.ReadQuoted.{unquoted}

-- the first delimiter of t stands at k
pub record IsDelimiterAt (t : List ℕ) (k : ℕ) : Type 0 where
  pub inside : k < length t
  pub low : slice_index t k < 128
  pub written : escaped t ≡ (take k t ++ (backslash ∷ slice_index t k ∷ [])) ++ escaped (drop (suc k) t)

-- t is a prefix without delimiters, the delimiter, and a rest
pub record IsCutAtDelimiter (t prefix delimiter rest : List ℕ) : Type 0 where
  pub written : escaped t ≡ (prefix ++ (backslash ∷ delimiter)) ++ escaped rest
  pub shorter : length rest < length t

-- the written form of the value of what is left of a quoted string
abbrev pub value_left : Option (List ℕ) → List ℕ
value_left None = []
value_left (Some r) = escaped (unquoted r)

-- in a quoted string t a chunk comes first, then what is written of a `\` that stands for itself, and a rest
pub record IsChunk (t chunk slash : List ℕ) (rest : Option (List ℕ)) : Type 0 where
  pub written : escaped (unquoted t) ≡ (escaped chunk ++ slash) ++ value_left rest
  pub shorter : (r : List ℕ) → rest ≡ Some r → length r < length t
