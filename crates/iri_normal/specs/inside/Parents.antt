-- How much stays of a directory without some of its last segments.
use Rattle.std.specs.Prelude.{◌≡◌, ◌==◌, ℕ, List, false, length, slice_get}
use Rattle.std.specs.Option.{ForSome}
use Rattle.iri_normal.specs.inside.Written.{popped_times}

-- how many bytes a text has; 0 says nothing
abbrev pub IsLengthOf : ℕ → List ℕ → Type 0
IsLengthOf len text = (len == 0) ≡ false → len ≡ length text

-- how many bytes a directory has without as many of its last segments; 0 says nothing
abbrev pub IsParent : ℕ → ℕ → List ℕ → Type 0
IsParent len k directory = IsLengthOf len (popped_times k directory)

-- each of the lengths is that of the directory without as many of its last segments as stand before it in the list
abbrev pub AreParents : List ℕ → List ℕ → Type 0
AreParents lens directory = (k : ℕ) → ForSome (slice_get lens k) (λ len. IsParent len k directory)
