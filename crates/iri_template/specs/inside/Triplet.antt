-- A triplet at the start of a text.
use Rattle.std.specs.Prelude.{ℕ, Bool, false, List, ◌∷◌}
use Rattle.iri_percent.specs.Units.{is_triplet}

abbrev pub begins_triplet : List ℕ → Bool
begins_triplet (x ∷ a ∷ b ∷ xs) = is_triplet x a b
begins_triplet t = false
