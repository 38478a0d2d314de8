-- A list written over a buffer from some place on.
use Rattle.std.specs.Prelude.{ℕ, zero, suc, List, [], ◌∷◌}
use Rattle.iri_calls.specs.Buffers.{over}

-- what stands before the place, then the list over the rest
unfoldable pub over_at : {A : Type 0} → ℕ → List A → List A → List A
over_at zero xs buffer = over xs buffer
over_at (suc n) xs [] = []
over_at (suc n) xs (y ∷ buffer) = y ∷ over_at n xs buffer
