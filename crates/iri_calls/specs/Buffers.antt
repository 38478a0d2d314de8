-- A list written over the start of a buffer.
use Rattle.std.specs.Prelude.{List, [], ◌∷◌}

-- the members of the list, bytes or slots, and after them what stood there; what the buffer has no room for is cut off
unfoldable pub over : {A : Type 0} → List A → List A → List A
over [] buffer = buffer
over (x ∷ xs) [] = []
over (x ∷ xs) (y ∷ buffer) = x ∷ over xs buffer
