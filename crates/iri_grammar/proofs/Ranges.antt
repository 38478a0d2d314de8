-- A range from the start.
use Rattle.std.proofs.Common.{◌≡◌, ℕ, List, take, slice_range, arith}
use Rattle.std.proofs.lemmas.Grind.{common_steps}

pub range_prefix : (t : List ℕ) (n : ℕ) → slice_range t 0 n ≡ take n t
range_prefix t n = grind (arith, common_steps)
