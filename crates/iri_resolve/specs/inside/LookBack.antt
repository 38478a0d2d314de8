-- Where a byte of a text stands among its triplets, told by the bytes before it.
use Rattle.std.proofs.Common.{ℕ, ◌-◌, Bool, ◌&&◌, List}
use Rattle.std.specs.Prelude.{◌==◌, nat_le, slice_index}

-- a `%` stands n bytes before i
abbrev pub percent_before : ℕ → ℕ → List ℕ → Bool
percent_before n i t = nat_le n i && (slice_index t (i - n) == 37)
