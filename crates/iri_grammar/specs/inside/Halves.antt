-- ASCII characters by the halves of their bytes.
use Rattle.std.specs.Prelude.{ℕ, Bool, List, ◌*◌, ◌/◌, ◌==◌, not, drop, slice_index, bit_and}
use Rattle.iri_grammar.specs.declared.run.TheConstants.{HIGH_HALVES, LOW_HALVES}

-- a row of the table, and those after it
abbrev pub rows : ℕ → List ℕ
rows r = drop (r * 16) LOW_HALVES

-- the high halves that go with the low half of b in a row, a bit for each
abbrev pub low_bits : ℕ → ℕ → ℕ
low_bits r b = slice_index (rows r) (bit_and b 15)

-- the bit of the high half of b
abbrev pub high_bit : ℕ → ℕ
high_bit b = slice_index HIGH_HALVES (b / 16)

-- b is of a row
abbrev pub row_test : ℕ → ℕ → Bool
row_test r b = not (bit_and (low_bits r b) (high_bit b) == 0)
