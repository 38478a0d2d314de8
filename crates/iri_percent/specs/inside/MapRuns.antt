-- The runs by which a mapped text is written.
use Rattle.std.specs.Prelude.{ℕ, Bool, cond, not, nat_lt}

-- a byte that goes on a run of bytes past ASCII, or of ASCII bytes
abbrev pub goes_on : Bool → ℕ → Bool
goes_on past b = cond past (not (nat_lt b 128)) (nat_lt b 128)
