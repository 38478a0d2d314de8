-- Pairs of texts, as the bytes of both.
use Rattle.std.specs.Prelude.{ℕ, List, Option, Some, None}
use Rattle.std.specs.String.{string_bytes}
use Rattle.std.specs.declared.alloc.Global.{Global}
use Rattle.std.specs.declared.string.String.{String}
use denote.Ref.{Bor}

abbrev pub pair_of : String Global × String Global → List ℕ × List ℕ
pair_of p = (string_bytes p.0, string_bytes p.1)

-- a borrowed pair that may be there
abbrev pub lent_pair : Option (Bor (List ℕ) × Bor (List ℕ)) → Option (List ℕ × List ℕ)
lent_pair None = None
lent_pair (Some p) = Some (p.0.now, p.1.now)
