-- Pieces and the first delimiter.
use Rattle.std.proofs.Common.{ℕ, List, [], Option, Some, None}
use Rattle.iri_grammar.specs.Pieces.{pieces}

-- the pieces of what may follow
abbrev pub more_pieces : ℕ → Option (List ℕ) → List (List ℕ)
more_pieces c None = []
more_pieces c (Some r) = pieces c r
