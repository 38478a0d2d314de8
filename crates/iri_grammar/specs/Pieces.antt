-- A text as pieces with a delimiter between them.
use Rattle.std.specs.Prelude.{ℕ, cond, ◌==◌, List, [], ◌∷◌, ◌++◌}

-- the first piece with a character before it
abbrev pub onto : ℕ → List (List ℕ) → List (List ℕ)
onto x [] = (x ∷ []) ∷ []
onto x (p ∷ ps) = (x ∷ p) ∷ ps

-- the pieces between the delimiters c; a text without a delimiter is one piece
abbrev pub pieces : ℕ → List ℕ → List (List ℕ)
pieces c [] = [] ∷ []
pieces c (x ∷ xs) = cond (x == c) ([] ∷ pieces c xs) (onto x (pieces c xs))

-- the pieces put together, a delimiter between each two
abbrev pub joined : ℕ → List (List ℕ) → List ℕ
joined c [] = []
joined c (p ∷ []) = p
joined c (p ∷ q ∷ ps) = p ++ c ∷ joined c (q ∷ ps)
