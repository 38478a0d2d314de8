-- Pieces and the first delimiter.
use Rattle.iri_grammar.proofs.Common.{◌≡◌, ℕ, ◌+◌, ◌≤◌, true, false, cond, List, [], ◌∷◌, Some, length, refl, ap, arith, ◌==◌, before}
use Rattle.iri_grammar.proofs.Common.{after, onto, pieces, more_pieces}

-- the first piece stands before the first delimiter
pub pieces_cut : (c : ℕ) (t : List ℕ) → pieces c t ≡ before c t ∷ more_pieces c (after c t)
pieces_cut c [] = refl
pieces_cut c (x ∷ xs) =
    elim (x == c) as (λ b. cond b ([] ∷ pieces c xs) (onto x (pieces c xs))
    ≡ cond b [] (x ∷ before c xs) ∷ more_pieces c (cond b (Some xs) (after c xs))) [
      | true ↦ refl
      | false ↦ ap (onto x) (pieces_cut c xs)
    ]

-- what follows a delimiter is shorter
pub after_shorter : (c : ℕ) (t r : List ℕ) → after c t ≡ Some r → length r + 1 ≤ length t
after_shorter c [] r e = cc
after_shorter c (x ∷ xs) r e =
    elim (x == c) as (λ b. cond b (Some xs) (after c xs) ≡ Some r → length r + 1 ≤ length (x ∷ xs)) [
      | true ↦ λ k. let same : xs ≡ r = cc in omega (arith, ap length same)
      | false ↦ λ k. omega (arith, after_shorter c xs r k)
    ] e
