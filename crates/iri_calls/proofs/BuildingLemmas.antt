-- Parts that a builder is given one after the other.
use Rattle.std.proofs.Common.{◌≡◌, ◌<◌, ◌≤◌, ℕ, zero, suc, List, [], ◌∷◌, length, get_or, drop, refl, sym, ap, arith}
use Rattle.iri_edit.specs.Built.{Given}
use Rattle.iri_calls.specs.Building.{given_from, set}
use Rattle.iri_calls.specs.declared.building.Part.{Part}

pub given-next : (ps : List Part) (i : ℕ) (g : Given) (p d : Part) → i < length ps → p ≡ get_or ps i d
    → given_from g (drop i ps) ≡ given_from (set g p) (drop (suc i) ps)
unfolding given_from
given-next [] i g p d h is = absurd (omega arith)
given-next (x ∷ xs) zero g p d h is = ap (λ z. given_from (set g z) xs) (sym is)
given-next (x ∷ xs) (suc i) g p d h is = given-next xs i g p d (omega arith) is

pub given-done : (ps : List Part) (i : ℕ) (g : Given) → length ps ≤ i → given_from g (drop i ps) ≡ g
unfolding given_from
given-done [] zero g h = refl
given-done [] (suc i) g h = refl
given-done (x ∷ xs) zero g h = absurd (omega arith)
given-done (x ∷ xs) (suc i) g h = given-done xs i g (omega arith)
