-- Texts that were put.
use Rattle.iri_cli.proofs.Common.{◌≡◌, ℕ, List, Option, Result, subst, KeepsRoom, PutsAll, SinkState, Failed}

-- the same text was put
pub puts_so : {a b : SinkState} {r : Result (Unit {0}) Failed} {t u : List ℕ} → t ≡ u → PutsAll a b r t → PutsAll a b r u
puts_so {a} {b} {r} e p = subst (PutsAll a b r) e p

pub room_text : {a b : Option ℕ} {P : Type 0} {t u : List ℕ} → t ≡ u → KeepsRoom a b t P → KeepsRoom a b u P
room_text {a} {b} {P} e k = subst (λ x. KeepsRoom a b x P) e k
