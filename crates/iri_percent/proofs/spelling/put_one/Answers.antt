use Rattle.iri_percent.proofs.Common.{ℕ, zero, suc, ◌<◌, ◌/◌, [], ◌∷◌, get_or, sym, ap, ◌∙◌, subst, arith, IsUtf8, capital_hex}
use Rattle.iri_percent.proofs.coding.SpelledTriplets.{triplets-utf8}
use Rattle.iri_percent.proofs.spelling.put_one.Goals as goal

one_small : (o : ℕ) → o < 256 → (i : ℕ) → get_or (o ∷ []) i 0 < 256
one_small o h zero = h
one_small o h (suc i) = omega arith

pub from_utf8_unchecked-requires : goal.from_utf8_unchecked-requires
from_utf8_unchecked-requires g c =
    let o = c.args.octet in
    let digits = ap (λ x. 37 ∷ x ∷ c.capital_digit-2.result ∷ []) c.capital_digit.ensures
    ∙ ap (λ x. 37 ∷ capital_hex (o / 16) ∷ x ∷ []) c.capital_digit-2.ensures in
    subst IsUtf8 (sym digits) (triplets-utf8 (o ∷ []) (one_small o (omega (arith, c.ranges.octet.fits))))
