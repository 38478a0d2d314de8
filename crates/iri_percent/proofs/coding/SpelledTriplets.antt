-- Octets spelled as triplets.
use Rattle.iri_percent.proofs.Common.{◌≡◌, ℕ, zero, suc, ◌+◌, ◌<◌, List, [], ◌∷◌, ◌++◌, length, take, drop, get_or, sym, ◌∙◌, ap, arith}
use Rattle.iri_percent.proofs.Common.{append_assoc, take-append-drop, ◌/◌, ◌%◌, IsAscii, IsUtf8, nat_tests, capital_hex, triplets}
use Rattle.std.proofs.Common.{set, length-set}
use Rattle.std.proofs.Math.Seq.{take-suc}
use Rattle.std.proofs.lemmas.Str.{IsUtf8-from_ascii}
use Rattle.std.proofs.lemmas.List.{take_more_set}
use Rattle.iri_percent.proofs.coding.EncodedRuns.{triplets-append}

three_set : (buf : List ℕ) (n a b d : ℕ) → n + 2 < length buf
    → take (n + 3) (set (set (set buf n a) (n + 1) b) (n + 2) d) ≡ take n buf ++ (a ∷ b ∷ d ∷ [])
three_set buf n a b d h =
    let x = set buf n a in
    let y = set x (n + 1) b in
    let three : n + 3 ≡ (n + 2) + 1 = omega arith in
    let two : n + 2 ≡ (n + 1) + 1 = omega arith in
    ap (λ k. take k (set y (n + 2) d)) three
    ∙ take_more_set y (n + 2) d (omega (arith, length-set x (n + 1) b, length-set buf n a))
    ∙ ap (λ l. l ++ (d ∷ [])) (ap (λ k. take k y) two ∙ take_more_set x (n + 1) b (omega (arith, length-set buf n a))
    ∙ ap (λ l. l ++ (b ∷ [])) (take_more_set buf n a (omega arith)) ∙ append_assoc (take n buf) (a ∷ []) (b ∷ []))
    ∙ append_assoc (take n buf) (a ∷ b ∷ []) (d ∷ [])

pub one_spelled : (buf os : List ℕ) (n i o high low : ℕ) → n + 2 < length buf → i < length os → o ≡ get_or os i 0
    → high ≡ capital_hex (o / 16) → low ≡ capital_hex (o % 16) → take n buf ≡ triplets (take i os)
    → take (n + 3) (set (set (set buf n 37) (n + 1) high) (n + 2) low) ≡ triplets (take (i + 1) os)
one_spelled buf os n i o high low room within is h l so_far =
    let next : suc i ≡ i + 1 = omega arith in
    three_set buf n 37 high low room
    ∙ ap (λ t. t ++ (37 ∷ high ∷ low ∷ [])) so_far
    ∙ ap (λ t. triplets (take i os) ++ t) (ap (λ x. 37 ∷ x ∷ low ∷ []) h ∙ ap (λ x. 37 ∷ capital_hex (o / 16) ∷ x ∷ []) l)
    ∙ sym (triplets-append (take i os) (o ∷ []))
    ∙ ap triplets (ap (λ x. take i os ++ (x ∷ [])) is ∙ sym (take-suc os i 0 within) ∙ ap (λ k. take k os) next)

-- spelled octets are ASCII
pub hex_below : (n : ℕ) → n < 16 → capital_hex n < 128
hex_below n h = grind (arith, nat_tests)

triplets-ascii : (os : List ℕ) → ((i : ℕ) → get_or os i 0 < 256) → IsAscii (triplets os)
triplets-ascii [] h zero = omega arith
triplets-ascii [] h (suc i) = omega arith
triplets-ascii (x ∷ os) h zero = omega arith
triplets-ascii (x ∷ os) h (suc zero) = let small : x < 256 = h 0 in hex_below (x / 16) (omega arith)
triplets-ascii (x ∷ os) h (suc (suc zero)) = hex_below (x % 16) (omega arith)
triplets-ascii (x ∷ os) h (suc (suc (suc i))) = triplets-ascii os (λ k. h (suc k)) i

pub triplets-utf8 : (os : List ℕ) → ((i : ℕ) → get_or os i 0 < 256) → IsUtf8 (triplets os)
triplets-utf8 os h = IsUtf8-from_ascii (triplets os) (triplets-ascii os h)

-- what was spelled, some octets, and those after them
pub triplets_split : (done os few more : List ℕ) (n : ℕ) → few ≡ take n os → more ≡ drop n os
    → done ++ triplets os ≡ (done ++ triplets few) ++ triplets more
triplets_split done os few more n f m =
    ap (λ l. done ++ triplets l) (sym (take-append-drop n os) ∙ ap (λ l. l ++ drop n os) (sym f) ∙ ap (λ l. few ++ l) (sym m))
    ∙ ap (λ l. done ++ l) (triplets-append few more)
    ∙ sym (append_assoc done (triplets few) (triplets more))

-- what is in ASCII is a text
pub ruleset spelled_texts = (triplets-utf8, IsUtf8-from_ascii)
