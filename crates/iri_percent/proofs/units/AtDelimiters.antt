-- A text with a delimiter: units and triplet normal form on both sides of it.
use Rattle.iri_percent.proofs.Common.{◌≡◌, ℕ, zero, suc, ◌+◌, ◌*◌, ◌-◌, ◌≤◌, true, false, cond, ◌&&◌, List, [], ◌∷◌, ◌++◌, Option, Some}
use Rattle.iri_percent.proofs.Common.{None, length, refl, sym, ◌∙◌, ap, arith, length-append, ◌==◌, is_ascii_hexdigit, len_utf8}
use Rattle.iri_percent.proofs.Common.{encode_utf8, length-encode, Tests, Plain, Char, is_triplet, octet, octets, first_char, triplet_unit}
use Rattle.iri_percent.proofs.Common.{byte_unit, first_unit, unit_text, read_from, units, normal, as_it_is, pct, written, flat_map}
use Rattle.iri_percent.proofs.Common.{flat_map-append}
use Rattle.std.proofs.lemmas.List.{take-append-le}
use Rattle.std.proofs.Math.Bool.{and-false}
use Rattle.iri_percent.proofs.units.ByBytes.{normal-by_bytes}
use Rattle.iri_percent.proofs.units.AtStart.{first_char_is, units_plain}
use Rattle.iri_percent.specs.Units.{IsOutsideTriplets}
use Rattle.iri_percent.proofs.units.Joined.{unit_prefix}

no_second : (x m b : ℕ) → IsOutsideTriplets m → is_triplet x m b ≡ false
no_second x m b k = ap (λ v. x == 37 && (v && is_ascii_hexdigit b)) k.digit ∙ and-false (x == 37)

no_third : (x a m : ℕ) → IsOutsideTriplets m → is_triplet x a m ≡ false
no_third x a m k = ap (λ v. x == 37 && (is_ascii_hexdigit a && v)) k.digit ∙ ap (λ v. x == 37 && v) (and-false (is_ascii_hexdigit a))
    ∙ and-false (x == 37)

no_first : (m a b : ℕ) → IsOutsideTriplets m → is_triplet m a b ≡ false
no_first m a b k = ap (λ v. v && (is_ascii_hexdigit a && is_ascii_hexdigit b)) k.percent

octets_none : (m : ℕ) (b : List ℕ) → IsOutsideTriplets m → octets (m ∷ b) ≡ []
octets_none m [] k = refl
octets_none m (x ∷ []) k = refl
octets_none m (x ∷ y ∷ b) k = ap (λ v. cond v (octet x y ∷ octets b) []) (no_first m x y k)

pub octets_delimiter : (m : ℕ) (a b : List ℕ) → IsOutsideTriplets m → octets (a ++ m ∷ b) ≡ octets a
octets_delimiter m [] b k = octets_none m b k
octets_delimiter m (x ∷ []) [] k = refl
octets_delimiter m (x ∷ []) (y ∷ b) k = ap (λ v. cond v (octet m y ∷ octets b) []) (no_second x m y k)
octets_delimiter m (x ∷ y ∷ []) b k = ap (λ v. cond v (octet y m ∷ octets b) []) (no_third x y m k)
octets_delimiter m (x ∷ y ∷ z ∷ a) b k = ap (λ os. cond (is_triplet x y z) (octet y z ∷ os) []) (octets_delimiter m a b k)

length_octets : (t : List ℕ) → 3 * length (octets t) ≤ length t
length_octets [] = omega arith
length_octets (x ∷ []) = omega arith
length_octets (x ∷ y ∷ []) = omega arith
length_octets (x ∷ y ∷ z ∷ xs) =
    let h = length_octets xs in
    elim (is_triplet x y z) as (λ v. 3 * length (cond v (octet y z ∷ octets xs) []) ≤ length (x ∷ y ∷ z ∷ xs)) [
      | true ↦ omega arith
      | false ↦ omega arith
    ]

-- a character in triplets stands in the text
pub char_within : (t : List ℕ) (c : ℕ) → first_char (octets t) ≡ Some c → 3 * len_utf8 c ≤ length t
char_within t c h =
    let g = first_char_is (octets t) c h in
    let e : length (octets t) ≡ len_utf8 c + length g.rest =
    ap length g.split ∙ length-append (encode_utf8 c) g.rest ∙ ap (λ n. n + length g.rest) (length-encode c) in
    omega (arith, e, length_octets t)

-- what follows the octets of a character in triplets makes no difference
pub triplet_more : (a b : ℕ) (t r : List ℕ) (o : Option ℕ) → first_char (octets t) ≡ o → triplet_unit a b (t ++ r) o ≡ triplet_unit a b t o
triplet_more a b t r None h = refl
triplet_more a b t r (Some c) h = ap (λ l. Char c l) (take-append-le (3 * len_utf8 c) t r (char_within t c h))

pub first_candidate : (m x : ℕ) (a b : List ℕ) → IsOutsideTriplets m → first_unit x (a ++ m ∷ b) ≡ first_unit x a
first_candidate m x [] [] k = refl
first_candidate m x [] (y ∷ b) k = ap (λ v. cond v (triplet_unit m y (x ∷ m ∷ y ∷ b) (first_char (octets (x ∷ m ∷ y ∷ b)))) (byte_unit x))
    (no_second x m y k)
first_candidate m x (y ∷ []) b k = ap (λ v. cond v (triplet_unit y m (x ∷ y ∷ m ∷ b) (first_char (octets (x ∷ y ∷ m ∷ b)))) (byte_unit x))
    (no_third x y m k)
first_candidate m x (y ∷ z ∷ a) b k =
    ap (λ os. cond (is_triplet x y z) (triplet_unit y z (x ∷ y ∷ z ∷ (a ++ m ∷ b)) (first_char os)) (byte_unit x))
    (octets_delimiter m (x ∷ y ∷ z ∷ a) b k)
    ∙ ap (λ u. cond (is_triplet x y z) u (byte_unit x))
    (triplet_more y z (x ∷ y ∷ z ∷ a) (m ∷ b) (first_char (octets (x ∷ y ∷ z ∷ a))) refl)

-- a unit stands in the text
pub unit_within : (x : ℕ) (xs : List ℕ) → length (unit_text (first_unit x xs)) ≤ length (x ∷ xs)
unit_within x xs = let f = unit_prefix x xs in omega (arith, ap length f.split, length-append (unit_text (first_unit x xs)) f.rest)

-- the units before a delimiter, the delimiter, and the units after it
read_from_delimiter : (m n : ℕ) (a b : List ℕ) → IsOutsideTriplets m → n ≤ length a
    → read_from first_unit unit_text n (a ++ m ∷ b) ≡ read_from first_unit unit_text n a ++ Plain m ∷ units b
unfolding read_from
read_from_delimiter m zero [] b k h = units_plain m b k.percent
read_from_delimiter m (suc n) [] b k h = absurd (omega arith)
read_from_delimiter m (suc n) (x ∷ a) b k h = read_from_delimiter m n a b k (omega arith)
read_from_delimiter m zero (x ∷ a) b k h =
    let w = unit_within x a in
    ap (λ u. u ∷ read_from first_unit unit_text (length (unit_text u) - 1) (a ++ m ∷ b)) (first_candidate m x a b k)
    ∙ ap (λ us. first_unit x a ∷ us) (read_from_delimiter m (length (unit_text (first_unit x a)) - 1) a b k (omega arith))

pub units_delimiter : (m : ℕ) (a b : List ℕ) → IsOutsideTriplets m → units (a ++ m ∷ b) ≡ units a ++ Plain m ∷ units b
units_delimiter m a b k = read_from_delimiter m 0 a b k (omega arith)

pub normal_delimiter : (s : Tests) (f : ℕ → ℕ) (m : ℕ) (a b : List ℕ) → IsOutsideTriplets m → normal s f (a ++ m ∷ b) ≡ normal s f a ++ f m ∷ normal s f b
normal_delimiter s f m a b k =
    normal-by_bytes s f (a ++ m ∷ b)
    ∙ ap (flat_map (written s f)) (units_delimiter m a b k)
    ∙ flat_map-append (written s f) (units a) (Plain m ∷ units b)
    ∙ sym (ap (λ l. l ++ f m ∷ normal s f b) (normal-by_bytes s f a)
    ∙ ap (λ l. flat_map (written s f) (units a) ++ f m ∷ l) (normal-by_bytes s f b))

pub pct_delimiter : (s : Tests) (m : ℕ) (a b : List ℕ) → IsOutsideTriplets m → pct s (a ++ m ∷ b) ≡ pct s a ++ m ∷ pct s b
pct_delimiter s m a b k = normal_delimiter s as_it_is m a b k

-- `/`, `?`, `#` and `:` are delimiters
pub slash : IsOutsideTriplets 47
slash = record { percent = refl; digit = refl }
