-- Decoding at the start of a text, and the fragments put together.
use Rattle.iri_percent.proofs.Common.{◌==◌, flat_map, is_ascii_hexdigit, before, lacks, by_test, is_triplet, octet, octets, two_digits}
use Rattle.iri_percent.proofs.Common.{decoding, has_triplet, Octet, Percent, fragments, fragment_bytes, ◌≡◌, ℕ, suc, ◌+◌, ◌<◌, ◌≤◌, true}
use Rattle.iri_percent.proofs.Common.{false, cond, ◌&&◌, ◌||◌, List, [], ◌∷◌, ◌++◌, length, drop, get_or, refl, sym, ◌∙◌, ap, subst, arith}
use Rattle.iri_percent.proofs.Common.{eqb-true, list_any, is_octet}
use Rattle.std.proofs.Common.{◌≢◌}
use Rattle.std.proofs.Common.{min}
use Rattle.iri_grammar.specs.Cut.{from}
use Rattle.iri_percent.specs.Decoding.{Fragment, Run, before_fragments, byte_before}
use Rattle.iri_percent.proofs.units.AtStart.{lacks_first}

-- ---- decoding from the left
pub decoding-triplet : (a b : ℕ) (xs : List ℕ) → is_ascii_hexdigit a ≡ true → is_ascii_hexdigit b ≡ true
    → decoding (37 ∷ a ∷ b ∷ xs) ≡ octet a b ∷ decoding xs
unfolding decoding
decoding-triplet a b xs p q = rw (p, q) refl

pub decoding-plain : (x : ℕ) (xs : List ℕ) → (x == 37) ≡ false → decoding (x ∷ xs) ≡ x ∷ decoding xs
unfolding decoding
decoding-plain x [] h = refl
decoding-plain x (a ∷ []) h = refl
decoding-plain x (a ∷ b ∷ xs) h = rw h refl

pub decoding-plains : (ys xs : List ℕ) → lacks 37 ys ≡ true → decoding (ys ++ xs) ≡ ys ++ decoding xs
decoding-plains [] xs h = refl
decoding-plains (y ∷ ys) xs h =
    let k = lacks_first y ys h in
    decoding-plain y (ys ++ xs) k.0 ∙ ap (λ z. y ∷ z) (decoding-plains ys xs k.1)

-- ---- fragments
bytes-before : (x : ℕ) (fs : List Fragment) → flat_map fragment_bytes (before_fragments x fs) ≡ x ∷ flat_map fragment_bytes fs
bytes-before x [] = refl
bytes-before x (Run r ∷ fs) = refl
bytes-before x (Octet o ∷ fs) = refl
bytes-before x (Percent ∷ fs) = refl

bytes-byte : (x : ℕ) (fs : List Fragment) → flat_map fragment_bytes (byte_before x fs) ≡ x ∷ flat_map fragment_bytes fs
bytes-byte x fs =
    elim (x == 37) as (λ b. (x == 37) ≡ b → flat_map fragment_bytes (cond b (Percent ∷ fs) (before_fragments x fs))
    ≡ x ∷ flat_map fragment_bytes fs) [
      | true ↦ λ e. ap (λ y. y ∷ flat_map fragment_bytes fs) (sym (eqb-true x 37 e))
      | false ↦ λ _. bytes-before x fs
    ] refl

pub fragments-joined : (t : List ℕ) → flat_map fragment_bytes (fragments t) ≡ decoding t
unfolding fragments decoding
fragments-joined [] = refl
fragments-joined (x ∷ []) = bytes-byte x []
fragments-joined (x ∷ a ∷ []) = bytes-byte x (byte_before a []) ∙ ap (λ z. x ∷ z) (bytes-byte a [])
fragments-joined (x ∷ a ∷ b ∷ xs) =
    elim (is_triplet x a b) as (λ v. flat_map fragment_bytes
    (cond v (Octet (octet a b) ∷ fragments xs) (byte_before x (fragments (a ∷ b ∷ xs))))
    ≡ cond v (octet a b ∷ decoding xs) (x ∷ decoding (a ∷ b ∷ xs))) [
      | true ↦ ap (λ z. octet a b ∷ z) (fragments-joined xs)
      | false ↦ bytes-byte x (fragments (a ∷ b ∷ xs)) ∙ ap (λ z. x ∷ z) (fragments-joined (a ∷ b ∷ xs))
    ]

fragments-plain : (x : ℕ) (xs : List ℕ) → (x == 37) ≡ false → fragments (x ∷ xs) ≡ before_fragments x (fragments xs)
unfolding fragments
fragments-plain x [] h = rw h refl
fragments-plain x (a ∷ []) h = rw h refl
fragments-plain x (a ∷ b ∷ xs) h = rw h refl

-- a run ends before a `%`
run_ends : (x : ℕ) (ys : List ℕ) → before_fragments x (fragments (37 ∷ ys)) ≡ Run (x ∷ []) ∷ fragments (37 ∷ ys)
unfolding fragments
run_ends x [] = refl
run_ends x (a ∷ []) = refl
run_ends x (a ∷ b ∷ ys) =
    elim (is_ascii_hexdigit a && is_ascii_hexdigit b) as (λ v. before_fragments x
    (cond v (Octet (octet a b) ∷ fragments ys) (Percent ∷ fragments (a ∷ b ∷ ys)))
    ≡ Run (x ∷ []) ∷ cond v (Octet (octet a b) ∷ fragments ys) (Percent ∷ fragments (a ∷ b ∷ ys))) [
      | true ↦ refl
      | false ↦ refl
    ]

fragments-nil : fragments [] ≡ []
unfolding fragments
fragments-nil = refl

fragments-run : (x : ℕ) (xs : List ℕ) → (x == 37) ≡ false → fragments (x ∷ xs) ≡ Run (before 37 (x ∷ xs)) ∷ fragments (from 37 (x ∷ xs))
fragments-run x [] h = fragments-plain x [] h ∙ rw (h, fragments-nil) refl
fragments-run x (y ∷ ys) h =
    fragments-plain x (y ∷ ys) h
    ∙ (rw h (by_test y 37 (λ b. (y == 37) ≡ b → before_fragments x (fragments (y ∷ ys))
    ≡ Run (x ∷ cond b [] (y ∷ before 37 ys)) ∷ fragments (cond b (y ∷ ys) (from 37 ys)))
    (λ same _. subst (λ z. before_fragments x (fragments (z ∷ ys)) ≡ Run (x ∷ []) ∷ fragments (z ∷ ys)) (sym same) (run_ends x ys))
    (λ _ n. ap (before_fragments x) (fragments-run y ys n) ∙ rw n refl)
    refl))

-- the run at the start of a text that doesn't begin with `%`
pub run-first : (t : List ℕ) → 0 < length t → get_or t 0 0 ≢ 37 → fragments t ≡ Run (before 37 t) ∷ fragments (from 37 t)
run-first [] h n = absurd (omega arith)
run-first (x ∷ xs) h n = fragments-run x xs (by_test x 37 (λ b. b ≡ false) (λ same. absurd (n same)) (λ _. refl))

-- the run's bytes are those before the rest
pub from-drop : (t : List ℕ) → from 37 t ≡ drop (length (before 37 t)) t
from-drop [] = refl
from-drop (x ∷ xs) = by_test x 37 (λ b. cond b (x ∷ xs) (from 37 xs) ≡ drop (length (cond b [] (x ∷ before 37 xs))) (x ∷ xs))
    (λ _. refl) (λ _. from-drop xs)

-- what a `%` begins
record IsPercent (t : List ℕ) : Type 0 where
  tail : List ℕ
  split : t ≡ 37 ∷ tail

is_percent : (t : List ℕ) → 0 < length t → get_or t 0 0 ≡ 37 → IsPercent t
is_percent [] h e = absurd (omega arith)
is_percent (x ∷ xs) h e = record { tail = xs; split = ap (λ y. y ∷ xs) e }

octet-fragment : (xs : List ℕ) (o : ℕ) (os : List ℕ) → octets (37 ∷ xs) ≡ o ∷ os → fragments (37 ∷ xs) ≡ Octet o ∷ fragments (drop 2 xs)
unfolding fragments
octet-fragment [] o os h = cc
octet-fragment (a ∷ []) o os h = cc
octet-fragment (a ∷ b ∷ xs) o os h =
    elim (is_ascii_hexdigit a && is_ascii_hexdigit b) as (λ v. cond v (octet a b ∷ octets xs) [] ≡ o ∷ os
    → cond v (Octet (octet a b) ∷ fragments xs) (Percent ∷ fragments (a ∷ b ∷ xs)) ≡ Octet o ∷ fragments xs) [
      | true ↦ λ e. let same : octet a b ≡ o = cc in ap (λ y. Octet y ∷ fragments xs) same
      | false ↦ λ e. cc
    ] h

pub octet-first : (t : List ℕ) (o : ℕ) (os : List ℕ) → 0 < length t → get_or t 0 0 ≡ 37 → octets t ≡ o ∷ os
    → fragments t ≡ Octet o ∷ fragments (drop 3 t)
octet-first t o os l h e = let p = is_percent t l h in
    subst (λ z. fragments z ≡ Octet o ∷ fragments (drop 3 z)) (sym p.split) (octet-fragment p.tail o os (ap octets (sym p.split) ∙ e))

no_digits : (xs : List ℕ) → octets (37 ∷ xs) ≡ [] → two_digits xs ≡ false
no_digits [] h = refl
no_digits (a ∷ []) h = refl
no_digits (a ∷ b ∷ xs) h = elim (is_ascii_hexdigit a && is_ascii_hexdigit b) as (λ v. cond v (octet a b ∷ octets xs) [] ≡ []
    → v ≡ false) [ true ↦ λ e. cc | false ↦ λ _. refl ] h

stray-fragment : (xs : List ℕ) → two_digits xs ≡ false → fragments (37 ∷ xs) ≡ Percent ∷ fragments xs
unfolding fragments
stray-fragment [] h = refl
stray-fragment (a ∷ []) h = refl
stray-fragment (a ∷ b ∷ xs) h = rw h refl

pub stray-first : (t : List ℕ) → 0 < length t → get_or t 0 0 ≡ 37 → octets t ≡ [] → fragments t ≡ Percent ∷ fragments (drop 1 t)
stray-first t l h e = let p = is_percent t l h in subst (λ z. fragments z ≡ Percent ∷ fragments (drop 1 z)) (sym p.split)
    (stray-fragment p.tail (no_digits p.tail (ap octets (sym p.split) ∙ e)))

-- ---- how many there are
count-before : (x : ℕ) (fs : List Fragment) → (0 < length (byte_before x fs)) × (length (byte_before x fs) ≤ suc (length fs))
count-before x fs = elim (x == 37) as (λ b. (0 < length (cond b (Percent ∷ fs) (before_fragments x fs)))
    × (length (cond b (Percent ∷ fs) (before_fragments x fs)) ≤ suc (length fs))) [ true ↦ (omega arith, omega arith) | false ↦ at fs ]
  where
    at : (fs : List Fragment) → (0 < length (before_fragments x fs)) × (length (before_fragments x fs) ≤ suc (length fs))
    at [] = (omega arith, omega arith)
    at (Run r ∷ fs) = (omega arith, omega arith)
    at (Octet o ∷ fs) = (omega arith, omega arith)
    at (Percent ∷ fs) = (omega arith, omega arith)

fragments-count : (t : List ℕ) → (min (length t) 1 ≤ length (fragments t)) × (length (fragments t) ≤ length t)
unfolding fragments
fragments-count [] = (omega arith, omega arith)
fragments-count (x ∷ []) = let k = count-before x [] in (omega (arith, k.0), k.1)
fragments-count (x ∷ a ∷ []) =
    let k = count-before x (byte_before a []) in (omega (arith, k.0), omega (arith, k.1, (count-before a []).1))
fragments-count (x ∷ a ∷ b ∷ xs) =
    elim (is_triplet x a b) as (λ v.
    (min (length (x ∷ a ∷ b ∷ xs)) 1 ≤ length (cond v (Octet (octet a b) ∷ fragments xs) (byte_before x (fragments (a ∷ b ∷ xs)))))
    × (length (cond v (Octet (octet a b) ∷ fragments xs) (byte_before x (fragments (a ∷ b ∷ xs)))) ≤ length (x ∷ a ∷ b ∷ xs))) [
      | true ↦ (omega arith, omega (arith, (fragments-count xs).1))
      | false ↦ let k = count-before x (fragments (a ∷ b ∷ xs)) in (omega (arith, k.0), omega (arith, k.1, (fragments-count (a ∷ b ∷ xs)).1))
    ]

pub fragments-most : (t : List ℕ) → length (fragments t) ≤ length t
fragments-most t = (fragments-count t).1

pub fragments-some : (t : List ℕ) → min (length t) 1 ≤ length (fragments t)
fragments-some t = (fragments-count t).0

pub none-left : (t : List ℕ) → length t ≡ 0 → fragments t ≡ []
none-left [] h = fragments-nil
none-left (x ∷ xs) h = absurd (omega arith)

-- ---- whether a triplet stands
octet_before : (x : ℕ) (fs : List Fragment) → list_any is_octet (byte_before x fs) ≡ list_any is_octet fs
octet_before x fs = elim (x == 37) as (λ b. list_any is_octet (cond b (Percent ∷ fs) (before_fragments x fs))
    ≡ list_any is_octet fs) [ true ↦ refl | false ↦ at fs ]
  where
    at : (fs : List Fragment) → list_any is_octet (before_fragments x fs) ≡ list_any is_octet fs
    at [] = refl
    at (Run r ∷ fs) = refl
    at (Octet o ∷ fs) = refl
    at (Percent ∷ fs) = refl

pub octets_left : (t : List ℕ) → list_any is_octet (fragments t) ≡ has_triplet t
unfolding fragments has_triplet
octets_left [] = refl
octets_left (x ∷ []) = octet_before x []
octets_left (x ∷ a ∷ []) = octet_before x (byte_before a []) ∙ octet_before a []
octets_left (x ∷ a ∷ b ∷ xs) =
    elim (is_triplet x a b) as (λ v. list_any is_octet (cond v (Octet (octet a b) ∷ fragments xs) (byte_before x (fragments (a ∷ b ∷ xs))))
    ≡ (v || has_triplet (a ∷ b ∷ xs))) [
      | true ↦ refl
      | false ↦ octet_before x (fragments (a ∷ b ∷ xs)) ∙ octets_left (a ∷ b ∷ xs)
    ]

-- what has no triplet decodes to itself
pub decoding-same : (t : List ℕ) → has_triplet t ≡ false → decoding t ≡ t
unfolding decoding has_triplet
decoding-same [] h = refl
decoding-same (x ∷ []) h = refl
decoding-same (x ∷ a ∷ []) h = refl
decoding-same (x ∷ a ∷ b ∷ xs) h =
    elim (is_triplet x a b) as (λ v. (v || has_triplet (a ∷ b ∷ xs)) ≡ false
    → cond v (octet a b ∷ decoding xs) (x ∷ decoding (a ∷ b ∷ xs)) ≡ x ∷ a ∷ b ∷ xs) [
      | true ↦ λ e. cc
      | false ↦ λ e. ap (λ z. x ∷ z) (decoding-same (a ∷ b ∷ xs) e)
    ] h

-- each triplet makes it shorter
decoding_room : (t : List ℕ) → length (decoding t) + cond (has_triplet t) 1 0 ≤ length t
unfolding decoding has_triplet
decoding_room [] = omega arith
decoding_room (x ∷ []) = omega arith
decoding_room (x ∷ a ∷ []) = omega arith
decoding_room (x ∷ a ∷ b ∷ xs) =
    elim (is_triplet x a b) as (λ v. length (cond v (octet a b ∷ decoding xs) (x ∷ decoding (a ∷ b ∷ xs)))
    + cond (v || has_triplet (a ∷ b ∷ xs)) 1 0 ≤ length (x ∷ a ∷ b ∷ xs)) [
      | true ↦ omega (arith, decoding_room xs)
      | false ↦ omega (arith, decoding_room (a ∷ b ∷ xs))
    ]

pub decoding-shorter : (t : List ℕ) → length (decoding t) ≤ length t
decoding-shorter t = omega (arith, decoding_room t)

-- and nothing else does
pub same-decoding : (t : List ℕ) → decoding t ≡ t → has_triplet t ≡ false
same-decoding t h =
    elim (has_triplet t) as (λ b. length (decoding t) + cond b 1 0 ≤ length t → b ≡ false) [
      | true ↦ λ room. absurd (omega (arith, room, ap length h))
      | false ↦ λ _. refl
    ] (decoding_room t)

-- what the law of decoding says
pub ruleset decoded_texts = (fragments-joined, same-decoding, decoding-same)

-- what a call for the next fragment cites
pub ruleset fragment_counts = (none-left, fragments-some, fragments-most)
