-- A text has whole triplets exactly where no unit of it is a stray `%`.
use Rattle.iri_percent.proofs.Common.{◌≡◌, ℕ, suc, Bool, true, false, List, [], ◌∷◌, ◌++◌, refl, sym, ◌∙◌, ◌&&◌, ap, arith, not, list_all}
use Rattle.iri_percent.proofs.Common.{flat_map, encode_utf8, not-true, TextUnit, Plain, Char, Lone, Stray, IllFormed, units, read_from}
use Rattle.iri_percent.proofs.Common.{whole_triplets, both, char_units, plains, byte_units}
use Rattle.std.proofs.Common.{◌≢◌, ◌↔◌, true≢false}
use Rattle.std.specs.List.{All}
use Rattle.std.proofs.lemmas.List.Elements.{All-cons}
use Rattle.iri_percent.proofs.units.ByBytes.{units-by_chars}
use Rattle.iri_percent.proofs.units.AtStart.{units_plain, units_lone, units_char, units_stray}
use Rattle.iri_percent.proofs.units.Readings.{TextReading, nothing, other, spelled_char, lone_triplet, stray_percent, read_text}
use Rattle.iri_percent.proofs.units.WholeTriplets.{whole_plain, whole_triplet, whole_after}

abbrev is_stray : TextUnit → Bool
is_stray Stray = true
is_stray _ = false

-- no unit is a stray `%`
abbrev all_free : List TextUnit → Bool
all_free us = list_all (λ u. not (is_stray u)) us

free_whole : (t : List ℕ) → TextReading t → all_free (units t) ≡ whole_triplets t
unfolding read_from whole_triplets
free_whole _ nothing = refl
free_whole _ (other x xs e r) = ap all_free (units_plain x xs e) ∙ free_whole xs r ∙ sym (whole_plain x xs e)
free_whole _ (spelled_char c sp xs k sps r) = ap all_free (units_char c sp xs k sps) ∙ free_whole xs r ∙ sym (whole_after sp (encode_utf8 c) xs sps)
free_whole _ (lone_triplet a b xs p q n r) = ap all_free (units_lone a b xs p q n) ∙ free_whole xs r ∙ sym (whole_triplet a b xs p q)
free_whole _ (stray_percent xs e r) = ap all_free (units_stray xs e) ∙ ap (λ b. b && whole_triplets xs) (sym e)

-- ---- units of characters
plains_free : (os : List ℕ) (us : List TextUnit) → all_free (plains os ++ us) ≡ all_free us
plains_free [] us = refl
plains_free (o ∷ os) us = plains_free os us

bytes_free : (us : List TextUnit) → all_free (flat_map byte_units us) ≡ all_free us
bytes_free [] = refl
bytes_free (Plain c ∷ us) = plains_free (encode_utf8 c) (flat_map byte_units us) ∙ bytes_free us
bytes_free (Char c sp ∷ us) = bytes_free us
bytes_free (Lone a b ∷ us) = bytes_free us
bytes_free (Stray ∷ us) = refl
bytes_free (IllFormed b ∷ us) = bytes_free us

is_free : (u : TextUnit) → u ≢ Stray → not (is_stray u) ≡ true
is_free (Plain c) h = refl
is_free (Char c sp) h = refl
is_free (Lone a b) h = refl
is_free Stray h = absurd (h refl)
is_free (IllFormed b) h = refl

-- ---- none of them, one by one
all_free-from : (us : List TextUnit) → All (λ u. u ≢ Stray) us → all_free us ≡ true
all_free-from [] h = refl
all_free-from (u ∷ us) h = rw (is_free u (h 0 u (omega arith))) (all_free-from us (λ k d l. h (suc k) d (omega (arith, l))))

no_stray-from : (us : List TextUnit) → all_free us ≡ true → All (λ u. u ≢ Stray) us
no_stray-from [] h = λ k d l. absurd (omega (arith, l))
no_stray-from (u ∷ us) h =
    let k = both (not (is_stray u)) (all_free us) h in
    let free = not-true (is_stray u) k.0 in
    All-cons (λ v. v ≢ Stray) u us (λ is. true≢false (sym (ap is_stray is) ∙ free)) (no_stray-from us k.1)

free-iff : (b : Bool) (us : List TextUnit) → all_free us ≡ b → (b ≡ true) ↔ All (λ u. u ≢ Stray) us
free-iff b us e = (λ w. no_stray-from us (e ∙ w), λ h. sym e ∙ all_free-from us h)

pub whole-iff-no-stray : (t : List ℕ) → (whole_triplets t ≡ true) ↔ All (λ u. u ≢ Stray) (units t)
whole-iff-no-stray t = free-iff (whole_triplets t) (units t) (free_whole t (read_text t))

pub whole-iff-no-stray-char : (t : List ℕ) → (whole_triplets t ≡ true) ↔ All (λ u. u ≢ Stray) (char_units t)
whole-iff-no-stray-char t = free-iff (whole_triplets t) (char_units t)
    (sym (ap all_free (units-by_chars t) ∙ bytes_free (char_units t)) ∙ free_whole t (read_text t))

-- what the law of stray `%` says
pub ruleset strays = (whole-iff-no-stray, whole-iff-no-stray-char)
