-- The character with whose UTF-8 some octets begin, told from the octets one by one.
use Rattle.iri_percent.proofs.Common.{◌≡◌, ℕ, ◌+◌, ◌-◌, ◌<◌, ◌≤◌, Bool, true, false, cond, ◌||◌, List, [], ◌∷◌, ◌++◌, Option, Some, None}
use Rattle.iri_percent.proofs.Common.{refl, sym, ◌∙◌, ap, arith, ltb-true, ltb-false, ◌/◌, ◌*◌, ◌%◌, chars, ltb, encode, next, scalar}
use Rattle.iri_percent.proofs.Common.{low_scalar, encode_ascii, nat_tests, le-ltb, Tests, IsSpec, unreserved, is_ascii_unreserved}
use Rattle.iri_percent.proofs.Common.{first_char, decoded, unreserved_only, char_from}
use Rattle.iri_grammar.specs.inside.Runs.{begins_with_more}
use Rattle.iri_grammar.proofs.units.WideChars.{spelled_in_three, spelled_in_two}
use Rattle.iri_percent.proofs.units.AtStart.{BeginsChar, first_char_is, char_first, continuation_none, is_continuation, next_continues}

pub empty_none : (os : List ℕ) → os ≡ [] → first_char os ≡ None
unfolding first_char chars
empty_none os e = ap first_char e

-- ---- the spelling of a character, by its width
pub data Wide (c lead : ℕ) (tail rest : List ℕ) : Type 0 where
  one : c < 128 → lead ≡ c → Wide c lead tail rest
  two : 128 ≤ c → c < 2048 → lead ≡ 192 + c / 64 → tail ≡ next c ∷ rest → Wide c lead tail rest
  three : 2048 ≤ c → c < 65536 → lead ≡ 224 + c / 4096 → tail ≡ next (c / 64) ∷ next c ∷ rest → Wide c lead tail rest
  four : 65536 ≤ c → lead ≡ 240 + c / 262144 → tail ≡ next (c / 4096) ∷ next (c / 64) ∷ next c ∷ rest → Wide c lead tail rest

heads : (x y : ℕ) (xs ys : List ℕ) → x ∷ xs ≡ y ∷ ys → (x ≡ y) × (xs ≡ ys)
heads x y xs ys h = ((cc), (cc))

wide : (c lead : ℕ) (tail rest : List ℕ) → lead ∷ tail ≡ encode c ++ rest → Wide c lead tail rest
unfolding encode
wide c lead tail rest h =
    elim (ltb c 128) as (λ b. ltb c 128 ≡ b → lead ∷ tail ≡ cond b (c ∷ [])
    (cond (ltb c 2048) ((192 + c / 64) ∷ next c ∷ [])
    (cond (ltb c 65536) ((224 + c / 4096) ∷ next (c / 64) ∷ next c ∷ [])
    ((240 + c / 262144) ∷ next (c / 4096) ∷ next (c / 64) ∷ next c ∷ []))) ++ rest → Wide c lead tail rest) [
      | true ↦ λ e k. one (ltb-true c 128 e) (heads lead c tail rest k).0
      | false ↦ λ e. elim (ltb c 2048) as (λ b. ltb c 2048 ≡ b → lead ∷ tail ≡ cond b ((192 + c / 64) ∷ next c ∷ [])
          (cond (ltb c 65536) ((224 + c / 4096) ∷ next (c / 64) ∷ next c ∷ [])
          ((240 + c / 262144) ∷ next (c / 4096) ∷ next (c / 64) ∷ next c ∷ [])) ++ rest → Wide c lead tail rest) [
            | true ↦ λ f k. let t = heads lead (192 + c / 64) tail (next c ∷ rest) k in
                two (ltb-false c 128 e) (ltb-true c 2048 f) t.0 t.1
            | false ↦ λ f. elim (ltb c 65536) as (λ b. ltb c 65536 ≡ b → lead ∷ tail ≡ cond b ((224 + c / 4096) ∷ next (c / 64) ∷ next c ∷ [])
                ((240 + c / 262144) ∷ next (c / 4096) ∷ next (c / 64) ∷ next c ∷ []) ++ rest → Wide c lead tail rest) [
                  | true ↦ λ g k. let t = heads lead (224 + c / 4096) tail (next (c / 64) ∷ next c ∷ rest) k in
                      three (ltb-false c 2048 f) (ltb-true c 65536 g) t.0 t.1
                  | false ↦ λ g k. let t = heads lead (240 + c / 262144) tail (next (c / 4096) ∷ next (c / 64) ∷ next c ∷ rest) k in
                      four (ltb-false c 65536 g) t.0 t.1
                ] refl
          ] refl
    ] refl h

-- ---- no character
no_char : (os : List ℕ) → ((c : ℕ) → BeginsChar os c → ⊥) → None ≡ first_char os
no_char os bad =
    elim (first_char os) as (λ o. first_char os ≡ o → None ≡ o) [
      | None ↦ λ _. refl
      | Some c ↦ λ h. absurd (bad c (first_char_is os c h))
    ] refl

-- what continues a character is no end of it
ended : (os : List ℕ) (x : ℕ) (rest : List ℕ) → begins_with_more os ≡ false → os ≡ next x ∷ rest → ⊥
ended os x rest h e = let k : is_continuation (next x) ≡ false = sym (ap begins_with_more e) ∙ h in cc (next_continues x)

pub ends_at_one : (lead : ℕ) (os : List ℕ) → 192 ≤ lead → begins_with_more os ≡ false → None ≡ first_char (lead ∷ os)
ends_at_one lead os l h = no_char (lead ∷ os) (λ c g. at c g.rest (wide c lead os g.rest g.split))
  where
    at : (c : ℕ) (rest : List ℕ) → Wide c lead os rest → ⊥
    at c rest (one p e) = omega arith
    at c rest (two p q e t) = ended os c rest h t
    at c rest (three p q e t) = ended os (c / 64) (next c ∷ rest) h t
    at c rest (four p e t) = ended os (c / 4096) (next (c / 64) ∷ next c ∷ rest) h t

pub ends_at_two : (lead x : ℕ) (os : List ℕ) → 224 ≤ lead → begins_with_more os ≡ false → None ≡ first_char (lead ∷ x ∷ os)
ends_at_two lead x os l h = no_char (lead ∷ x ∷ os) (λ c g. at c g.rest (wide c lead (x ∷ os) g.rest g.split))
  where
    at : (c : ℕ) (rest : List ℕ) → Wide c lead (x ∷ os) rest → ⊥
    at c rest (one p e) = omega arith
    at c rest (two p q e t) = omega arith
    at c rest (three p q e t) = ended os c rest h (heads x (next (c / 64)) os (next c ∷ rest) t).1
    at c rest (four p e t) = ended os (c / 64) (next c ∷ rest) h (heads x (next (c / 4096)) os (next (c / 64) ∷ next c ∷ rest) t).1

pub ends_at_three : (lead x y : ℕ) (os : List ℕ) → 240 ≤ lead → begins_with_more os ≡ false → None ≡ first_char (lead ∷ x ∷ y ∷ os)
ends_at_three lead x y os l h = no_char (lead ∷ x ∷ y ∷ os) (λ c g. at c g.rest (wide c lead (x ∷ y ∷ os) g.rest g.split))
  where
    at : (c : ℕ) (rest : List ℕ) → Wide c lead (x ∷ y ∷ os) rest → ⊥
    at c rest (one p e) = omega arith
    at c rest (two p q e t) = omega arith
    at c rest (three p q e t) = omega arith
    at c rest (four p e t) = ended os c rest h
        (heads y (next (c / 64)) os (next c ∷ rest)
        (heads x (next (c / 4096)) (y ∷ os) (next (c / 64) ∷ next c ∷ rest) t).1).1

-- ---- the character of some octets
decide : (os rest : List ℕ) (code least : ℕ) → (least ≤ code → os ≡ encode code ++ rest)
    → ((c : ℕ) → BeginsChar os c → (c ≡ code) × (least ≤ c)) → char_from code least ≡ first_char os
decide os rest code least spells seen =
    elim (ltb code least) as (λ b. ltb code least ≡ b → cond b None (cond (scalar code) (Some code) None) ≡ first_char os) [
      | true ↦ λ e. no_char os (λ c g. let k = seen c g in absurd (omega (arith, k.0, k.1, ltb-true code least e)))
      | false ↦ λ e. elim (scalar code) as (λ b. scalar code ≡ b → cond b (Some code) None ≡ first_char os) [
        | true ↦ λ f. sym (ap first_char (spells (ltb-false code least e)) ∙ char_first code rest f)
        | false ↦ λ f. no_char os (λ c g. let k : scalar code ≡ true = ap scalar (sym (seen c g).0) ∙ g.is_scalar in cc)
      ] refl
    ] refl

pub two_octets : (lead a : ℕ) (os : List ℕ) → 192 ≤ lead → lead < 224 → a < 64
    → char_from ((lead - 192) * 64 + a) 128 ≡ first_char (lead ∷ (128 + a) ∷ os)
two_octets lead a os l u p = decide (lead ∷ (128 + a) ∷ os) os ((lead - 192) * 64 + a) 128
    (spelled_in_two ((lead - 192) * 64 + a) lead a os l u p refl)
    (λ c g. at c g.rest (wide c lead ((128 + a) ∷ os) g.rest g.split))
  where
    at : (c : ℕ) (rest : List ℕ) → Wide c lead ((128 + a) ∷ os) rest → (c ≡ (lead - 192) * 64 + a) × (128 ≤ c)
    at c rest (one q e) = absurd (omega arith)
    at c rest (two q r e t) = let k : 128 + a ≡ next c = (heads (128 + a) (next c) os rest t).0 in (omega arith, q)
    at c rest (three q r e t) = absurd (omega arith)
    at c rest (four q e t) = absurd (omega arith)

pub three_octets : (lead a b : ℕ) (os : List ℕ) → 224 ≤ lead → lead < 240 → a < 64 → b < 64
    → char_from (((lead - 224) * 64 + a) * 64 + b) 2048 ≡ first_char (lead ∷ (128 + a) ∷ (128 + b) ∷ os)
three_octets lead a b os l u p q = decide (lead ∷ (128 + a) ∷ (128 + b) ∷ os) os (((lead - 224) * 64 + a) * 64 + b) 2048
    (spelled_in_three (((lead - 224) * 64 + a) * 64 + b) lead a b os l u p q refl)
    (λ c g. at c g.rest (wide c lead ((128 + a) ∷ (128 + b) ∷ os) g.rest g.split))
  where
    at : (c : ℕ) (rest : List ℕ) → Wide c lead ((128 + a) ∷ (128 + b) ∷ os) rest
        → (c ≡ ((lead - 224) * 64 + a) * 64 + b) × (2048 ≤ c)
    at c rest (one r e) = absurd (omega arith)
    at c rest (two r s e t) = absurd (omega arith)
    at c rest (three r s e t) =
        let k = heads (128 + a) (next (c / 64)) ((128 + b) ∷ os) (next c ∷ rest) t in
        let j = heads (128 + b) (next c) os rest k.1 in
        (omega (arith, k.0, j.0), r)
    at c rest (four r e t) = absurd (omega arith)

spelled_in_four : (code lead a b d : ℕ) (os : List ℕ) → 240 ≤ lead → a < 64 → b < 64 → d < 64
    → code ≡ (((lead - 240) * 64 + a) * 64 + b) * 64 + d → 65536 ≤ code
    → lead ∷ (128 + a) ∷ (128 + b) ∷ (128 + d) ∷ os ≡ encode code ++ os
unfolding encode
spelled_in_four code lead a b d os l p q r e h =
    let w : lead ≡ 240 + code / 262144 = omega arith in
    let x : a ≡ code / 4096 % 64 = omega arith in
    let y : b ≡ code / 64 % 64 = omega arith in
    let z : d ≡ code % 64 = omega arith in
    rw (le-ltb code 128 (omega arith), le-ltb code 2048 (omega arith), le-ltb code 65536 h)
    (ap (λ n. n ∷ (128 + a) ∷ (128 + b) ∷ (128 + d) ∷ os) w
    ∙ ap (λ n. (240 + code / 262144) ∷ (128 + n) ∷ (128 + b) ∷ (128 + d) ∷ os) x
    ∙ ap (λ n. (240 + code / 262144) ∷ next (code / 4096) ∷ (128 + n) ∷ (128 + d) ∷ os) y
    ∙ ap (λ n. (240 + code / 262144) ∷ next (code / 4096) ∷ next (code / 64) ∷ (128 + n) ∷ os) z)

pub four_octets : (lead a b d : ℕ) (os : List ℕ) → 240 ≤ lead → a < 64 → b < 64 → d < 64
    → char_from ((((lead - 240) * 64 + a) * 64 + b) * 64 + d) 65536 ≡ first_char (lead ∷ (128 + a) ∷ (128 + b) ∷ (128 + d) ∷ os)
four_octets lead a b d os l p q r = decide (lead ∷ (128 + a) ∷ (128 + b) ∷ (128 + d) ∷ os) os
    ((((lead - 240) * 64 + a) * 64 + b) * 64 + d) 65536
    (spelled_in_four ((((lead - 240) * 64 + a) * 64 + b) * 64 + d) lead a b d os l p q r refl)
    (λ c g. at c g.rest (wide c lead ((128 + a) ∷ (128 + b) ∷ (128 + d) ∷ os) g.rest g.split))
  where
    at : (c : ℕ) (rest : List ℕ) → Wide c lead ((128 + a) ∷ (128 + b) ∷ (128 + d) ∷ os) rest
        → (c ≡ (((lead - 240) * 64 + a) * 64 + b) * 64 + d) × (65536 ≤ c)
    at c rest (one s e) = absurd (omega arith)
    at c rest (two s u e t) = absurd (omega arith)
    at c rest (three s u e t) = absurd (omega arith)
    at c rest (four s e t) =
        let k = heads (128 + a) (next (c / 4096)) ((128 + b) ∷ (128 + d) ∷ os) (next (c / 64) ∷ next c ∷ rest) t in
        let j = heads (128 + b) (next (c / 64)) ((128 + d) ∷ os) (next c ∷ rest) k.1 in
        let i = heads (128 + d) (next c) os rest j.1 in
        (omega (arith, k.0, j.0, i.0), s)

-- ---- the unreserved character
pub none_decoded : (s : Tests) (os : List ℕ) → os ≡ [] → decoded s os ≡ None
none_decoded s os e = ap (unreserved_only s) (empty_none os e)

pub ascii_first : (o : ℕ) (os : List ℕ) → o < 128 → first_char (o ∷ os) ≡ Some o
ascii_first o os l = ap (λ b. first_char (b ++ os)) (sym (encode_ascii o l)) ∙ char_first o os (low_scalar o (omega arith))

pub middle_none : (o : ℕ) (os : List ℕ) → 128 ≤ o → o < 192 → first_char (o ∷ os) ≡ None
middle_none o os l h = continuation_none o os (continues o l h)
  where
    continues : (o : ℕ) → 128 ≤ o → o < 192 → is_continuation o ≡ true
    continues o l h = grind (arith, nat_tests)

pub unreserved_low : (o : ℕ) → is_ascii_unreserved o ≡ true → o < 128
unfolding is_ascii_unreserved
unreserved_low o h = grind (arith, nat_tests)

pub ascii_decoded : (s : Tests) (o : ℕ) (t os : List ℕ) → t ≡ o ∷ os → is_ascii_unreserved o ≡ true → decoded s t ≡ Some o
unfolding unreserved
ascii_decoded s o t os e h = ap (decoded s) e ∙ ap (unreserved_only s) (ascii_first o os (unreserved_low o h))
    ∙ ap (λ b. cond (b || s.ucs o) (Some o) None) h

pub low_decoded : (s : Tests) (o : ℕ) (t os : List ℕ) → IsSpec s → t ≡ o ∷ os → o < 192 → is_ascii_unreserved o ≡ false → decoded s t ≡ None
unfolding unreserved
low_decoded s o t os k e l h =
    elim (ltb o 128) as (λ b. ltb o 128 ≡ b → decoded s t ≡ None) [
      | true ↦ λ f.
          let low : o < 128 = ltb-true o 128 f in
          ap (decoded s) e ∙ ap (unreserved_only s) (ascii_first o os low) ∙ ap (λ b. cond (b || s.ucs o) (Some o) None) h
          ∙ ap (λ b. cond b (Some o) None) (k.ucs_ascii o low)
      | false ↦ λ f. ap (decoded s) e ∙ ap (unreserved_only s) (middle_none o os (ltb-false o 128 f) l)
    ] refl

-- a character of more octets than one is past ASCII
past_first : (lead c : ℕ) (os : List ℕ) → 192 ≤ lead → first_char (lead ∷ os) ≡ Some c → 128 ≤ c
past_first lead c os l h = at (wide c lead os (first_char_is (lead ∷ os) c h).rest (first_char_is (lead ∷ os) c h).split)
  where
    at : {rest : List ℕ} → Wide c lead os rest → 128 ≤ c
    at (one p e) = absurd (omega arith)
    at (two p q e t) = p
    at (three p q e t) = omega arith
    at (four p e t) = omega arith

pub only_unreserved : (s : Tests) (o : Option ℕ) (c : ℕ) → unreserved_only s o ≡ Some c → (o ≡ Some c) × (unreserved s c ≡ true)
only_unreserved s None c h = cc
only_unreserved s (Some d) c h =
    elim (unreserved s d) as (λ b. unreserved s d ≡ b → cond b (Some d) None ≡ Some c → (Some d ≡ Some c) × (unreserved s c ≡ true)) [
      | true ↦ λ u k. let same : d ≡ c = cc in (k, ap (unreserved s) (sym same) ∙ u)
      | false ↦ λ _ k. cc
    ] refl h

pub past_ascii : (s : Tests) (lead c : ℕ) (os : List ℕ) → 192 ≤ lead → decoded s (lead ∷ os) ≡ Some c → 128 ≤ c
past_ascii s lead c os l h = past_first lead c os l (only_unreserved s (first_char (lead ∷ os)) c h).0

-- a character past ASCII is unreserved where the spec says so
pub high_decoded : (s : Tests) (lead c : ℕ) (os : List ℕ) → 192 ≤ lead → first_char (lead ∷ os) ≡ Some c
    → decoded s (lead ∷ os) ≡ cond (s.ucs c) (Some c) None
unfolding unreserved
high_decoded s lead c os l h =
    ap (unreserved_only s) h ∙ ap (λ b. cond (b || s.ucs c) (Some c) None) (reserved (is_ascii_unreserved c) refl)
  where
    reserved : (b : Bool) → is_ascii_unreserved c ≡ b → b ≡ false
    reserved false e = refl
    reserved true e = absurd (omega (
      arith,
      unreserved_low c e,
      past_first lead c os l h,
    ))

-- ---- the lemmas that say what octets spell, by how many there are, and by the first of them
pub ruleset of_octets = (ends_at_one, ends_at_two, ends_at_three, two_octets, three_octets, four_octets)

pub ruleset of_first_octet = (ascii_first, middle_none)
