-- Triplet normal form is stable, and makes no new character in triplets.
use Rattle.iri_percent.proofs.Common.{◌≡◌, ℕ, ◌<◌, ◌≤◌, true, false, cond, List, [], ◌∷◌, ◌++◌, None, refl, sym, ◌∙◌, ap, subst, arith}
use Rattle.iri_percent.proofs.Common.{append_assoc, ◌==◌, map, is_ascii_hexdigit, digit_value, to_ascii_uppercase, to_ascii_lowercase}
use Rattle.iri_percent.proofs.Common.{encode_utf8, nat_tests, append-nil, Tests, IsSpec, unreserved, is_ascii_unreserved, lacks, TextUnit}
use Rattle.iri_percent.proofs.Common.{Plain, Char, Lone, Stray, IllFormed, octet, octets, first_char, units, read_from, whole_triplets}
use Rattle.iri_percent.proofs.Common.{plains, normal, as_it_is, pct, written, normal_unit, flat_map, by_test, flat_map-append}
use Rattle.std.proofs.lemmas.Str.Ascii.{lowercase-lowercase, lowercase_ascii, uppercase-uppercase}
use Rattle.iri_grammar.proofs.splits.CutLaws.{lacks-other}
use Rattle.iri_grammar.proofs.units.LackedBytes.{lacks-encodes}
use Rattle.iri_percent.proofs.units.ByBytes.{written_plains, normal-by_bytes}
use Rattle.iri_percent.proofs.units.AtStart.{Spells, none, more, octets_other, octets_triplet, octets_spelled, encode_bytes, none_before}
use Rattle.iri_percent.proofs.units.AtStart.{lacks_first, units_plain, units_plains, units_lone, units_char}
use Rattle.iri_percent.proofs.forms.ByUnits.{normal_nil, normal_plain, normal_lone, normal_char}
use Rattle.iri_percent.proofs.units.WholeTriplets.{Reading, done, plain, char, lone, whole_plain, whole_triplet, whole_after, read}
pub use Rattle.std.proofs.lemmas.Str.Ascii.{uppercase-uppercase as upper_twice}

-- what may be done to characters outside triplets: it makes no `%`, and once is enough
pub record IsCase (f : ℕ → ℕ) : Type 0 where
  pub percent : (x : ℕ) → (x == 37) ≡ false → (f x == 37) ≡ false
  pub twice : (x : ℕ) → f (f x) ≡ f x
  pub below : (x : ℕ) → x < 128 → f x < 128
  pub past : (x : ℕ) → 128 ≤ x → f x ≡ x

pub as_it_is-case : IsCase as_it_is
as_it_is-case = record { percent = λ x h. h; twice = λ x. refl; below = λ x h. h; past = λ x h. refl }

pub lower-case : IsCase to_ascii_lowercase
lower-case = record { percent = λ x h. grind (arith, nat_tests); twice = lowercase-lowercase; below = lowercase_ascii; past = λ x h. grind (arith, nat_tests) }

-- ---- capital digits
pub upper_hex : (a : ℕ) → is_ascii_hexdigit a ≡ true → is_ascii_hexdigit (to_ascii_uppercase a) ≡ true
upper_hex a h = grind (arith, nat_tests)

pub upper_value : (a : ℕ) → is_ascii_hexdigit a ≡ true → digit_value (to_ascii_uppercase a) ≡ digit_value a
upper_value a h = grind (arith, nat_tests)

pub upper_octet : (a b : ℕ) → is_ascii_hexdigit a ≡ true → is_ascii_hexdigit b ≡ true
    → octet (to_ascii_uppercase a) (to_ascii_uppercase b) ≡ octet a b
upper_octet a b p q = rw (upper_value a p, upper_value b q) refl

pub upper_spells : (sp os : List ℕ) → Spells sp os → Spells (map to_ascii_uppercase sp) os
upper_spells sp os none = none
upper_spells sp os (more a b sp' os' p q k) =
    subst (λ o. Spells (37 ∷ to_ascii_uppercase a ∷ to_ascii_uppercase b ∷ map to_ascii_uppercase sp') (o ∷ os')) (upper_octet a b p q)
    (more (to_ascii_uppercase a) (to_ascii_uppercase b) (map to_ascii_uppercase sp') os' (upper_hex a p) (upper_hex b q)
    (upper_spells sp' os' k))

-- ---- characters that are decoded
pub percent_reserved : (s : Tests) → IsSpec s → unreserved s 37 ≡ false
unfolding unreserved is_ascii_unreserved
percent_reserved s k = rw (k.ucs_ascii 37 (omega arith)) refl

pub unreserved_percent : (s : Tests) (c : ℕ) → IsSpec s → unreserved s c ≡ true → (c == 37) ≡ false
unreserved_percent s c k h = by_test c 37 (λ b. b ≡ false)
    (λ e. let no : unreserved s c ≡ false = ap (unreserved s) e ∙ percent_reserved s k in cc) (λ _. refl)

pub encode_percent : (c : ℕ) → (c == 37) ≡ false → lacks 37 (encode_utf8 c) ≡ true
encode_percent c h = ap (lacks 37) (sym (append-nil (encode_utf8 c))) ∙ lacks-encodes 37 (c ∷ []) (omega arith) (lacks-other 37 c [] h refl)

pub map_percent : (f : ℕ → ℕ) (xs : List ℕ) → IsCase f → lacks 37 xs ≡ true → lacks 37 (map f xs) ≡ true
map_percent f [] k h = refl
map_percent f (x ∷ xs) k h =
    let j = lacks_first x xs h in
    lacks-other 37 (f x) (map f xs) (k.percent x j.0) (map_percent f xs k j.1)

pub written_percent : (s : Tests) (f : ℕ → ℕ) (c : ℕ) → IsSpec s → IsCase f → unreserved s c ≡ true
    → lacks 37 (map f (encode_utf8 c)) ≡ true
written_percent s f c k i h = map_percent f (encode_utf8 c) i (encode_percent c (unreserved_percent s c k h))

-- ---- the octets at the start
octets_lacks : (ys xs : List ℕ) → lacks 37 ys ≡ true → (y : ℕ) (zs : List ℕ) → ys ≡ y ∷ zs → octets (ys ++ xs) ≡ []
octets_lacks [] xs h y zs e = cc
octets_lacks (x ∷ ys) xs h y zs e = octets_other x (ys ++ xs) (lacks_first x ys h).0

pub decoded_octets : (s : Tests) (f : ℕ → ℕ) (c : ℕ) (xs : List ℕ) → IsSpec s → IsCase f → unreserved s c ≡ true
    → octets (map f (encode_utf8 c) ++ xs) ≡ []
decoded_octets s f c xs k i h =
    let b = encode_bytes c in
    octets_lacks (map f (encode_utf8 c)) xs (written_percent s f c k i h) (f b.lead) (map f b.tail) (ap (map f) b.split)

-- the octets at the start of a normal form are some at the start of the text
abbrev pub IsPrefix : List ℕ → List ℕ → Type 0
IsPrefix xs ys = (zs : List ℕ) × (ys ≡ xs ++ zs)

prefix_octets : (s : Tests) (f : ℕ → ℕ) (t : List ℕ) → IsSpec s → IsCase f → Reading t → IsPrefix (octets (normal s f t)) (octets t)
prefix_octets s f t k i done = ([], ap (λ l. octets l ++ []) (sym (normal_nil s f)))
prefix_octets s f t k i (plain x xs h r) =
    let none : octets (normal s f (x ∷ xs)) ≡ [] =
    ap octets (normal_plain s f x xs h) ∙ octets_other (f x) (normal s f xs) (i.percent x h) in
    (octets (x ∷ xs), ap (λ l. l ++ octets (x ∷ xs)) (sym none))
prefix_octets s f t k i (lone a b xs p q n r) =
    let rest = prefix_octets s f xs k i r in
    let now : octets (normal s f (37 ∷ a ∷ b ∷ xs)) ≡ octet a b ∷ octets (normal s f xs) =
    ap octets (normal_lone s f a b xs p q n) ∙ octets_triplet (to_ascii_uppercase a) (to_ascii_uppercase b) (normal s f xs) (upper_hex a p)
    (upper_hex b q) ∙ ap (λ o. o ∷ octets (normal s f xs)) (upper_octet a b p q) in
    (rest.0, octets_triplet a b xs p q ∙ ap (λ l. octet a b ∷ l) rest.1 ∙ ap (λ l. l ++ rest.0) (sym now))
prefix_octets s f t k i (char c sp xs h sps r) =
    let rest = prefix_octets s f xs k i r in
    elim (unreserved s c) as (λ b. unreserved s c ≡ b → IsPrefix (octets (normal s f (sp ++ xs))) (octets (sp ++ xs))) [
      | true ↦ λ u.
          let none : octets (normal s f (sp ++ xs)) ≡ [] =
          ap octets (normal_char s f c sp xs h sps
          ∙ ap (λ b. cond b (map f (encode_utf8 c)) (map to_ascii_uppercase sp) ++ normal s f xs) u)
          ∙ decoded_octets s f c (normal s f xs) k i u in
          (octets (sp ++ xs), ap (λ l. l ++ octets (sp ++ xs)) (sym none))
      | false ↦ λ u.
          let now : octets (normal s f (sp ++ xs)) ≡ encode_utf8 c ++ octets (normal s f xs) =
          ap octets (normal_char s f c sp xs h sps
          ∙ ap (λ b. cond b (map f (encode_utf8 c)) (map to_ascii_uppercase sp) ++ normal s f xs) u)
          ∙ octets_spelled (map to_ascii_uppercase sp) (encode_utf8 c) (normal s f xs) (upper_spells sp (encode_utf8 c) sps) in (
            rest.0,
            octets_spelled sp (encode_utf8 c) xs sps ∙ ap (λ l. encode_utf8 c ++ l) rest.1
                ∙ sym (append_assoc (encode_utf8 c) (octets (normal s f xs)) rest.0) ∙ ap (λ l. l ++ rest.0) (sym now),
          )
    ] refl

-- where no character begins, none begins in the normal form
lone_stays : (s : Tests) (f : ℕ → ℕ) (a b : ℕ) (xs : List ℕ) → IsSpec s → IsCase f → is_ascii_hexdigit a ≡ true → is_ascii_hexdigit b ≡ true
    → first_char (octets (37 ∷ a ∷ b ∷ xs)) ≡ None → Reading xs
    → first_char (octets (37 ∷ to_ascii_uppercase a ∷ to_ascii_uppercase b ∷ normal s f xs)) ≡ None
lone_stays s f a b xs k i p q n r =
    let rest = prefix_octets s f xs k i r in
    let now : octets (37 ∷ to_ascii_uppercase a ∷ to_ascii_uppercase b ∷ normal s f xs) ≡ octet a b ∷ octets (normal s f xs) =
    octets_triplet (to_ascii_uppercase a) (to_ascii_uppercase b) (normal s f xs) (upper_hex a p) (upper_hex b q)
    ∙ ap (λ o. o ∷ octets (normal s f xs)) (upper_octet a b p q) in
    none_before _ (octets (37 ∷ a ∷ b ∷ xs)) rest.0
    (octets_triplet a b xs p q ∙ ap (λ l. octet a b ∷ l) rest.1 ∙ ap (λ l. l ++ rest.0) (sym now)) n

-- ---- the units of the normal form
units_nil : units [] ≡ []
unfolding read_from
units_nil = refl

units_read : (s : Tests) (f : ℕ → ℕ) (t : List ℕ) → IsSpec s → IsCase f → Reading t → units (normal s f t) ≡ flat_map (normal_unit s f) (units t)
units_read s f t k i done = ap units (normal_nil s f) ∙ units_nil ∙ ap (flat_map (normal_unit s f)) (sym units_nil)
units_read s f t k i (plain x xs h r) =
    ap units (normal_plain s f x xs h) ∙ units_plain (f x) (normal s f xs) (i.percent x h)
    ∙ ap (λ us. Plain (f x) ∷ us) (units_read s f xs k i r) ∙ ap (flat_map (normal_unit s f)) (sym (units_plain x xs h))
units_read s f t k i (lone a b xs p q n r) =
    ap units (normal_lone s f a b xs p q n)
    ∙ units_lone (to_ascii_uppercase a) (to_ascii_uppercase b) (normal s f xs) (upper_hex a p) (upper_hex b q)
    (lone_stays s f a b xs k i p q n r)
    ∙ ap (λ us. Lone (to_ascii_uppercase a) (to_ascii_uppercase b) ∷ us) (units_read s f xs k i r)
    ∙ ap (flat_map (normal_unit s f)) (sym (units_lone a b xs p q n))
units_read s f t k i (char c sp xs h sps r) =
    let rest = units_read s f xs k i r in
    ap units (normal_char s f c sp xs h sps) ∙ at rest ∙ ap (flat_map (normal_unit s f)) (sym (units_char c sp xs h sps))
  where
    at : units (normal s f xs) ≡ flat_map (normal_unit s f) (units xs)
        → units (cond (unreserved s c) (map f (encode_utf8 c)) (map to_ascii_uppercase sp) ++ normal s f xs)
        ≡ normal_unit s f (Char c sp) ++ flat_map (normal_unit s f) (units xs)
    at rest =
        elim (unreserved s c) as (λ b. unreserved s c ≡ b
        → units (cond b (map f (encode_utf8 c)) (map to_ascii_uppercase sp) ++ normal s f xs)
        ≡ cond b (plains (map f (encode_utf8 c))) (Char c (map to_ascii_uppercase sp) ∷ []) ++ flat_map (normal_unit s f) (units xs)) [
          | true ↦ λ u. units_plains (map f (encode_utf8 c)) (normal s f xs) (written_percent s f c k i u)
              ∙ ap (λ us. plains (map f (encode_utf8 c)) ++ us) rest
          | false ↦ λ _. units_char c (map to_ascii_uppercase sp) (normal s f xs) h (upper_spells sp (encode_utf8 c) sps)
              ∙ ap (λ us. Char c (map to_ascii_uppercase sp) ∷ us) rest
        ] refl

pub units-normal : (s : Tests) (f : ℕ → ℕ) (t : List ℕ) → IsSpec s → IsCase f → whole_triplets t ≡ true
    → units (normal s f t) ≡ flat_map (normal_unit s f) (units t)
units-normal s f t k i w = units_read s f t k i (read t w)

-- ---- stability
map_twice : (f : ℕ → ℕ) → ((x : ℕ) → f (f x) ≡ f x) → (xs : List ℕ) → map f (map f xs) ≡ map f xs
map_twice f e [] = refl
map_twice f e (x ∷ xs) = ap (λ y. y ∷ map f (map f xs)) (e x) ∙ ap (λ l. f x ∷ l) (map_twice f e xs)

unit_twice : (s : Tests) (f : ℕ → ℕ) (u : TextUnit) → IsCase f → flat_map (written s f) (normal_unit s f u) ≡ written s f u
unit_twice s f (Plain c) i = ap (λ x. x ∷ []) (i.twice c)
unit_twice s f (Char c sp) i =
    elim (unreserved s c) as (λ b. unreserved s c ≡ b
    → flat_map (written s f) (cond b (plains (map f (encode_utf8 c))) (Char c (map to_ascii_uppercase sp) ∷ []))
    ≡ cond b (map f (encode_utf8 c)) (map to_ascii_uppercase sp)) [
      | true ↦ λ _. written_plains s f (map f (encode_utf8 c)) ∙ map_twice f i.twice (encode_utf8 c)
      | false ↦ λ u. ap (λ b. cond b (map f (encode_utf8 c)) (map to_ascii_uppercase (map to_ascii_uppercase sp)) ++ []) u
          ∙ append-nil (map to_ascii_uppercase (map to_ascii_uppercase sp)) ∙ map_twice to_ascii_uppercase uppercase-uppercase sp
    ] refl
unit_twice s f (Lone a b) i = rw (uppercase-uppercase a, uppercase-uppercase b) refl
unit_twice s f Stray i = refl
unit_twice s f (IllFormed b) i = ap (λ x. x ∷ []) (i.twice b)

units_twice : (s : Tests) (f : ℕ → ℕ) (us : List TextUnit) → IsCase f → flat_map (written s f) (flat_map (normal_unit s f) us) ≡ flat_map (written s f) us
units_twice s f [] i = refl
units_twice s f (u ∷ us) i =
    flat_map-append (written s f) (normal_unit s f u) (flat_map (normal_unit s f) us)
    ∙ ap (λ l. l ++ flat_map (written s f) (flat_map (normal_unit s f) us)) (unit_twice s f u i) ∙ ap (λ l. written s f u ++ l) (units_twice s f us i)

pub normal-stable : (s : Tests) (f : ℕ → ℕ) (t : List ℕ) → IsSpec s → IsCase f → whole_triplets t ≡ true
    → normal s f (normal s f t) ≡ normal s f t
normal-stable s f t k i w = normal-by_bytes s f (normal s f t) ∙ ap (flat_map (written s f)) (units-normal s f t k i w)
    ∙ units_twice s f (units t) i ∙ sym (normal-by_bytes s f t)

pub pct-stable : (s : Tests) (t : List ℕ) → IsSpec s → whole_triplets t ≡ true → pct s (pct s t) ≡ pct s t
pct-stable s t k w = normal-stable s as_it_is t k as_it_is-case w

-- ---- the normal form has no stray `%` either
pub whole_plains : (ys xs : List ℕ) → lacks 37 ys ≡ true → whole_triplets (ys ++ xs) ≡ whole_triplets xs
whole_plains [] xs h = refl
whole_plains (y ∷ ys) xs h = let k = lacks_first y ys h in whole_plain y (ys ++ xs) k.0 ∙ whole_plains ys xs k.1

whole_read : (s : Tests) (f : ℕ → ℕ) (t : List ℕ) → IsSpec s → IsCase f → Reading t → whole_triplets (normal s f t) ≡ true
unfolding whole_triplets
whole_read s f t k i done = ap whole_triplets (normal_nil s f)
whole_read s f t k i (plain x xs h r) = ap whole_triplets (normal_plain s f x xs h) ∙ whole_plain (f x) (normal s f xs) (i.percent x h)
    ∙ whole_read s f xs k i r
whole_read s f t k i (lone a b xs p q n r) = ap whole_triplets (normal_lone s f a b xs p q n)
    ∙ whole_triplet (to_ascii_uppercase a) (to_ascii_uppercase b) (normal s f xs) (upper_hex a p) (upper_hex b q) ∙ whole_read s f xs k i r
whole_read s f t k i (char c sp xs h sps r) = let rest = whole_read s f xs k i r in
    ap whole_triplets (normal_char s f c sp xs h sps) ∙ at rest
  where
    at : whole_triplets (normal s f xs) ≡ true → whole_triplets
        (cond (unreserved s c) (map f (encode_utf8 c)) (map to_ascii_uppercase sp) ++ normal s f xs) ≡ true
    at rest =
        elim (unreserved s c) as (λ b. unreserved s c ≡ b
        → whole_triplets (cond b (map f (encode_utf8 c)) (map to_ascii_uppercase sp) ++ normal s f xs) ≡ true) [
          | true ↦ λ u. whole_plains (map f (encode_utf8 c)) (normal s f xs) (written_percent s f c k i u) ∙ rest
          | false ↦ λ _. whole_after (map to_ascii_uppercase sp) (encode_utf8 c) (normal s f xs)
              (upper_spells sp (encode_utf8 c) sps) ∙ rest
        ] refl

pub whole-normal : (s : Tests) (f : ℕ → ℕ) (t : List ℕ) → IsSpec s → IsCase f → whole_triplets t ≡ true
    → whole_triplets (normal s f t) ≡ true
whole-normal s f t k i w = whole_read s f t k i (read t w)

pub pct-whole : (s : Tests) (t : List ℕ) → IsSpec s → whole_triplets t ≡ true → whole_triplets (pct s t) ≡ true
pct-whole s t k w = whole-normal s as_it_is t k as_it_is-case w

-- what the law of stable forms says
pub ruleset stable_forms = (pct-whole, pct-stable)
