-- Triplet normal form keeps what is a dot segment.
use Rattle.iri_normal.proofs.Common.{option_map, eqb-true, ◌==◌, is_ascii_hexdigit, to_ascii_uppercase, encode_utf8, nat_tests, not-true}
use Rattle.iri_normal.proofs.Common.{encode, Tests, IsSpec, unreserved, is_ascii_unreserved, lacks, by_test, both, lacks-other, is_empty}
use Rattle.iri_normal.proofs.Common.{octet, whole_triplets, as_it_is, pct, Spells, none, more, normal_nil, normal_plain, normal_lone}
use Rattle.iri_normal.proofs.Common.{normal_char, Reading, done, plain, char, lone, whole_plain, read, upper_hex, upper_octet, after_dot}
use Rattle.iri_normal.proofs.Common.{is_dot_segment, is_all, is_one_dot, is_one_dot_after, is_two_dots, ◌≡◌, ℕ, ◌+◌, ◌<◌, true, false, cond}
use Rattle.iri_normal.proofs.Common.{not, ◌&&◌, ◌||◌, List, [], ◌∷◌, ◌++◌, Option, Some, None, map, refl, sym, ◌∙◌, ap, subst, arith}
use Rattle.iri_normal.proofs.Common.{append-nil}
use Rattle.iri_grammar.proofs.units.LackedBytes.{lacks-encodes}
use Rattle.iri_normal.proofs.segments.DotBytes.{one_dot as after_dot-point}
use Rattle.iri_normal.proofs.mapping.MappedPaths.{after_dot-plain}
use Rattle.iri_normal.proofs.segments.DotKinds.{dot_kinds}
use Rattle.iri_percent.proofs.forms.Stability.{unreserved_percent}
use Rattle.iri_percent.proofs.mapping.NormalForms.{value_small as small}
use Rattle.iri_percent.proofs.units.AtStart.{encode_bytes, octets_triplet, char_first}
use Rattle.iri_percent.proofs.units.WholeTriplets.{whole_triplet, percent_follows}
use Rattle.iri_percent.specs.Units.{octets, first_char}
use Rattle.std.proofs.Common.{◌*◌}
use Rattle.std.proofs.lemmas.List.{map-id}
use Rattle.std.specs.Char.{digit_value}
use lib.Utf8.{scalar}

-- ---- a dot at the start
two : (a : ℕ) → is_ascii_hexdigit a ≡ true → (a == 50) ≡ (digit_value a == 2)
two a h = grind (arith, nat_tests)

fourteen : (a : ℕ) → is_ascii_hexdigit a ≡ true → (a == 69 || a == 101) ≡ (digit_value a == 14)
fourteen a h = grind (arith, nat_tests)

digits : (x y : ℕ) → y < 16 → (x == 2 && y == 14) ≡ (x * 16 + y == 46)
digits x y h = grind (arith, nat_tests)

after_dot-triplet : (a b : ℕ) (xs : List ℕ) → is_ascii_hexdigit a ≡ true → is_ascii_hexdigit b ≡ true
    → after_dot (37 ∷ a ∷ b ∷ xs) ≡ cond (octet a b == 46) (Some xs) None
after_dot-triplet a b xs p q = ap (λ v. cond v (Some xs) None)
    (rw (two a p, fourteen b q) (digits (digit_value a) (digit_value b) (small b q)))

no_dot : (a b : ℕ) (xs : List ℕ) → is_ascii_hexdigit a ≡ true → is_ascii_hexdigit b ≡ true → (octet a b == 46) ≡ false
    → after_dot (37 ∷ a ∷ b ∷ xs) ≡ None
no_dot a b xs p q h = after_dot-triplet a b xs p q ∙ rw h refl

-- ---- characters
pub point_unreserved : (s : Tests) → unreserved s 46 ≡ true
unfolding unreserved is_ascii_unreserved
point_unreserved s = refl

pub point_scalar : scalar 46 ≡ true
point_scalar = refl

pub encode_point : encode_utf8 46 ≡ 46 ∷ []
unfolding encode
encode_point = refl

no_point : (c : ℕ) → (c == 46) ≡ false → lacks 46 (encode_utf8 c) ≡ true
no_point c h = ap (lacks 46) (sym (append-nil (encode_utf8 c))) ∙ lacks-encodes 46 (c ∷ []) (omega arith) (lacks-other 46 c [] h refl)

pub map_same : (xs : List ℕ) → map as_it_is xs ≡ xs
map_same xs = map-id xs

nothing_spelled : (sp os : List ℕ) → Spells sp os → os ≡ [] → sp ≡ []
nothing_spelled sp os none e = refl
nothing_spelled sp os (more a b sp' os' p q k) e = cc

-- a lone triplet
lone-dot : (s : Tests) (a b : ℕ) (xs : List ℕ) → is_ascii_hexdigit a ≡ true → is_ascii_hexdigit b ≡ true → (octet a b == 46) ≡ false
    → after_dot (37 ∷ to_ascii_uppercase a ∷ to_ascii_uppercase b ∷ xs) ≡ None
lone-dot s a b xs p q h = no_dot (to_ascii_uppercase a) (to_ascii_uppercase b) xs (upper_hex a p) (upper_hex b q)
    (ap (λ o. o == 46) (upper_octet a b p q) ∙ h)

-- a character in triplets
char-dot : (s : Tests) (c : ℕ) (sp os xs : List ℕ) → IsSpec s → Spells sp os → os ≡ encode_utf8 c
    → after_dot (cond (unreserved s c) (map as_it_is (encode_utf8 c)) (map to_ascii_uppercase sp) ++ pct s xs)
    ≡ option_map (pct s) (after_dot (sp ++ xs))
char-dot s c sp os xs k none e = let g = encode_bytes c in let no : [] ≡ g.lead ∷ g.tail = e ∙ g.split in cc
char-dot s c sp os xs k (more a b sp' os' p q m) e =
    by_test c 46 (λ v. (c == 46) ≡ v → after_dot (cond (unreserved s c) (map as_it_is (encode_utf8 c))
    (map to_ascii_uppercase (37 ∷ a ∷ b ∷ sp')) ++ pct s xs) ≡ option_map (pct s) (after_dot (37 ∷ a ∷ b ∷ (sp' ++ xs))))
    (λ same _. at_point same)
    (λ _ n. at_other n)
    refl
  where
    at_point : c ≡ 46 → after_dot (cond (unreserved s c) (map as_it_is (encode_utf8 c)) (map to_ascii_uppercase (37 ∷ a ∷ b ∷ sp'))
        ++ pct s xs) ≡ option_map (pct s) (after_dot (37 ∷ a ∷ b ∷ (sp' ++ xs)))
    at_point same =
        let whole : octet a b ∷ os' ≡ 46 ∷ [] = e ∙ (ap encode_utf8 same ∙ encode_point) in
        let o : octet a b ≡ 46 = cc in
        let rest : os' ≡ [] = cc in
        let gone = nothing_spelled sp' os' m rest in
        let right : after_dot (37 ∷ a ∷ b ∷ (sp' ++ xs)) ≡ Some xs =
        after_dot-triplet a b (sp' ++ xs) p q
        ∙ (ap (λ v. cond (v == 46) (Some (sp' ++ xs)) None) o ∙ ap (λ ys. Some (ys ++ xs)) gone) in
        rw (right, same, point_unreserved s, encode_point) (after_dot-point (pct s xs))

    at_other : (c == 46) ≡ false → after_dot (cond (unreserved s c) (map as_it_is (encode_utf8 c))
        (map to_ascii_uppercase (37 ∷ a ∷ b ∷ sp')) ++ pct s xs) ≡ option_map (pct s) (after_dot (37 ∷ a ∷ b ∷ (sp' ++ xs)))
    at_other n =
        let g = encode_bytes c in
        let first : octet a b ≡ g.lead = let w : octet a b ∷ os' ≡ g.lead ∷ g.tail = e ∙ g.split in cc in
        let apart : (g.lead == 46) ≡ false = let l : lacks 46 (g.lead ∷ g.tail) ≡ true = ap (lacks 46) (sym g.split) ∙ no_point c n in
        not-true (g.lead == 46) (both (not (g.lead == 46)) (lacks 46 g.tail) l).0 in
        let far : (octet a b == 46) ≡ false = ap (λ o. o == 46) first ∙ apart in
        let right : after_dot (37 ∷ a ∷ b ∷ (sp' ++ xs)) ≡ None = no_dot a b (sp' ++ xs) p q far in
        rw right (elim (unreserved s c) as (λ v. unreserved s c ≡ v
        → after_dot (cond v (map as_it_is (encode_utf8 c)) (map to_ascii_uppercase (37 ∷ a ∷ b ∷ sp')) ++ pct s xs) ≡ None) [
          | true ↦ λ u. rw (map_same (encode_utf8 c), g.split)
              (after_dot-plain g.lead (g.tail ++ pct s xs) (g.percent ∙ unreserved_percent s c k u) ∙ rw apart refl)
          | false ↦ λ _. lone-dot s a b (map to_ascii_uppercase sp' ++ pct s xs) p q far
        ] refl)

-- a dot in a triplet is a character
lone-far : (a b : ℕ) (xs : List ℕ) → is_ascii_hexdigit a ≡ true → is_ascii_hexdigit b ≡ true → first_char (octets (37 ∷ a ∷ b ∷ xs)) ≡ None
    → (octet a b == 46) ≡ false
lone-far a b xs p q n =
    by_test (octet a b) 46 (λ v. v ≡ false)
    (λ e.
    let whole : octets (37 ∷ a ∷ b ∷ xs) ≡ encode_utf8 46 ++ octets xs =
    octets_triplet a b xs p q ∙ (ap (λ o. o ∷ octets xs) e ∙ ap (λ os. os ++ octets xs) (sym encode_point)) in
    let there : first_char (octets (37 ∷ a ∷ b ∷ xs)) ≡ Some 46 = ap first_char whole ∙ char_first 46 (octets xs) point_scalar in
    cc)
    (λ _. refl)

dot-read : (s : Tests) (t : List ℕ) → IsSpec s → Reading t → after_dot (pct s t) ≡ option_map (pct s) (after_dot t)
dot-read s t k done = rw (normal_nil s as_it_is) refl
dot-read s t k (plain x xs h r) =
    rw (normal_plain s as_it_is x xs h, after_dot-plain x xs h, after_dot-plain x (pct s xs) h)
    (elim (x == 46) as (λ b. cond b (Some (pct s xs)) None ≡ option_map (pct s) (cond b (Some xs) None)) [
      | true ↦ refl
      | false ↦ refl
    ])
dot-read s t k (char c sp xs h sps r) = rw (normal_char s as_it_is c sp xs h sps) (char-dot s c sp (encode_utf8 c) xs k sps refl)
dot-read s t k (lone a b xs p q n r) =
    let far = lone-far a b xs p q n in rw (
      normal_lone s as_it_is a b xs p q n,
      no_dot a b xs p q far,
      lone-dot s a b (pct s xs) p q far,
    ) refl

triplet-whole : (x : ℕ) (xs r : List ℕ) → whole_triplets (x ∷ xs) ≡ true → after_dot (x ∷ xs) ≡ Some r → x ≡ 37 → whole_triplets r ≡ true
triplet-whole x xs r w e same =
    let f = percent_follows xs (ap (λ y. whole_triplets (y ∷ xs)) (sym same) ∙ w) in
    let text : x ∷ xs ≡ 37 ∷ f.a ∷ f.b ∷ f.ys = ap (λ y. y ∷ xs) same ∙ ap (λ ys. 37 ∷ ys) f.text in
    let rest : whole_triplets f.ys ≡ true = sym (whole_triplet f.a f.b f.ys f.first f.second) ∙ (ap whole_triplets (sym text) ∙ w) in
    elim (octet f.a f.b == 46) as (λ b. cond b (Some f.ys) None ≡ Some r → whole_triplets r ≡ true) [
      | true ↦ λ l. let y : f.ys ≡ r = cc in subst (λ z. whole_triplets z ≡ true) y rest
      | false ↦ λ l. cc
    ] (sym (after_dot-triplet f.a f.b f.ys f.first f.second) ∙ (ap after_dot (sym text) ∙ e))

-- what stands after a dot has no stray `%` either
pub after_dot-whole : (t r : List ℕ) → whole_triplets t ≡ true → after_dot t ≡ Some r → whole_triplets r ≡ true
after_dot-whole [] r w e = cc
after_dot-whole (x ∷ xs) r w e =
    elim (x == 37) as (λ b. (x == 37) ≡ b → whole_triplets r ≡ true) [
      | false ↦ λ n. plain-whole n
      | true ↦ λ y. triplet-whole x xs r w e (eqb-true x 37 y)
    ] refl
  where
    plain-whole : (x == 37) ≡ false → whole_triplets r ≡ true
    plain-whole n =
        elim (x == 46) as (λ b. cond b (Some xs) None ≡ Some r → whole_triplets r ≡ true) [
          | true ↦ λ l. let same : xs ≡ r = cc in
              subst (λ z. whole_triplets z ≡ true) same (sym (whole_plain x xs n) ∙ w)
          | false ↦ λ l. cc
        ] (sym (after_dot-plain x xs n) ∙ e)

pub after_dot-pct : (s : Tests) (t : List ℕ) → IsSpec s → whole_triplets t ≡ true
    → after_dot (pct s t) ≡ option_map (pct s) (after_dot t)
after_dot-pct s t k w = dot-read s t k (read t w)

-- ---- nothing stays nothing, and something something
empty-read : (s : Tests) (t : List ℕ) → Reading t → is_empty (pct s t) ≡ is_empty t
empty-read s t done = rw (normal_nil s as_it_is) refl
empty-read s t (plain x xs h r) = rw (normal_plain s as_it_is x xs h) refl
empty-read s t (char c sp xs h sps r) = rw (normal_char s as_it_is c sp xs h sps) (at sp (encode_utf8 c) sps refl)
  where
    at : (sp os : List ℕ) → Spells sp os → os ≡ encode_utf8 c
        → is_empty (cond (unreserved s c) (map as_it_is (encode_utf8 c)) (map to_ascii_uppercase sp) ++ pct s xs) ≡ is_empty (sp ++ xs)
    at sp os none e = let g = encode_bytes c in let no : [] ≡ g.lead ∷ g.tail = e ∙ g.split in cc
    at sp os (more a b sp' os' p q m) e =
        elim (unreserved s c) as (λ v. is_empty (cond v (map as_it_is (encode_utf8 c)) (map to_ascii_uppercase (37 ∷ a ∷ b ∷ sp'))
        ++ pct s xs) ≡ false) [
          | true ↦ rw (map_same (encode_utf8 c), (encode_bytes c).split) refl
          | false ↦ refl
        ]
empty-read s t (lone a b xs p q n r) = rw (normal_lone s as_it_is a b xs p q n) refl

pub empty-pct : (s : Tests) (t : List ℕ) → whole_triplets t ≡ true → is_empty (pct s t) ≡ is_empty t
empty-pct s t w = empty-read s t (read t w)

-- ---- dot segments
mapped-all : (s : Tests) (o : Option (List ℕ)) → ((r : List ℕ) → o ≡ Some r → whole_triplets r ≡ true)
    → is_all (option_map (pct s) o) ≡ is_all o
mapped-all s None h = refl
mapped-all s (Some []) h = rw (normal_nil s as_it_is) refl
mapped-all s (Some (x ∷ xs)) h = all-some (pct s (x ∷ xs)) (empty-read s (x ∷ xs) (read (x ∷ xs) (h (x ∷ xs) refl)))
  where
    all-some : (ys : List ℕ) → is_empty ys ≡ false → is_all (Some ys) ≡ false
    all-some [] e = cc
    all-some (y ∷ ys) e = refl

pub one_dot-pct : (s : Tests) (t : List ℕ) → IsSpec s → whole_triplets t ≡ true → is_one_dot (pct s t) ≡ is_one_dot t
one_dot-pct s t k w = ap is_all (after_dot-pct s t k w) ∙ mapped-all s (after_dot t) (λ r e. after_dot-whole t r w e)

mapped-after : (s : Tests) (o : Option (List ℕ)) → IsSpec s → ((r : List ℕ) → o ≡ Some r → whole_triplets r ≡ true)
    → is_one_dot_after (option_map (pct s) o) ≡ is_one_dot_after o
mapped-after s None k h = refl
mapped-after s (Some r) k h = one_dot-pct s r k (h r refl)

pub two_dots-pct : (s : Tests) (t : List ℕ) → IsSpec s → whole_triplets t ≡ true → is_two_dots (pct s t) ≡ is_two_dots t
two_dots-pct s t k w = ap is_one_dot_after (after_dot-pct s t k w) ∙ mapped-after s (after_dot t) k (λ r e. after_dot-whole t r w e)

pub dot_segment-pct : (s : Tests) (t : List ℕ) → IsSpec s → whole_triplets t ≡ true → is_dot_segment (pct s t) ≡ is_dot_segment t
dot_segment-pct s t k w = dot_kinds (pct s t) ∙ (rw (one_dot-pct s t k w, two_dots-pct s t k w) (sym (dot_kinds t)))
