-- Changes of triplets keep the triplet normal form and the class of a text.
use Rattle.iri_resolve.proofs.Common.{◌==◌, take, drop, is_ascii_hexdigit, to_ascii_uppercase, len_utf8, encode_utf8, length-encode}
use Rattle.iri_resolve.proofs.Common.{nat_tests, not-true, Tests, IsSpec, unreserved, both, by_test, text_over, octets, whole_triplets}
use Rattle.iri_resolve.proofs.Common.{normal, as_it_is, Spells, none, more, spelled, length-spelled, octets_other, encode_bytes, decoded}
use Rattle.iri_resolve.proofs.Common.{normal_plain, normal_decoded, is_decoded, whole_plain, read, is_small_digit, with_capital_digit}
use Rattle.iri_resolve.proofs.Common.{with_character, with_decoded, leads, normal-seam, whole-percent, ◌≡◌, ℕ, zero, suc, ◌+◌, ◌*◌, Bool}
use Rattle.iri_resolve.proofs.Common.{true, false, cond, not, ◌&&◌, List, [], ◌∷◌, ◌++◌, Option, Some, None, length, refl, sym, ◌∙◌, ap}
use Rattle.iri_resolve.proofs.Common.{subst, arith}
use Rattle.std.proofs.Common.{map, append-nil, drop-drop, drop_at, take-append-drop}
use lib.Utf8.{scalar}
use Rattle.std.proofs.lemmas.Str.Ascii.{uppercase-uppercase}
use Rattle.iri_grammar.specs.Classes.{is_ascii_unreserved}
use Rattle.iri_percent.specs.Units.{octet, first_char, two_digits}
use Rattle.iri_percent.proofs.forms.Classes.{IsText, ended, letter, over-from_text}
use Rattle.iri_percent.proofs.units.AtStart.{hex_apart, octets_triplet, octets_spelled}
use Rattle.iri_percent.proofs.forms.ByUnits.{normal_plains, normal_lone, normal_char}
use Rattle.iri_percent.proofs.units.WholeTriplets.{Reading, done, plain, char, lone}
use Rattle.iri_percent.proofs.forms.Stability.{as_it_is-case, upper_hex, upper_octet, encode_percent, unreserved_percent, decoded_octets}
use Rattle.iri_grammar.proofs.units.UnitRuns.{text_over-append}
use Rattle.iri_resolve.proofs.ByteLaws.{capital_digit, IsAsGood, byte_change-over, text_over-after, digit_low}
use Rattle.iri_normal.proofs.triplets.DotTriplets.{map_same}
use Rattle.iri_normal.proofs.targets.CutTexts.{text_over-sides}

-- ---- capital digits
-- a text with capital digits in its triplets, where so many digits of a triplet are still to come
unfoldable capitals : ℕ → List ℕ → List ℕ
capitals n [] = []
capitals zero (x ∷ xs) = x ∷ capitals (cond (x == 37) 2 0) xs
capitals (suc n) (x ∷ xs) = to_ascii_uppercase x ∷ capitals n xs

capitals-plain : (x : ℕ) (xs : List ℕ) → (x == 37) ≡ false → capitals 0 (x ∷ xs) ≡ x ∷ capitals 0 xs
unfolding capitals
capitals-plain x xs h = ap (λ b. x ∷ capitals (cond b 2 0) xs) h

capitals-triplet : (a b : ℕ) (xs : List ℕ) → capitals 0 (37 ∷ a ∷ b ∷ xs) ≡ 37 ∷ to_ascii_uppercase a ∷ to_ascii_uppercase b ∷ capitals 0 xs
unfolding capitals
capitals-triplet a b xs = refl

capitals-spelled : (sp os xs : List ℕ) → Spells sp os → capitals 0 (sp ++ xs) ≡ map to_ascii_uppercase sp ++ capitals 0 xs
capitals-spelled sp os xs none = refl
capitals-spelled sp os xs (more a b sp' os' p q k) =
    capitals-triplet a b (sp' ++ xs) ∙ ap (λ z. 37 ∷ to_ascii_uppercase a ∷ to_ascii_uppercase b ∷ z) (capitals-spelled sp' os' xs k)

capitals-octets : (t : List ℕ) → Reading t → octets (capitals 0 t) ≡ octets t
unfolding capitals
capitals-octets t done = refl
capitals-octets t (plain x xs h r) = ap octets (capitals-plain x xs h) ∙ octets_other x (capitals 0 xs) h ∙ sym (octets_other x xs h)
capitals-octets t (lone a b xs p q n r) =
    octets_triplet (to_ascii_uppercase a) (to_ascii_uppercase b) (capitals 0 xs) (upper_hex a p) (upper_hex b q)
    ∙ ap (λ o. o ∷ octets (capitals 0 xs)) (upper_octet a b p q)
    ∙ ap (λ os. octet a b ∷ os) (capitals-octets xs r)
    ∙ sym (octets_triplet a b xs p q)
capitals-octets t (char c sp xs h sps r) =
    ap octets (capitals-spelled sp (encode_utf8 c) xs sps)
    ∙ octets_spelled (map to_ascii_uppercase sp) (encode_utf8 c) (capitals 0 xs)
    (Rattle.iri_percent.proofs.forms.Stability.upper_spells sp (encode_utf8 c) sps)
    ∙ ap (λ os. encode_utf8 c ++ os) (capitals-octets xs r)
    ∙ sym (octets_spelled sp (encode_utf8 c) xs sps)

upper-map : (xs : List ℕ) → map to_ascii_uppercase (map to_ascii_uppercase xs) ≡ map to_ascii_uppercase xs
upper-map [] = refl
upper-map (x ∷ xs) = ap (λ y. y ∷ map to_ascii_uppercase (map to_ascii_uppercase xs)) (uppercase-uppercase x)
    ∙ ap (λ l. to_ascii_uppercase x ∷ l) (upper-map xs)

capitals-read : (s : Tests) (f : ℕ → ℕ) (t : List ℕ) → Reading t → normal s f (capitals 0 t) ≡ normal s f t
unfolding capitals
capitals-read s f t done = refl
capitals-read s f t (plain x xs h r) = ap (normal s f) (capitals-plain x xs h) ∙ normal_plain s f x (capitals 0 xs) h
    ∙ ap (λ z. f x ∷ z) (capitals-read s f xs r) ∙ sym (normal_plain s f x xs h)
capitals-read s f t (lone a b xs p q n r) =
    let same : first_char (octets (37 ∷ to_ascii_uppercase a ∷ to_ascii_uppercase b ∷ capitals 0 xs)) ≡ None =
    ap first_char (capitals-octets (37 ∷ a ∷ b ∷ xs) (lone a b xs p q n r)) ∙ n in
    normal_lone s f (to_ascii_uppercase a) (to_ascii_uppercase b) (capitals 0 xs) (upper_hex a p) (upper_hex b q) same
    ∙ ap (λ z. 37 ∷ to_ascii_uppercase (to_ascii_uppercase a) ∷ to_ascii_uppercase (to_ascii_uppercase b) ∷ z) (capitals-read s f xs r)
    ∙ ap (λ z. 37 ∷ z ∷ to_ascii_uppercase (to_ascii_uppercase b) ∷ normal s f xs) (uppercase-uppercase a)
    ∙ ap (λ z. 37 ∷ to_ascii_uppercase a ∷ z ∷ normal s f xs) (uppercase-uppercase b)
    ∙ sym (normal_lone s f a b xs p q n)
capitals-read s f t (char c sp xs h sps r) =
    ap (normal s f) (capitals-spelled sp (encode_utf8 c) xs sps)
    ∙ normal_char s f c (map to_ascii_uppercase sp) (capitals 0 xs) h
    (Rattle.iri_percent.proofs.forms.Stability.upper_spells sp (encode_utf8 c) sps)
    ∙ ap (λ z. cond (unreserved s c) (map f (encode_utf8 c)) (map to_ascii_uppercase (map to_ascii_uppercase sp)) ++ z)
    (capitals-read s f xs r)
    ∙ ap (λ z. cond (unreserved s c) (map f (encode_utf8 c)) z ++ normal s f xs) (upper-map sp)
    ∙ sym (normal_char s f c sp xs h sps)

-- a digit inside a triplet in capital or small
capitals-changed : (a b : List ℕ) (x : ℕ) → whole_triplets (a ++ x ∷ b) ≡ true → whole_triplets a ≡ false
    → capitals 0 (a ++ x ∷ b) ≡ capitals 0 (a ++ to_ascii_uppercase x ∷ b)
unfolding capitals whole_triplets
capitals-changed [] b x w n = cc
capitals-changed (y ∷ []) b x w n =
    by_test y 37 (λ v. (cond v false true && true) ≡ false → capitals 0 (y ∷ x ∷ b) ≡ capitals 0 (y ∷ to_ascii_uppercase x ∷ b))
    (λ e _. rw e (ap (λ z. 37 ∷ z ∷ capitals 1 b) (sym (uppercase-uppercase x))))
    (λ _ k. cc)
    n
capitals-changed (y ∷ h ∷ []) b x w n =
    let k = both (cond (y == 37) (two_digits (h ∷ x ∷ b)) true) (whole_triplets (h ∷ x ∷ b)) w in
    by_test y 37 (λ v. (y == 37) ≡ v → cond v (two_digits (h ∷ x ∷ b)) true ≡ true → (cond v false true && whole_triplets (h ∷ [])) ≡ false
    → capitals 0 (y ∷ h ∷ x ∷ b) ≡ capitals 0 (y ∷ h ∷ to_ascii_uppercase x ∷ b))
    (λ e _ _ _. rw e (ap (λ z. 37 ∷ to_ascii_uppercase h ∷ z ∷ capitals 0 b) (sym (uppercase-uppercase x))))
    (λ _ e _ m. capitals-plain y (h ∷ x ∷ b) e ∙ ap (λ z. y ∷ z) (capitals-changed (h ∷ []) b x k.1 m)
    ∙ sym (capitals-plain y (h ∷ to_ascii_uppercase x ∷ b) e))
    refl k.0 n
capitals-changed (y ∷ h ∷ j ∷ a) b x w n =
    let k = both (cond (y == 37) (two_digits (h ∷ j ∷ (a ++ x ∷ b))) true) (whole_triplets (h ∷ j ∷ (a ++ x ∷ b))) w in
    elim (y == 37) as (λ v. (y == 37) ≡ v → cond v (is_ascii_hexdigit h && is_ascii_hexdigit j) true ≡ true
    → (cond v (is_ascii_hexdigit h && is_ascii_hexdigit j) true && whole_triplets (h ∷ j ∷ a)) ≡ false
    → y ∷ capitals (cond v 2 0) (h ∷ j ∷ (a ++ x ∷ b)) ≡ y ∷ capitals (cond v 2 0) (h ∷ j ∷ (a ++ to_ascii_uppercase x ∷ b))) [
      | true ↦ λ _ d m.
          let two = both (is_ascii_hexdigit h) (is_ascii_hexdigit j) d in
          let after : whole_triplets (a ++ x ∷ b) ≡ true =
          sym (whole_plain h (j ∷ (a ++ x ∷ b)) (hex_apart h two.0) ∙ whole_plain j (a ++ x ∷ b) (hex_apart j two.1)) ∙ k.1 in
          let prefix : whole_triplets a ≡ false = sym (whole_plain h (j ∷ a) (hex_apart h two.0) ∙ whole_plain j a (hex_apart j two.1))
          ∙ (ap (λ v. v && whole_triplets (h ∷ j ∷ a)) (sym d) ∙ m) in
          ap (λ z. y ∷ to_ascii_uppercase h ∷ to_ascii_uppercase j ∷ z) (capitals-changed a b x after prefix)
      | false ↦ λ e _ m. ap (λ z. y ∷ z) (capitals-changed (h ∷ j ∷ a) b x k.1 m)
    ] refl k.0 n

-- both texts have whole triplets
pub digit-normal : (s : Tests) (f : ℕ → ℕ) (i : ℕ) (t u : List ℕ) → with_capital_digit i t ≡ Some u → whole_triplets t ≡ true
    → whole_triplets u ≡ true → normal s f u ≡ normal s f t
digit-normal s f i t u h w v =
    let c = capital_digit i t u h in
    let e : capitals 0 t ≡ capitals 0 u = ap (capitals 0) c.change.old
    ∙ capitals-changed (take i t) c.change.back c.change.byte (ap whole_triplets (sym c.change.old) ∙ w)
    (not-true (whole_triplets (take i t)) c.place) ∙ ap (capitals 0) (sym c.change.new) in
    sym (capitals-read s f u (read u v)) ∙ ap (normal s f) (sym e) ∙ capitals-read s f t (read t w)

digit-good : (p : ℕ → Bool) → ((c : ℕ) → is_ascii_unreserved c ≡ true → p c ≡ true) → (x : ℕ) → is_small_digit x ≡ true
    → IsAsGood p x (to_ascii_uppercase x)
unfolding is_ascii_unreserved
digit-good p k x h = record {
  low = (digit_low x h).0;
  still_low = (digit_low x h).1;
  plain = grind (arith, nat_tests);
  still_plain = grind (arith, nat_tests);
  digit = λ _. grind (arith, nat_tests);
  class = λ _. k (to_ascii_uppercase x) (upper_letter x h);
}
  where
    upper_letter : (x : ℕ) → is_small_digit x ≡ true → is_ascii_unreserved (to_ascii_uppercase x) ≡ true
    upper_letter x h = grind (arith, nat_tests)

pub digit-over : (p : ℕ → Bool) (i : ℕ) (t u : List ℕ) → ((c : ℕ) → is_ascii_unreserved c ≡ true → p c ≡ true)
    → with_capital_digit i t ≡ Some u → text_over p t ≡ true → text_over p u ≡ true
digit-over p i t u k h o = byte_change-over p is_small_digit to_ascii_uppercase i t u (digit-good p k) (capital_digit i t u h).change o

-- ---- decoding
-- the triplets from i on spell the unreserved character c, which stands in their place in u
pub record Decoding (s : Tests) (i : ℕ) (t u : List ℕ) : Type 0 where
  pub c : ℕ
  pub sp : List ℕ
  pub back : List ℕ
  pub is_scalar : scalar c ≡ true
  pub free : unreserved s c ≡ true
  pub spells : Spells sp (encode_utf8 c)
  pub old : t ≡ take i t ++ (sp ++ back)
  pub new : u ≡ take i t ++ (encode_utf8 c ++ back)

pub decoding : (s : Tests) (i : ℕ) (t u : List ℕ) → with_decoded s i t ≡ Some u → Decoding s i t u
unfolding with_decoded
decoding s i t u h = at (decoded s (octets (drop i t))) refl h
  where
    at : (o : Option ℕ) → decoded s (octets (drop i t)) ≡ o → with_character i t o ≡ Some u → Decoding s i t u
    at None e k = cc
    at (Some c) e k =
        let d = is_decoded s (octets (drop i t)) c e in
        let r = spelled (encode_utf8 c) d.0.rest (drop i t) d.0.split in
        let long : length r.sp ≡ 3 * len_utf8 c = length-spelled r.sp (encode_utf8 c) r.spells ∙ ap (λ n. 3 * n) (length-encode c) in
        let after : drop (i + 3 * len_utf8 c) t ≡ r.xs =
        sym (drop-drop (3 * len_utf8 c) i t) ∙ ap (drop (3 * len_utf8 c)) r.text ∙ drop_at r.sp r.xs (3 * len_utf8 c) long in
        let same : take i t ++ (encode_utf8 c ++ drop (i + 3 * len_utf8 c) t) ≡ u = cc in
        record {
          c = c;
          sp = r.sp;
          back = r.xs;
          is_scalar = d.0.is_scalar;
          free = d.1;
          spells = r.spells;
          old = sym (take-append-drop i t) ∙ ap (λ z. take i t ++ z) r.text;
          new = sym same ∙ ap (λ z. take i t ++ (encode_utf8 c ++ z)) after;
        }

-- triplets begin with a `%`
pub record Percent (sp : List ℕ) : Type 0 where
  pub rest : List ℕ
  pub text : sp ≡ 37 ∷ rest

pub some_triplets : (c : ℕ) (sp os : List ℕ) → Spells sp os → os ≡ encode_utf8 c → Percent sp
some_triplets c sp os none e = let b = encode_bytes c in let no : [] ≡ b.lead ∷ b.tail = e ∙ b.split in cc
some_triplets c sp os (more a b sp' os' p q k) e = record { rest = a ∷ b ∷ sp'; text = refl }

pub spelled-leads : (c : ℕ) (sp xs : List ℕ) → Spells sp (encode_utf8 c) → leads (octets (sp ++ xs)) ≡ true
spelled-leads c sp xs k = let b = encode_bytes c in
    ap leads (octets_spelled sp (encode_utf8 c) xs k ∙ ap (λ os. os ++ octets xs) b.split) ∙ ap not b.leads

pub decoded-normal : (s : Tests) (f : ℕ → ℕ) (i : ℕ) (t u : List ℕ) → IsSpec s → with_decoded s i t ≡ Some u → whole_triplets t ≡ true
    → normal s f u ≡ normal s f t
decoded-normal s f i t u k h w =
    let d = decoding s i t u h in
    let a = take i t in
    let p = some_triplets d.c d.sp (encode_utf8 d.c) d.spells refl in
    let prefix : whole_triplets a ≡ true = whole-percent a (p.rest ++ d.back)
    (ap whole_triplets (sym (d.old ∙ ap (λ z. a ++ (z ++ d.back)) p.text)) ∙ w) in
    let none : octets (encode_utf8 d.c ++ d.back) ≡ [] =
    ap (λ z. octets (z ++ d.back)) (sym (map_same (encode_utf8 d.c))) ∙ decoded_octets s as_it_is d.c d.back k as_it_is-case d.free in
    let new : normal s f u ≡ normal s f a ++ (map f (encode_utf8 d.c) ++ normal s f d.back) =
    ap (normal s f) d.new ∙ normal-seam s f a (encode_utf8 d.c ++ d.back) prefix (ap leads none)
    ∙ ap (λ z. normal s f a ++ z) (normal_plains s f (encode_utf8 d.c) d.back
    (encode_percent d.c (unreserved_percent s d.c k d.free))) in
    let old : normal s f t ≡ normal s f a ++ (map f (encode_utf8 d.c) ++ normal s f d.back) =
    ap (normal s f) d.old ∙ normal-seam s f a (d.sp ++ d.back) prefix (spelled-leads d.c d.sp d.back d.spells)
    ∙ ap (λ z. normal s f a ++ z) (normal_decoded s f d.c d.sp d.back d.is_scalar d.free d.spells) in
    new ∙ sym old

spelled-over : (p : ℕ → Bool) (sp os xs : List ℕ) → Spells sp os → text_over p (sp ++ xs) ≡ true → text_over p xs ≡ true
spelled-over p sp os xs none h = h
spelled-over p sp os xs (more a b sp' os' ha hb k) h = spelled-over p sp' os' xs k (text_over-after p a b (sp' ++ xs) ha hb h)

pub decoded-over : (s : Tests) (p : ℕ → Bool) (i : ℕ) (t u : List ℕ) → IsSpec s → p 37 ≡ false
    → ((c : ℕ) → unreserved s c ≡ true → p c ≡ true) → with_decoded s i t ≡ Some u → text_over p t ≡ true → text_over p u ≡ true
decoded-over s p i t u k n q h o =
    let d = decoding s i t u h in
    let g = some_triplets d.c d.sp (encode_utf8 d.c) d.spells refl in
    let sides = text_over-sides p 37 (take i t) (g.rest ++ d.back) (omega arith) refl
    (ap (text_over p) (sym (d.old ∙ ap (λ z. take i t ++ (z ++ d.back)) g.text)) ∙ o) in
    let back = spelled-over p d.sp (encode_utf8 d.c) d.back d.spells (ap (λ z. text_over p (z ++ d.back)) g.text ∙ sides.1) in
    let one : text_over p (encode_utf8 d.c) ≡ true =
    over-from_text p (encode_utf8 d.c) n (subst (λ z. IsText p z) (append-nil (encode_utf8 d.c))
    (letter d.c [] d.is_scalar (q d.c d.free) (unreserved_percent s d.c k d.free) ended)) in
    ap (text_over p) d.new ∙ text_over-append p (take i t) (encode_utf8 d.c ++ d.back) sides.0
    (text_over-append p (encode_utf8 d.c) d.back one back)
