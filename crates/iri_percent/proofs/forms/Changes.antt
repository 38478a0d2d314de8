-- Changes of a text, and the runs between them.
use Rattle.iri_percent.proofs.Common.{◌==◌, is_ascii_hexdigit, is_ascii_uppercase, to_ascii_uppercase, to_ascii_lowercase, encode_utf8}
use Rattle.iri_percent.proofs.Common.{len_utf8, scalar, encode_ascii, length-encode, len_utf8_bounds, IsUtf8, ltb, drop_at, nat_tests}
use Rattle.iri_percent.proofs.Common.{IsAscii-cons, IsAscii-nil, Tests, IsSpec, unreserved, is_ascii_unreserved, both, octet, octets, triplet}
use Rattle.iri_percent.proofs.Common.{whole_triplets, normal, decoded, case_of, stays, NoCandidate, Becomes, Gathered, Writes}
use Rattle.std.proofs.Common.{◌≡◌, ℕ, zero, suc, ◌+◌, ◌-◌, ◌*◌, ◌<◌, ◌≤◌, Bool, true, false, not, ◌&&◌, List, [], ◌∷◌, ◌++◌, Option, Some}
use Rattle.std.proofs.Common.{None, length, take, drop, get_or, refl, sym, ◌∙◌, ap, subst, arith, append_assoc, length-append, length-drop}
use Rattle.std.proofs.Common.{cond, append-nil, drop-drop, ltb-true, ltb-false, get_or-drop, slice_range}
use Rattle.std.specs.Prelude.{MatchOption}
use Rattle.std.proofs.lemmas.Str.{IsUtf8-encode, IsUtf8-from_ascii, lead_after_ascii}
use Rattle.std.proofs.lemmas.List.{get_or_append_left, take_all, drop_all}
use Rattle.iri_grammar.proofs.units.FirstUnits.{hex_is_ascii}
use Rattle.iri_percent.proofs.characters.HexDigits.{capital_triplet}
use Rattle.iri_percent.proofs.characters.Spellings.{ascii_decoded, low_decoded, past_ascii, unreserved_low}
use Rattle.iri_percent.proofs.units.AtStart.{octets_triplet, Spells, none, more, spelled, Spelled, length-spelled}
use Rattle.iri_percent.proofs.forms.ByUnits.{normal_nil, normal_plain, normal_decoded, normal_kept}
use Rattle.iri_percent.proofs.units.WholeTriplets.{whole_plain, whole_triplet, whole_after, Follows, percent_follows}
use Rattle.iri_percent.proofs.forms.Cases.{encode_case, is_decoded}
use Rattle.iri_percent.proofs.forms.Stability.{IsCase, as_it_is-case, lower-case}
use Rattle.iri_percent.specs.inside.Pieces.{octet_text, CandidateAt, FirstCandidate}

-- ---- runs
stays_percent : (lower : Bool) (x : ℕ) → stays lower x ≡ true → (x == 37) ≡ false
stays_percent lower x h = elim (x == 37) as (λ b. (not b && not (lower && is_ascii_uppercase x)) ≡ true
    → b ≡ false) [ true ↦ λ k. cc | false ↦ λ _. refl ] h

not_upper : (x : ℕ) → not (is_ascii_uppercase x) ≡ true → to_ascii_lowercase x ≡ x
not_upper x h = grind (arith, nat_tests)

stays_case : (lower : Bool) (x : ℕ) → stays lower x ≡ true → case_of lower x ≡ x
stays_case true x h = not_upper x (both (not (x == 37)) (not (is_ascii_uppercase x)) h).1
stays_case false x h = refl

pub record Run (s : Tests) (lower : Bool) (t : List ℕ) (n : ℕ) : Type 0 where
  pub text : normal s (case_of lower) t ≡ take n t ++ normal s (case_of lower) (drop n t)
  pub whole : whole_triplets (drop n t) ≡ whole_triplets t

pub run : (s : Tests) (lower : Bool) (t : List ℕ) (n : ℕ) → n ≤ length t → NoCandidate lower t n → Run s lower t n
run s lower t zero l h = record { text = refl; whole = refl }
run s lower [] (suc n) l h = absurd (omega arith)
run s lower (x ∷ xs) (suc n) l h =
    let first : stays lower x ≡ true = h 0 (omega arith) in
    let r = run s lower xs n (omega arith) (λ k j. h (suc k) (omega arith)) in
    record {
      text = normal_plain s (case_of lower) x xs (stays_percent lower x first)
          ∙ ap (λ y. y ∷ normal s (case_of lower) xs) (stays_case lower x first) ∙ ap (λ l. x ∷ l) r.text;
      whole = r.whole ∙ sym (whole_plain x xs (stays_percent lower x first));
    }

pub run_all : (s : Tests) (lower : Bool) (t : List ℕ) → NoCandidate lower t (length t) → normal s (case_of lower) t ≡ t
run_all s lower t h =
    (run s lower t (length t) (omega arith) h).text ∙ ap (λ l. take (length t) t ++ normal s (case_of lower) l) (drop_all (length t) t (omega arith))
    ∙ ap (λ l. take (length t) t ++ l) (normal_nil s (case_of lower)) ∙ append-nil (take (length t) t) ∙ take_all (length t) t (omega arith)

-- nothing is gathered yet
delimiter_below : (lower : Bool) (x : ℕ) → stays lower x ≡ false → x < 128
delimiter_below true x h = grind (arith, nat_tests)
delimiter_below false x h = grind (arith, nat_tests)

pub first_candidate : (s : Tests) (lower : Bool) (t : List ℕ) (o : Option ℕ) → whole_triplets t ≡ true
    → MatchOption o (NoCandidate lower t (length t)) (λ i. CandidateAt lower t i)
    → MatchOption o (normal s (case_of lower) t ≡ t) (λ i. FirstCandidate s lower t i)
first_candidate s lower t None w n = run_all s lower t n
first_candidate s lower t (Some i) w m =
    let r = run s lower t i (omega (arith, m.inside)) m.before in
    record { inside = m.inside; candidate = m.candidate; same = r.text; whole = r.whole ∙ w }

pub gathers : (s : Tests) (lower : Bool) (t : List ℕ) (at : ℕ) → FirstCandidate s lower t at → Gathered s lower t at 0 []
gathers s lower t at m =
    let same : at ≡ at + 0 = omega arith in
    record {
      text = m.same ∙ ap (λ n. take at t ++ normal s (case_of lower) (drop n t)) same;
      within = omega (arith, m.inside);
      first = delimiter_below lower (get_or t at 0) m.candidate;
      whole = ap (λ n. whole_triplets (drop n t)) (sym same) ∙ m.whole;
    }

pub so_far : {s : Tests} {lower : Bool} {t : List ℕ} {at len : ℕ} {l : List ℕ} → Becomes s lower t at len l → Gathered s lower t at len l
so_far r = record { text = r.text; within = r.within; first = r.first; whole = r.whole }

-- a change after a change
pub joined : (s : Tests) (lower : Bool) (t tail : List ℕ) (at n m : ℕ) (l k : List ℕ) → tail ≡ drop (at + n) t
    → Gathered s lower t at n l → Becomes s lower tail 0 m k → Becomes s lower t at (n + m) (l ++ k)
joined s lower t tail at n m l k is p q =
    let r : Becomes s lower (drop (at + n) t) 0 m k = subst (λ x. Becomes s lower x 0 m k) is q in
    let after : drop (0 + m) (drop (at + n) t) ≡ drop (at + (n + m)) t =
    drop-drop (0 + m) (at + n) t ∙ ap (λ i. drop i t) (omega arith) in
    let place : at + n + (0 + m - 1) ≡ at + (n + m) - 1 = sum r.some in
    record {
      text = p.text
          ∙ ap (λ x. take at t ++ (l ++ x)) (r.text ∙ ap (λ x. k ++ normal s (case_of lower) x) after)
          ∙ ap (λ x. take at t ++ x) (sym (append_assoc l k (normal s (case_of lower) (drop (at + (n + m)) t))));
      within = omega (arith, p.within, r.within, length-drop (at + n) t);
      some = omega (arith, r.some);
      first = p.first;
      last = subst (λ b. b < 128) (get_or-drop (at + n) t (0 + m - 1) 0 ∙ ap (λ i. get_or t i 0) place) r.last;
      whole = ap whole_triplets (sym after) ∙ r.whole;
    }
  where
    sum : 0 < m → at + n + (0 + m - 1) ≡ at + (n + m) - 1
    sum h = omega arith

-- ---- changes at the start
-- what stands after a `%`
at_percent : (t : List ℕ) → whole_triplets t ≡ true → 0 < length t → get_or t 0 0 ≡ 37
    → (f : Follows (drop 1 t)) × (t ≡ 37 ∷ f.a ∷ f.b ∷ f.ys)
at_percent [] w l e = absurd (omega arith)
at_percent (x ∷ xs) w l e =
    let f = percent_follows xs (ap (λ y. whole_triplets (y ∷ xs)) (sym e) ∙ w) in
    (f, ap (λ y. y ∷ xs) e ∙ ap (λ ys. 37 ∷ ys) f.text)

pub triplet_room : (t : List ℕ) → whole_triplets t ≡ true → 0 < length t → get_or t 0 0 ≡ 37 → 3 ≤ length t
triplet_room t w l e = let r = at_percent t w l e in omega (arith, ap length r.1)

pub case_is : (lower : Bool) → IsCase (case_of lower)
case_is true = lower-case
case_is false = as_it_is-case

spells_ascii : (sp os : List ℕ) → Spells sp os → (k : ℕ) → get_or sp k 0 < 128
spells_ascii sp os none k = omega arith
spells_ascii sp os (more a b sp' os' p q r) zero = omega arith
spells_ascii sp os (more a b sp' os' p q r) (suc zero) = hex_is_ascii a p
spells_ascii sp os (more a b sp' os' p q r) (suc (suc zero)) = hex_is_ascii b q
spells_ascii sp os (more a b sp' os' p q r) (suc (suc (suc k))) = spells_ascii sp' os' r k

-- a character that is decoded
pub decodes : (s : Tests) (lower : Bool) (t : List ℕ) (c : ℕ) → whole_triplets t ≡ true → get_or t 0 0 ≡ 37 → decoded s (octets t) ≡ Some c
    → Becomes s lower t 0 (3 * len_utf8 c) (encode_utf8 (case_of lower c))
decodes s lower t c w p h = let d = is_decoded s (octets t) c h in at d.1 d.0.is_scalar (spelled (encode_utf8 c) d.0.rest t d.0.split)
  where
    at : unreserved s c ≡ true → scalar c ≡ true → {rest : List ℕ} → Spelled t (encode_utf8 c) rest
        → Becomes s lower t 0 (3 * len_utf8 c) (encode_utf8 (case_of lower c))
    at u k r =
        let size : length r.sp ≡ 3 * len_utf8 c = length-spelled r.sp (encode_utf8 c) r.spells ∙ ap (λ n. 3 * n) (length-encode c) in
        let some : 0 < 3 * len_utf8 c = omega (arith, len_utf8_bounds c) in
        let rest : drop (0 + 3 * len_utf8 c) t ≡ r.xs =
        ap (drop (0 + 3 * len_utf8 c)) r.text ∙ drop_at r.sp r.xs (0 + 3 * len_utf8 c) (omega (arith, size)) in
        let end : get_or t (0 + 3 * len_utf8 c - 1) 0 ≡ get_or r.sp (0 + 3 * len_utf8 c - 1) 0 =
        ap (λ l. get_or l (0 + 3 * len_utf8 c - 1) 0) r.text
        ∙ get_or_append_left r.sp r.xs 0 (0 + 3 * len_utf8 c - 1) (omega (arith, size, some)) in
        record {
          text = ap (normal s (case_of lower)) r.text ∙ normal_decoded s (case_of lower) c r.sp r.xs k u r.spells
              ∙ ap (λ l. l ++ normal s (case_of lower) r.xs) (encode_case (case_of lower) c (case_is lower))
              ∙ ap (λ l. encode_utf8 (case_of lower c) ++ normal s (case_of lower) l) (sym rest);
          within = omega (arith, size, ap length r.text, length-append r.sp r.xs);
          some = some;
          first = omega (arith, p);
          last = omega (arith, end, spells_ascii r.sp (encode_utf8 c) r.spells (0 + 3 * len_utf8 c - 1));
          whole = ap whole_triplets rest ∙ sym (whole_after r.sp (encode_utf8 c) r.xs r.spells) ∙ sym (ap whole_triplets r.text) ∙ w;
        }

-- a triplet whose digits get capital
raises_at : (s : Tests) (lower : Bool) (a b : ℕ) (ys : List ℕ) → is_ascii_hexdigit a ≡ true → is_ascii_hexdigit b ≡ true
    → whole_triplets (37 ∷ a ∷ b ∷ ys) ≡ true → decoded s (octets (37 ∷ a ∷ b ∷ ys)) ≡ None
    → Becomes s lower (37 ∷ a ∷ b ∷ ys) 0 3 (37 ∷ to_ascii_uppercase a ∷ to_ascii_uppercase b ∷ [])
raises_at s lower a b ys p q w n = record {
  text = normal_kept s (case_of lower) a b ys p q n;
  within = omega arith;
  some = omega arith;
  first = omega arith;
  last = hex_is_ascii b q;
  whole = sym (whole_triplet a b ys p q) ∙ w;
}

-- the digits of a triplet at the start
pub record Digits (t : List ℕ) : Type 0 where
  pub high : is_ascii_hexdigit (get_or t 1 0) ≡ true
  pub low : is_ascii_hexdigit (get_or t 2 0) ≡ true
  pub octets_are : octets t ≡ octet (get_or t 1 0) (get_or t 2 0) ∷ octets (drop 3 t)
  pub room : 3 ≤ length t

pub digits : (t : List ℕ) → whole_triplets t ≡ true → 0 < length t → get_or t 0 0 ≡ 37 → Digits t
digits t w l e =
    let r = at_percent t w l e in
    subst Digits (sym r.1) (record { high = r.0.first; low = r.0.second; octets_are = octets_triplet r.0.a r.0.b r.0.ys r.0.first r.0.second; room = omega arith })

pub at_octet : (t : List ℕ) (o : ℕ) → whole_triplets t ≡ true → 0 < length t → get_or t 0 0 ≡ 37
    → o ≡ octet (get_or t 1 0) (get_or t 2 0) → octets t ≡ o ∷ octets (drop 3 t)
at_octet t o w l e is = (digits t w l e).octets_are ∙ ap (λ n. n ∷ octets (drop 3 t)) (sym is)

-- what is written for an octet of these digits
abbrev spelled_text : Bool → ℕ → ℕ → ℕ → List ℕ
spelled_text lower o a b = cond (is_ascii_unreserved o) (case_of lower o ∷ []) (37 ∷ to_ascii_uppercase a ∷ to_ascii_uppercase b ∷ [])

octet_same : (lower : Bool) (o a b : ℕ) → is_ascii_hexdigit a ≡ true → is_ascii_hexdigit b ≡ true → o ≡ octet a b
    → octet_text lower o ≡ spelled_text lower o a b
octet_same lower o a b p q is =
    ap (λ l. cond (is_ascii_unreserved o) (case_of lower o ∷ []) l) (ap triplet is ∙ capital_triplet a b p q)

-- an octet that begins no character past ASCII
octet_becomes : (s : Tests) (lower : Bool) (t : List ℕ) (o : ℕ) → IsSpec s → whole_triplets t ≡ true → 0 < length t → get_or t 0 0 ≡ 37
    → o ≡ octet (get_or t 1 0) (get_or t 2 0) → (192 ≤ o → decoded s (octets t) ≡ None)
    → Becomes s lower t 0 3 (spelled_text lower o (get_or t 1 0) (get_or t 2 0))
octet_becomes s lower t o i w l e is high =
    elim (is_ascii_unreserved o) as (λ b. is_ascii_unreserved o ≡ b → Becomes s lower t 0 3
    (cond b (case_of lower o ∷ []) (37 ∷ to_ascii_uppercase (get_or t 1 0) ∷ to_ascii_uppercase (get_or t 2 0) ∷ []))) [
      | true ↦ λ u. one (unreserved_low o u) (decodes s lower t o w e (ascii_decoded s o (octets t) (octets (drop 3 t)) here u))
      | false ↦ λ u. three (elim (ltb o 192) as (λ b. ltb o 192 ≡ b → decoded s (octets t) ≡ None) [
        | true ↦ λ f. low_decoded s o (octets t) (octets (drop 3 t)) i here (ltb-true o 192 f) u
        | false ↦ λ f. high (ltb-false o 192 f)
      ] refl)
    ] refl
  where
    here : octets t ≡ o ∷ octets (drop 3 t)
    here = at_octet t o w l e is

    one : o < 128 → Becomes s lower t 0 (3 * len_utf8 o) (encode_utf8 (case_of lower o)) → Becomes s lower t 0 3 (case_of lower o ∷ [])
    one h r = subst (λ n. Becomes s lower t 0 n (case_of lower o ∷ [])) (ap (λ n. 3 * n) (sym (length-encode o) ∙ ap length (encode_ascii o h)))
        (subst (λ x. Becomes s lower t 0 (3 * len_utf8 o) x) (encode_ascii (case_of lower o) ((case_is lower).below o h)) r)

    three : decoded s (octets t) ≡ None → Becomes s lower t 0 3 (37 ∷ to_ascii_uppercase (get_or t 1 0) ∷ to_ascii_uppercase (get_or t 2 0) ∷ [])
    three n =
        let r = at_percent t w l e in
        let f = r.0 in
        subst (λ x. Becomes s lower x 0 3 (37 ∷ to_ascii_uppercase (get_or x 1 0) ∷ to_ascii_uppercase (get_or x 2 0) ∷ [])) (sym r.1)
        (raises_at s lower f.a f.b f.ys f.first f.second (ap whole_triplets (sym r.1) ∙ w) (ap (λ x. decoded s (octets x)) (sym r.1) ∙ n))

pub upper_digit : (a : ℕ) → is_ascii_hexdigit a ≡ true → to_ascii_uppercase a < 128
upper_digit a h = grind (arith, nat_tests)

octet_utf8 : (lower : Bool) (o a b : ℕ) → is_ascii_hexdigit a ≡ true → is_ascii_hexdigit b ≡ true → IsUtf8 (spelled_text lower o a b)
octet_utf8 lower o a b p q =
    elim (is_ascii_unreserved o) as (λ v. is_ascii_unreserved o ≡ v
    → IsUtf8 (cond v (case_of lower o ∷ []) (37 ∷ to_ascii_uppercase a ∷ to_ascii_uppercase b ∷ []))) [
      | true ↦ λ u. IsUtf8-from_ascii _ (IsAscii-cons (case_of lower o) [] ((case_is lower).below o (unreserved_low o u)) IsAscii-nil)
      | false ↦ λ _. IsUtf8-from_ascii _ (IsAscii-cons 37 (to_ascii_uppercase a ∷ to_ascii_uppercase b ∷ []) (omega arith)
          (IsAscii-cons (to_ascii_uppercase a) (to_ascii_uppercase b ∷ []) (upper_digit a p)
          (IsAscii-cons (to_ascii_uppercase b) [] (upper_digit b q) IsAscii-nil)))
    ] refl

pub writes_octet : (s : Tests) (lower : Bool) (t old new : List ℕ) (at written o : ℕ) → IsSpec s → whole_triplets t ≡ true → 0 < length t
    → get_or t 0 0 ≡ 37 → o ≡ octet (get_or t 1 0) (get_or t 2 0) → (192 ≤ o → decoded s (octets t) ≡ None)
    → take written new ≡ take at old ++ octet_text lower o → Writes s lower t old new at 3 written
writes_octet s lower t old new at written o i w l e is high put =
    let d = digits t w l e in
    record {
      text = spelled_text lower o (get_or t 1 0) (get_or t 2 0);
      becomes = octet_becomes s lower t o i w l e is high;
      utf8 = octet_utf8 lower o (get_or t 1 0) (get_or t 2 0) d.high d.low;
      put = put ∙ ap (λ l. take at old ++ l) (octet_same lower o (get_or t 1 0) (get_or t 2 0) d.high d.low is);
    }

-- a decoded character past ASCII, which has no case
pub writes_char : (s : Tests) (lower : Bool) (t old new : List ℕ) (at written o c : ℕ) → whole_triplets t ≡ true → 0 < length t
    → get_or t 0 0 ≡ 37 → o ≡ octet (get_or t 1 0) (get_or t 2 0) → 192 ≤ o → Some c ≡ decoded s (o ∷ octets (drop 3 t))
    → take written new ≡ take at old ++ encode_utf8 c → Writes s lower t old new at (3 * len_utf8 c) written
writes_char s lower t old new at written o c w l e is high h put =
    let here = at_octet t o w l e is in
    record {
      text = encode_utf8 c;
      becomes = subst (λ n. Becomes s lower t 0 (3 * len_utf8 c) (encode_utf8 n)) ((case_is lower).past c (past_ascii s o c (octets (drop 3 t)) high (sym h)))
          (decodes s lower t c w e (ap (decoded s) here ∙ sym h));
      utf8 = IsUtf8-encode c (is_decoded s (o ∷ octets (drop 3 t)) c (sym h)).0.is_scalar;
      put = put;
    }

-- a letter that is lowered
pub letter_delimiter : (lower : Bool) (x : ℕ) → (lower && not (x == 37)) ≡ true → (x == 37) ≡ false
letter_delimiter true x h = elim (x == 37) as (λ b. not b ≡ true → b ≡ false) [ true ↦ λ k. cc | false ↦ λ _. refl ] h
letter_delimiter false x h = cc

pub triplet_delimiter : (lower : Bool) (x : ℕ) → stays lower x ≡ false → (lower && not (x == 37)) ≡ false → x ≡ 37
triplet_delimiter true x m h = grind (arith, nat_tests)
triplet_delimiter false x m h = grind (arith, nat_tests)

is_letter : (lower : Bool) (x : ℕ) → stays lower x ≡ false → (x == 37) ≡ false → (lower ≡ true) × (is_ascii_uppercase x ≡ true)
is_letter true x h n = (refl, grind (arith, nat_tests))
is_letter false x h n = absurd (grind (arith, nat_tests))

pub upper_below : (x : ℕ) → is_ascii_uppercase x ≡ true → x < 128
upper_below x h = grind (arith, nat_tests)

letter_at : (s : Tests) (x : ℕ) (xs : List ℕ) → is_ascii_uppercase x ≡ true → (x == 37) ≡ false → whole_triplets (x ∷ xs) ≡ true
    → Becomes s true (x ∷ xs) 0 1 (to_ascii_lowercase x ∷ [])
letter_at s x xs u n w = record {
  text = normal_plain s to_ascii_lowercase x xs n;
  within = omega arith;
  some = omega arith;
  first = upper_below x u;
  last = upper_below x u;
  whole = sym (whole_plain x xs n) ∙ w;
}

pub writes_letter : (s : Tests) (lower : Bool) (t old new : List ℕ) (at written : ℕ) → whole_triplets t ≡ true → 0 < length t
    → stays lower (get_or t 0 0) ≡ false → (get_or t 0 0 == 37) ≡ false
    → take written new ≡ take at old ++ (to_ascii_lowercase (get_or t 0 0) ∷ []) → Writes s lower t old new at 1 written
writes_letter s lower [] old new at written w l h n put = absurd (omega arith)
writes_letter s lower (x ∷ xs) old new at written w l h n put =
    let k = is_letter lower x h n in
    record {
      text = to_ascii_lowercase x ∷ [];
      becomes = subst (λ b. Becomes s b (x ∷ xs) 0 1 (to_ascii_lowercase x ∷ [])) (sym k.0) (letter_at s x xs k.1 n w);
      utf8 = IsUtf8-from_ascii _ (IsAscii-cons (to_ascii_lowercase x) [] (lower-case.below x (upper_below x k.1)) IsAscii-nil);
      put = put;
    }

pub boundary : (t : List ℕ) (at len : ℕ) → IsUtf8 t → 0 < len → get_or t (at + len - 1) 0 < 128 → at + len < length t
    → 128 ≤ get_or t (at + len) 0 → 192 ≤ get_or t (at + len) 0
boundary t at len u some low inside high =
    let next : at + len - 1 + 1 ≡ at + len = omega arith in
    subst (λ k. 192 ≤ get_or t k 0) next (lead_after_ascii t (at + len - 1) u low (omega arith)
    (subst (λ k. 128 ≤ get_or t k 0) (sym next) high))

-- what has been put, with the next run and what is written after it
pub one_change : (s : Tests) (lower : Bool) (text rest done prefix tail : List ℕ) (at len : ℕ) (l : List ℕ)
    → normal s (case_of lower) text ≡ done ++ normal s (case_of lower) rest → Becomes s lower rest at len l
    → prefix ≡ slice_range rest 0 at → tail ≡ drop (at + len) rest
    → normal s (case_of lower) text ≡ ((done ++ prefix) ++ l) ++ normal s (case_of lower) tail
one_change s lower text rest done prefix tail at len l h r f b =
    h
    ∙ ap (λ x. done ++ x) (r.text ∙ ap (λ x. x ++ (l ++ normal s (case_of lower) (drop (at + len) rest)))
    (sym (f ∙ ap (λ n. take n rest) from_start)) ∙ ap (λ x. prefix ++ (l ++ normal s (case_of lower) x)) (sym b))
    ∙ sym (append_assoc done prefix (l ++ normal s (case_of lower) tail))
    ∙ sym (append_assoc (done ++ prefix) l (normal s (case_of lower) tail))
  where
    from_start : at - 0 ≡ at
    from_start = omega arith
