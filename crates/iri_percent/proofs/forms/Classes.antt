-- Triplet normal form keeps the class of a text.
use Rattle.iri_percent.proofs.Common.{◌≡◌, ℕ, zero, suc, ◌≤◌, Bool, true, false, ◌&&◌, ◌||◌, List, [], ◌∷◌, ◌++◌, Option, Some, None}
use Rattle.iri_percent.proofs.Common.{length, refl, sym, ◌∙◌, ap, subst, arith, length-append, ◌==◌, map, chars, is_utf8, encode, encodes}
use Rattle.iri_percent.proofs.Common.{scalar, scalars, encodes-chars, scalars-chars, IsUtf8-from_is_utf8, nat_tests, Tests, IsSpec}
use Rattle.iri_percent.proofs.Common.{unreserved, reg_name_char, userinfo_char, pchar, path_char, query_char, fragment_char}
use Rattle.iri_percent.proofs.Common.{is_ascii_unreserved, is_ascii_reg_name, is_ascii_userinfo, is_ascii_pchar, is_ascii_path}
use Rattle.iri_percent.proofs.Common.{is_ascii_query, is_sub_delim, is_userinfo, is_path, is_path_segment, is_query, is_fragment, both}
use Rattle.iri_percent.proofs.Common.{by_test, is_reg_name, over, text_over, IsOver, octets, normal, as_it_is, pct, decoded}
use Rattle.iri_percent.proofs.Common.{is_ascii_hexdigit, is_ascii_uppercase, to_ascii_uppercase, to_ascii_lowercase, class_has_no_percent}
use Rattle.std.specs.Prelude.{codes}
use Rattle.std.specs.Char.{char_set_contains}
use Rattle.std.proofs.lemmas.Str.{chars-encodes, is_utf8-from_IsUtf8}
use Rattle.iri_grammar.proofs.units.OverLaws.{units-from_over, over-from_units}
use Rattle.iri_grammar.specs.declared.class.Class.TheVariants.{Pchar}
use Rattle.iri_percent.proofs.units.AtStart.{Spells, none, more, Spelled, spelled, length-spelled, encode_bytes, encodes_triplet}
use Rattle.iri_percent.proofs.forms.ByUnits.{normal_nil, normal_plains, normal_decoded, normal_kept}
use Rattle.iri_percent.proofs.forms.Stability.{IsCase, as_it_is-case, lower-case, upper_hex, encode_percent}
use Rattle.iri_percent.proofs.forms.Cases.{encode_case, case_scalar, is_decoded}
use Rattle.iri_percent.proofs.units.OfParts.{reg_name_percent, userinfo_percent, path_percent, query_percent, fragment_percent}

-- ---- texts over a class, by their bytes
pub data IsText (p : ℕ → Bool) : List ℕ → Type 0 where
  ended : IsText p []
  letter : (c : ℕ) (t : List ℕ) → scalar c ≡ true → p c ≡ true → (c == 37) ≡ false → IsText p t → IsText p (encode c ++ t)
  escape : (a b : ℕ) (t : List ℕ) → is_ascii_hexdigit a ≡ true → is_ascii_hexdigit b ≡ true → IsText p t → IsText p (37 ∷ a ∷ b ∷ t)

pub class_percent : (p : ℕ → Bool) (c : ℕ) → p 37 ≡ false → p c ≡ true → (c == 37) ≡ false
class_percent p c n h = by_test c 37 (λ b. b ≡ false) (λ e. let no : p c ≡ false = ap p e ∙ n in cc) (λ _. refl)

encoded_text : (p : ℕ → Bool) (cs : List ℕ) → p 37 ≡ false → scalars cs ≡ true → IsOver p cs → IsText p (encodes cs)
encoded_text p cs n s Rattle.iri_grammar.specs.Over.done = ended
encoded_text p cs n s (Rattle.iri_grammar.specs.Over.plain c ds h r) = let k = both (scalar c) (scalars ds) s in
    letter c (encodes ds) k.0 h (class_percent p c n h) (encoded_text p ds n k.1 r)
encoded_text p cs n s (Rattle.iri_grammar.specs.Over.triplet a b ds ha hb r) =
    let k = both (scalar a) (scalar b && scalars ds) s in
    let j = both (scalar b) (scalars ds) k.1 in
    subst (λ t. IsText p t) (sym (encodes_triplet a b ds ha hb)) (escape a b (encodes ds) ha hb (encoded_text p ds n j.1 r))

pub text-from_over : (p : ℕ → Bool) (t : List ℕ) → p 37 ≡ false → text_over p t ≡ true → IsText p t
text-from_over p t n h =
    let k = both (is_utf8 t) (over p (chars t)) h in
    let u = IsUtf8-from_is_utf8 t k.0 in
    subst (λ x. IsText p x) (encodes-chars t u) (encoded_text p (chars t) n (scalars-chars t u) (units-from_over p (chars t) k.1))

-- the characters of such a text
record Chars (p : ℕ → Bool) (t : List ℕ) : Type 0 where
  cs : List ℕ
  all : scalars cs ≡ true
  text : encodes cs ≡ t
  over : IsOver p cs

digit_scalar : (x : ℕ) → is_ascii_hexdigit x ≡ true → scalar x ≡ true
digit_scalar x h = grind (arith, nat_tests)

chars_of : (p : ℕ → Bool) (t : List ℕ) → IsText p t → Chars p t
chars_of p t ended = record { cs = []; all = refl; text = refl; over = Rattle.iri_grammar.specs.Over.done }
chars_of p t (letter c t' s h n r) = let k = chars_of p t' r in
    record {
      cs = c ∷ k.cs;
      all = rw s k.all;
      text = ap (λ l. encode c ++ l) k.text;
      over = Rattle.iri_grammar.specs.Over.plain c k.cs h k.over;
    }
chars_of p t (escape a b t' ha hb r) =
    let k = chars_of p t' r in
    record {
      cs = 37 ∷ a ∷ b ∷ k.cs;
      all = rw (digit_scalar a ha, digit_scalar b hb) k.all;
      text = encodes_triplet a b k.cs ha hb ∙ ap (λ l. 37 ∷ a ∷ b ∷ l) k.text;
      over = Rattle.iri_grammar.specs.Over.triplet a b k.cs ha hb k.over;
    }

pub over-from_text : (p : ℕ → Bool) (t : List ℕ) → p 37 ≡ false → IsText p t → text_over p t ≡ true
over-from_text p t n h =
    let k = chars_of p t h in
    let utf8 : is_utf8 t ≡ true = is_utf8-from_IsUtf8 t (k.cs, (k.all, k.text)) in
    let same : chars t ≡ k.cs = ap chars (sym k.text) ∙ chars-encodes k.cs k.all in
    let all : over p (chars t) ≡ true = ap (over p) same ∙ over-from_units p k.cs n k.over in
    rw (utf8, all) refl

-- ---- what stands after a triplet
pub after_escape : (p : ℕ → Bool) (u : List ℕ) (a b : ℕ) (t : List ℕ) → IsText p u → u ≡ 37 ∷ a ∷ b ∷ t → IsText p t
after_escape p u a b t ended e = cc
after_escape p u a b t (letter c t' s h n r) e =
    let l = encode_bytes c in
    let w : l.lead ∷ (l.tail ++ t') ≡ 37 ∷ a ∷ b ∷ t = ap (λ x. x ++ t') (sym l.split) ∙ e in
    let first : l.lead ≡ 37 = cc in
    let no : (37 == 37) ≡ false = ap (λ x. x == 37) (sym first) ∙ l.percent ∙ n in
    cc
after_escape p u a b t (escape a' b' t' ha hb r) e = let same : t' ≡ t = cc in subst (λ x. IsText p x) same r

pub after_spelled : (p : ℕ → Bool) (sp os xs : List ℕ) → Spells sp os → IsText p (sp ++ xs) → IsText p xs
after_spelled p sp os xs none h = h
after_spelled p sp os xs (more a b sp' os' ha hb k) h =
    after_spelled p sp' os' xs k (after_escape p (37 ∷ a ∷ b ∷ (sp' ++ xs)) a b (sp' ++ xs) h refl)

-- ---- the class is kept
-- a class that holds what is decoded, and letters in the other case
pub record IsKept (s : Tests) (f : ℕ → ℕ) (p : ℕ → Bool) : Type 0 where
  pub percent : p 37 ≡ false
  pub unreserved : (c : ℕ) → unreserved s c ≡ true → p c ≡ true
  pub case : (c : ℕ) → p c ≡ true → p (f c) ≡ true

letter_case : (s : Tests) (f : ℕ → ℕ) (p : ℕ → Bool) (c : ℕ) (t : List ℕ) → IsCase f → IsKept s f p → scalar c ≡ true → p c ≡ true
    → (c == 37) ≡ false → IsText p t → IsText p (map f (encode c) ++ t)
letter_case s f p c t i k h q n r = subst (λ l. IsText p (l ++ t)) (sym (encode_case f c i))
    (letter (f c) t (case_scalar f c i h) (k.case c q) (i.percent c n) r)

kept_within : (n : ℕ) (s : Tests) (f : ℕ → ℕ) (p : ℕ → Bool) (t : List ℕ) → IsCase f → IsKept s f p → length t ≤ n → IsText p t
    → IsText p (normal s f t)
kept_within n s f p t i k l ended = subst (λ x. IsText p x) (sym (normal_nil s f)) ended
kept_within zero s f p t i k l (letter c t' h q m r) = let b = encode_bytes c in
    absurd (omega (arith, l, ap length b.split, length-append (encode c) t'))
kept_within (suc n) s f p t i k l (letter c t' h q m r) =
    let b = encode_bytes c in
    let short : length t' ≤ n = omega (arith, l, ap length b.split, length-append (encode c) t') in
    subst (λ x. IsText p x) (sym (normal_plains s f (encode c) t' (encode_percent c m)))
    (letter_case s f p c (normal s f t') i k h q m (kept_within n s f p t' i k short r))
kept_within zero s f p t i k l (escape a b t' ha hb r) = absurd (omega arith)
kept_within (suc n) s f p t i k l (escape a b t' ha hb r) =
    let rest = kept_within n s f p t' i k (omega arith) r in
    at (decoded s (octets (37 ∷ a ∷ b ∷ t'))) refl rest (λ x short j. kept_within n s f p x i k short j)
  where
    at : (o : Option ℕ) → decoded s (octets (37 ∷ a ∷ b ∷ t')) ≡ o → IsText p (normal s f t')
        → ((x : List ℕ) → length x ≤ n → IsText p x → IsText p (normal s f x)) → IsText p (normal s f (37 ∷ a ∷ b ∷ t'))
    at None e rest _ = subst (λ x. IsText p x) (sym (normal_kept s f a b t' ha hb e))
        (escape (to_ascii_uppercase a) (to_ascii_uppercase b) (normal s f t') (upper_hex a ha) (upper_hex b hb) rest)
    at (Some c) e rest go = let d = is_decoded s (octets (37 ∷ a ∷ b ∷ t')) c e in
        spell c d.1 d.0.is_scalar (spelled (encode c) d.0.rest (37 ∷ a ∷ b ∷ t') d.0.split) go
      where
        spell : (c : ℕ) → unreserved s c ≡ true → scalar c ≡ true → {os : List ℕ} → Spelled (37 ∷ a ∷ b ∷ t') (encode c) os
            → ((x : List ℕ) → length x ≤ n → IsText p x → IsText p (normal s f x)) → IsText p (normal s f (37 ∷ a ∷ b ∷ t'))
        spell c u h g go =
            let q = k.unreserved c u in
            let m = class_percent p c k.percent q in
            let all : IsText p (g.sp ++ g.xs) = subst (λ x. IsText p x) g.text (escape a b t' ha hb r) in
            let short : length g.xs ≤ n = omega (arith, l, ap length g.text, length-append g.sp g.xs, length-spelled g.sp (encode c) g.spells, ap length (encode_bytes c).split) in
            subst (λ x. IsText p x) (sym (ap (normal s f) g.text ∙ normal_decoded s f c g.sp g.xs h u g.spells))
            (letter_case s f p c (normal s f g.xs) i k h q m (go g.xs short (after_spelled p g.sp (encode c) g.xs g.spells all)))

pub normal-over : (s : Tests) (f : ℕ → ℕ) (p : ℕ → Bool) (t : List ℕ) → IsCase f → IsKept s f p → text_over p t ≡ true
    → text_over p (normal s f t) ≡ true
normal-over s f p t i k h = over-from_text p (normal s f t) k.percent
    (kept_within (length t) s f p t i k (omega arith) (text-from_over p t k.percent h))

-- ---- the classes of the parts
pub wide : (a b u : Bool) → (a || u) ≡ true → ((a || b) || u) ≡ true
wide true b u h = refl
wide false true u h = refl
wide false false u h = h

pub in_reg_name : (s : Tests) (c : ℕ) → unreserved s c ≡ true → reg_name_char s c ≡ true
unfolding unreserved reg_name_char is_ascii_reg_name
in_reg_name s c h = wide (is_ascii_unreserved c) (is_sub_delim c) (s.ucs c) h

pub in_userinfo : (s : Tests) (c : ℕ) → unreserved s c ≡ true → userinfo_char s c ≡ true
unfolding unreserved reg_name_char userinfo_char is_ascii_userinfo
in_userinfo s c h = wide (is_ascii_reg_name c) (char_set_contains (codes ":") c) (s.ucs c) (in_reg_name s c h)

pub in_pchar : (s : Tests) (c : ℕ) → unreserved s c ≡ true → pchar s c ≡ true
unfolding unreserved reg_name_char pchar is_ascii_pchar
in_pchar s c h = wide (is_ascii_reg_name c) (char_set_contains (codes ":@") c) (s.ucs c) (in_reg_name s c h)

pub in_path : (s : Tests) (c : ℕ) → unreserved s c ≡ true → path_char s c ≡ true
unfolding pchar path_char is_ascii_path
in_path s c h = wide (is_ascii_pchar c) (char_set_contains (codes "/") c) (s.ucs c) (in_pchar s c h)

pub in_fragment : (s : Tests) (c : ℕ) → unreserved s c ≡ true → fragment_char s c ≡ true
unfolding pchar fragment_char is_ascii_query
in_fragment s c h = wide (is_ascii_pchar c) (char_set_contains (codes "/?") c) (s.ucs c) (in_pchar s c h)

pub more_of : (a b u : Bool) → (a || u) ≡ true → (a || u || b) ≡ true
more_of true b u h = refl
more_of false b true h = refl
more_of false b false h = cc

pub in_query : (s : Tests) (c : ℕ) → unreserved s c ≡ true → query_char s c ≡ true
unfolding fragment_char query_char
in_query s c h = more_of (is_ascii_query c) (s.priv c) (s.ucs c) (in_fragment s c h)

pct-over : (s : Tests) (p : ℕ → Bool) (t : List ℕ) → p 37 ≡ false → ((c : ℕ) → unreserved s c ≡ true → p c ≡ true) → text_over p t ≡ true
    → text_over p (pct s t) ≡ true
pct-over s p t n u h = normal-over s as_it_is p t as_it_is-case (record { percent = n; unreserved = u; case = λ c q. q }) h

pub pct-userinfo : (s : Tests) (t : List ℕ) → IsSpec s → is_userinfo s t ≡ true → is_userinfo s (pct s t) ≡ true
pct-userinfo s t k h = pct-over s (userinfo_char s) t (userinfo_percent s k) (in_userinfo s) h

pub pct-reg_name : (s : Tests) (t : List ℕ) → IsSpec s → is_reg_name s t ≡ true → is_reg_name s (pct s t) ≡ true
pct-reg_name s t k h = pct-over s (reg_name_char s) t (reg_name_percent s k) (in_reg_name s) h

pub pct-segment : (s : Tests) (t : List ℕ) → IsSpec s → is_path_segment s t ≡ true → is_path_segment s (pct s t) ≡ true
pct-segment s t k h = pct-over s (pchar s) t (class_has_no_percent s k Pchar) (in_pchar s) h

pub pct-path : (s : Tests) (t : List ℕ) → IsSpec s → is_path s t ≡ true → is_path s (pct s t) ≡ true
pct-path s t k h = pct-over s (path_char s) t (path_percent s k) (in_path s) h

pub pct-query : (s : Tests) (t : List ℕ) → IsSpec s → is_query s t ≡ true → is_query s (pct s t) ≡ true
pct-query s t k h = pct-over s (query_char s) t (query_percent s k) (in_query s) h

pub pct-fragment : (s : Tests) (t : List ℕ) → IsSpec s → is_fragment s t ≡ true → is_fragment s (pct s t) ≡ true
pct-fragment s t k h = pct-over s (fragment_char s) t (fragment_percent s k) (in_fragment s) h

-- a registered name in lower case
pub upper_unreserved : (c : ℕ) → is_ascii_uppercase c ≡ true → is_ascii_unreserved (to_ascii_lowercase c) ≡ true
unfolding is_ascii_unreserved
upper_unreserved c h = grind (arith, nat_tests)

pub other_same : (c : ℕ) → is_ascii_uppercase c ≡ false → to_ascii_lowercase c ≡ c
other_same c h = grind (arith, nat_tests)

lower_kept : (s : Tests) (p : ℕ → Bool) (c : ℕ) → ((d : ℕ) → unreserved s d ≡ true → p d ≡ true) → p c ≡ true
    → p (to_ascii_lowercase c) ≡ true
unfolding unreserved
lower_kept s p c u h =
    elim (is_ascii_uppercase c) as (λ b. is_ascii_uppercase c ≡ b → p (to_ascii_lowercase c) ≡ true) [
      | true ↦ λ e. u (to_ascii_lowercase c) (ap (λ b. b || s.ucs (to_ascii_lowercase c)) (upper_unreserved c e))
      | false ↦ λ e. ap p (other_same c e) ∙ h
    ] refl

pub lowered-reg_name : (s : Tests) (t : List ℕ) → IsSpec s → is_reg_name s t ≡ true → is_reg_name s (normal s to_ascii_lowercase t) ≡ true
lowered-reg_name s t k h = normal-over s to_ascii_lowercase (reg_name_char s) t lower-case
    (record {
      percent = reg_name_percent s k;
      unreserved = in_reg_name s;
      case = λ c q. lower_kept s (reg_name_char s) c (in_reg_name s) q;
    }) h

-- what the law of the parts says of each
pub ruleset parts_in_form = (pct-userinfo, pct-reg_name, pct-path, pct-segment, pct-query, pct-fragment)
